-- Parameters that are looked up by name.
use Rattle.std.proofs.Common.{◌≡◌, ℕ, Bool, true, false, List, [], ◌∷◌, ◌++◌, map, Option, Some, None, cond, Bor, refl, sym, ap, ◌∙◌, option_map}
use Rattle.std.{proofs.lemmas.List.{map-append}, specs.Map.{lookup}}
use Rattle.indexmap.{specs.IndexMap.{IndexMap, insert_entry}, proofs.CallerLemmas.{insert_entry-new}}
use Rattle.pc_common.specs.{declared.place.Place.{Place}, Names.{same_name}}
use Rattle.pc_syntax.specs.{declared.term.Word.{Word}, MacroFaults.{word_with_name}}
use Rattle.macro_expand.{specs.Tables.{word_at}, proofs.Names.{same_either}}

pub place_of : (es : List (Bor (List ℕ) × Place)) (name : List ℕ)
    → lookup (λ k. same_name name k.now) es ≡ option_map (λ w. w.at) (word_with_name (map word_at es) name)
place_of [] name = refl
place_of (e ∷ es) name =
    ap (λ b. cond b (Some e.1) (lookup (λ k. same_name name k.now) es)) (same_either name e.0.now)
    ∙ by (same_name e.0.now name) (place_of es name)
  where
    by : (b : Bool) → lookup (λ k. same_name name k.now) es ≡ option_map (λ w. w.at) (word_with_name (map word_at es) name)
        → cond b (Some e.1) (lookup (λ k. same_name name k.now) es)
        ≡ option_map (λ w. w.at) (cond b (Some (word_at e)) (word_with_name (map word_at es) name))
    by true rest = refl
    by false rest = rest

pub no_place : (es : List (Bor (List ℕ) × Place)) (name : List ℕ) → lookup (λ k. same_name name k.now) es ≡ None
    → word_with_name (map word_at es) name ≡ None
no_place es name e = by (word_with_name (map word_at es) name) (sym (place_of es name) ∙ e)
  where
    by : (o : Option Word) → option_map (λ w. w.at) o ≡ None → o ≡ None
    by None h = refl
    by (Some w) h = cc

pub word_more : {S : Type 0} (seen : IndexMap (Bor (List ℕ)) Place S) (new : List (Bor (List ℕ) × Place)) (k : Bor (List ℕ)) (at : Place)
    → lookup (λ x. same_name k.now x.now) seen.entries ≡ None
    → new ≡ insert_entry (λ x y. same_name x.now y.now) seen.entries k at
    → map word_at new ≡ map word_at seen.entries ++ word_at (k, at) ∷ []
word_more seen new k at none put =
    ap (map word_at) (put ∙ insert_entry-new (λ x y. same_name x.now y.now) seen k at none)
    ∙ map-append word_at seen.entries ((k, at) ∷ [])
