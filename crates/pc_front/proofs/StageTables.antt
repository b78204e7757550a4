-- The stages of a model without stage faults have numbers below 64 and names, and no two have one number or one name.
use Rattle.std.proofs.Common.{◌≡◌, ℕ, zero, suc, ◌<◌, ◌⊎◌, inl, inr, Bool, true, false, cond, List, [], ◌∷◌, ◌++◌, Option, Some, None, map, slice_get, nat_lt, ltb-false, refl, sym, ◌∙◌, ap, subst, arith}
use Rattle.std.{proofs.lemmas.Bool.{eq-eqb}, specs.{Prelude.{IsTrue, unwrap_or}, Option.{option_or, option_map}}}
use Rattle.pc_common.specs.{Lines.{StageName}, Names.{same_name}}
use Rattle.pc_syntax.specs.{declared.model.StageItem.{StageItem}, Stages.{stage_with_number, stage_with_name}}
use Rattle.pc_syntax.specs.StageFaults.{number_fault, number_again, name_again, stage_fault, stages_fault}
use Rattle.pc_syntax.proofs.NoFault.{none_first, none_second, none_where}
use Rattle.macro_expand.proofs.Names.{is_same}
use Rattle.uspec_lexer.specs.Bytes.{is_name}
use Rattle.pc_ground.specs.Stages.{AreStages}
use Rattle.pc_front.specs.ModelFront.{written_stage}

abbrev In : {X : Type 0} → X → List X → Type 0
In x [] = ⊥
In x (y ∷ ys) = (y ≡ x) ⊎ In x ys

in_front : {X : Type 0} (x : X) (xs ys : List X) → In x xs → In x (xs ++ ys)
in_front x [] ys h = absurd h
in_front x (y ∷ xs) ys (inl e) = inl e
in_front x (y ∷ xs) ys (inr i) = inr (in_front x xs ys i)

in_end : {X : Type 0} (x : X) (xs : List X) → In x (xs ++ x ∷ [])
in_end x [] = inl refl
in_end x (y ∷ xs) = inr (in_end x xs)

-- a first one that is not there
none_here : {X : Type 0} (b : Bool) (x : X) (o : Option X) → cond b (Some x) o ≡ None → (b ≡ false) × (o ≡ None)
none_here true x o h = cc
none_here false x o h = (refl, h)

map_none : {X Y : Type 0} (f : X → Y) (o : Option X) → option_map f o ≡ None → o ≡ None
map_none f None h = refl
map_none f (Some x) h = cc

not_numbered : (es : List StageItem) (n : ℕ) (e : StageItem) → stage_with_number es n ≡ None → In e es → e.number ≡ n → ⊥
not_numbered [] n e none i same = i
not_numbered (s ∷ ss) n e none (inl is) same =
    let here = (none_here _ s (stage_with_number ss n) none).0 in
    let that = eq-eqb s.number n (ap (λ (x : StageItem). x.number) is ∙ same) in
    cc
not_numbered (s ∷ ss) n e none (inr i) same = not_numbered ss n e (none_here _ s (stage_with_number ss n) none).1 i same

not_called : (es : List StageItem) (name : List ℕ) (e : StageItem) → stage_with_name es name ≡ None → In e es → e.name.name ≡ name → ⊥
not_called [] name e none i same = i
not_called (s ∷ ss) name e none (inl is) same =
    let here = (none_here (same_name s.name.name name) s (stage_with_name ss name) none).0 in
    let that = is_same s.name.name name (ap (λ (x : StageItem). x.name.name) is ∙ same) in
    cc
not_called (s ∷ ss) name e none (inr i) same =
    not_called ss name e (none_here (same_name s.name.name name) s (stage_with_name ss name) none).1 i same

-- no earlier stage has the number or the name of a stage that is not refused
fresh : (earlier : List StageItem) (s : StageItem) → stage_fault earlier s ≡ None → (e : StageItem) → In e earlier
    → (e.number ≡ s.number → ⊥) × (e.name.name ≡ s.name.name → ⊥)
fresh earlier s f e i =
    let again = none_second (number_fault s) (option_or (number_again earlier s) (name_again earlier s)) f in
    let by_number = map_none _ (stage_with_number earlier s.number) (none_first (number_again earlier s) (name_again earlier s) again) in
    let by_name = map_none _ (stage_with_name earlier s.name.name) (none_second (number_again earlier s) (name_again earlier s) again) in
    (not_numbered earlier s.number e by_number i, not_called earlier s.name.name e by_name i)

later_fresh : (earlier ss : List StageItem) (k : ℕ) (t e : StageItem) → stages_fault earlier ss ≡ None → slice_get ss k ≡ Some t → In e earlier
    → (e.number ≡ t.number → ⊥) × (e.name.name ≡ t.name.name → ⊥)
later_fresh earlier [] k t e f at i = cc
later_fresh earlier (s ∷ ss) zero t e f at i =
    let same : s ≡ t = ap (λ o. unwrap_or o s) at in
    subst (λ (x : StageItem). (e.number ≡ x.number → ⊥) × (e.name.name ≡ x.name.name → ⊥)) same
    (fresh earlier s (none_first (stage_fault earlier s) (stages_fault (earlier ++ s ∷ []) ss) f) e i)
later_fresh earlier (s ∷ ss) (suc k) t e f at i =
    later_fresh (earlier ++ s ∷ []) ss k t e (none_second (stage_fault earlier s) (stages_fault (earlier ++ s ∷ []) ss) f) at
    (in_front e earlier (s ∷ []) i)

-- two stages at different places differ in number and name
apart : (earlier ss : List StageItem) (j k : ℕ) (s t : StageItem) → stages_fault earlier ss ≡ None
    → slice_get ss j ≡ Some s → slice_get ss k ≡ Some t → (s.number ≡ t.number) ⊎ (s.name.name ≡ t.name.name) → j ≡ k
apart earlier [] j k s t f p q same = cc
apart earlier (x ∷ ss) zero zero s t f p q same = refl
apart earlier (x ∷ ss) zero (suc k) s t f p q same =
    let is : x ≡ s = ap (λ o. unwrap_or o x) p in
    let rest = none_second (stage_fault earlier x) (stages_fault (earlier ++ x ∷ []) ss) f in
    let far = later_fresh (earlier ++ x ∷ []) ss k t x rest q (in_end x earlier) in
    absurd (elim same [
      | inl e ↦ far.0 (ap (λ (y : StageItem). y.number) is ∙ e)
      | inr e ↦ far.1 (ap (λ (y : StageItem). y.name.name) is ∙ e)
    ])
apart earlier (x ∷ ss) (suc j) zero s t f p q same =
    let is : x ≡ t = ap (λ o. unwrap_or o x) q in
    let rest = none_second (stage_fault earlier x) (stages_fault (earlier ++ x ∷ []) ss) f in
    let far = later_fresh (earlier ++ x ∷ []) ss j s x rest p (in_end x earlier) in
    absurd (elim same [
      | inl e ↦ far.0 (ap (λ (y : StageItem). y.number) is ∙ sym e)
      | inr e ↦ far.1 (ap (λ (y : StageItem). y.name.name) is ∙ sym e)
    ])
apart earlier (x ∷ ss) (suc j) (suc k) s t f p q same =
    ap suc (apart (earlier ++ x ∷ []) ss j k s t (none_second (stage_fault earlier x) (stages_fault (earlier ++ x ∷ []) ss) f) p q same)

numbers : (earlier ss : List StageItem) (k : ℕ) (s : StageItem) → stages_fault earlier ss ≡ None → slice_get ss k ≡ Some s → s.number < 64
numbers earlier [] k s f at = cc
numbers earlier (x ∷ ss) zero s f at =
    let here = none_first (stage_fault earlier x) (stages_fault (earlier ++ x ∷ []) ss) f in
    let number = none_first (number_fault x) (option_or (number_again earlier x) (name_again earlier x)) here in
    let most = ltb-false 63 x.number (none_where (nat_lt 63 x.number) _ number) in
    let same : x.number ≡ s.number = ap (λ o. (unwrap_or o x).number) at in
    omega (arith, most, same)
numbers earlier (x ∷ ss) (suc k) s f at =
    numbers (earlier ++ x ∷ []) ss k s (none_second (stage_fault earlier x) (stages_fault (earlier ++ x ∷ []) ss) f) at

-- a stage as written
from_map : (ss : List StageItem) (k : ℕ) (p : StageName) → slice_get (map written_stage ss) k ≡ Some p
    → (s : StageItem) × (slice_get ss k ≡ Some s) × (written_stage s ≡ p)
from_map [] k p h = cc
from_map (s ∷ ss) zero p h = (s, refl, ap (λ o. unwrap_or o (written_stage s)) h)
from_map (s ∷ ss) (suc k) p h = from_map ss k p h

pub are_stages_of : (ss : List StageItem) → stages_fault [] ss ≡ None
    → ((k : ℕ) (s : StageItem) → slice_get ss k ≡ Some s → IsTrue (is_name s.name.name)) → AreStages (map written_stage ss)
are_stages_of ss f named = record {
  numbers = λ k p h. let s = from_map ss k p h in subst (λ (x : StageName). x.0 < 64) s.2 (numbers [] ss k s.0 f s.1);
  names = λ k p h. let s = from_map ss k p h in subst (λ (x : StageName). IsTrue (is_name x.1)) s.2 (named k s.0 s.1);
  one_number = λ j k p q h i same.
      let s = from_map ss j p h in
      let t = from_map ss k q i in
      apart [] ss j k s.0 t.0 f s.1 t.1 (inl (ap (λ (x : StageName). x.0) s.2 ∙ same ∙ sym (ap (λ (x : StageName). x.0) t.2)));
  one_name = λ j k p q h i same.
      let s = from_map ss j p h in
      let t = from_map ss k q i in
      apart [] ss j k s.0 t.0 f s.1 t.1 (inr (ap (λ (x : StageName). x.1) s.2 ∙ same ∙ sym (ap (λ (x : StageName). x.1) t.2)));
}
