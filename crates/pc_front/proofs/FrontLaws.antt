-- What a whole model's stages, expansions and closings say of the model.
use Rattle.std.proofs.Common.{◌≡◌, ℕ, ◌<◌, zero, suc, ◌&&◌, List, [], ◌∷◌, ◌++◌, Option, Some, None, map, length, get_or, nat_lt, ltb-false, refl, sym, ◌∙◌, ap, subst, arith}
use Rattle.std.specs.{Option.{option_or}, Prelude.{MatchOption}}
use Rattle.pc_common.specs.{Case.{Case}, World.{Node, World}}
use Rattle.pc_syntax.specs.{declared.{model.StageItem.{StageItem}, expanded.Expanded.{Expanded}}, Written.{Written, written, WrittenModel}}
use Rattle.pc_syntax.specs.{Fault.{Fault, first_fault}, StageFaults.{number_fault, number_again, name_again, stage_fault, stages_fault, first_stage_fault}}
use Rattle.pc_syntax.specs.{MacroFaults.{first_macro_fault}, Sizes.{first_size_fault}, NameFaults.{name_fault, first_name_fault}}
use Rattle.pc_syntax.specs.{ModelFault.{first_model_fault}, Observable.{axioms_of, macros_of, setting, satisfies}, Truth.{are_true}, Expansion.{expansion_of}}
use Rattle.pc_syntax.{specs.{Closed.{closed_satisfies}, Closing.{closing_of}}, proofs.ExpansionLaws.{expansion_true, expansion_faults}}
use Rattle.pc_syntax.proofs.{ClosingTruth.{closing_true}, NoFault.{none_first, none_second, none_where}}
use Rattle.uspec_lexer.specs.{Fault.{IsLexicalRefusal}, declared.fault.LexFault.{LexFault, TheVariants.{Lexical as a_lexical_fault, Memory as no_memory}}}
use Rattle.uspec_lexer.specs.{Token.{Token}, Spells.{Spells}}
use Rattle.uspec_parser.specs.{Marks.{IsMarkedModel}, Answers.{terminals, IsParseRefusal}, declared.fault.ParseFault.{ParseFault}}
use Rattle.uspec_parser.specs.declared.fault.ParseFault.TheVariants.{Syntax as a_syntax_fault, Depth as a_depth_fault, Memory as no_memory_to_parse}
use Rattle.macro_expand.specs.Faults.{AreExpansions}
use Rattle.scope_check.specs.FirstFault.{IsNoneOr}
use Rattle.pc_front.specs.{ModelFront.{ModelOf, lexical, syntax, depth, of_tree, closed_axiom, IsModelEnd}, Ends.{end_of, lexical_end, parse_end}}
use Rattle.pc_front.specs.{ModelSteps.{axiom_fault, closing_of_axiom, IsFirstEnd}, declared.model_front.FrontEnd.{FrontEnd}}

-- a stage that is not refused has a number of one byte
numbers_below : (earlier stages : List StageItem) (k : ℕ) (s : StageItem) → stages_fault earlier stages ≡ None → k < length stages
    → s ≡ get_or stages k s → s.number < 64
numbers_below earlier [] k s f within is = absurd (omega arith)
numbers_below earlier (t ∷ ts) zero s f within is =
    let rest = stages_fault (earlier ++ t ∷ []) ts in
    let here = none_first (stage_fault earlier t) rest f in
    let number = none_first (number_fault t) (option_or (number_again earlier t) (name_again earlier t)) here in
    let most = ltb-false 63 t.number (none_where (nat_lt 63 t.number) _ number) in
    let same : s.number ≡ t.number = ap (λ (x : StageItem). x.number) is in
    omega (arith, most, same)
numbers_below earlier (t ∷ ts) (suc k) s f within is =
    numbers_below (earlier ++ t ∷ []) ts k s (none_second (stage_fault earlier t) (stages_fault (earlier ++ t ∷ []) ts) f)
    (omega (arith, within)) is

pub number_below : (stages : List StageItem) (k : ℕ) (s : StageItem) → stages_fault [] stages ≡ None → k < length stages
    → s ≡ get_or stages k s → s.number < 64
number_below stages k s f within is = numbers_below [] stages k s f within is

fault_map : {A B : Type 0} (f : B → Option Fault) (g : A → B) (xs : List A) → first_fault f (map g xs) ≡ first_fault (λ x. f (g x)) xs
fault_map f g [] = refl
fault_map f g (x ∷ xs) = ap (λ o. option_or (f (g x)) o) (fault_map f g xs)

map_map : {A B C : Type 0} (f : B → C) (g : A → B) (xs : List A) → map f (map g xs) ≡ map (λ x. f (g x)) xs
map_map f g [] = refl
map_map f g (x ∷ xs) = ap (λ ys. f (g x) ∷ ys) (map_map f g xs)

-- an axiom's first name fault is that of its expansion
pub names_expanded : (m : WrittenModel) (ws : List Written)
    → first_fault (name_fault m.stages (macros_of m) []) ws
    ≡ first_fault (λ w. name_fault m.stages [] [] (expansion_of (macros_of m) w)) ws
names_expanded m [] = refl
names_expanded m (w ∷ ws) =
    ap (λ o. option_or o (first_fault (name_fault m.stages (macros_of m) []) ws)) (expansion_faults m.stages (macros_of m) [] w)
    ∙ ap (λ o. option_or (name_fault m.stages [] [] (expansion_of (macros_of m) w)) o) (names_expanded m ws)

module _ (m : WrittenModel) (es : List Expanded) (expansions : AreExpansions m es) where
  -- the first name fault of a model is that of its expanded axioms
  pub names_of_expansions : first_fault (axiom_fault m.stages) es ≡ first_name_fault m
  names_of_expansions =
      sym (fault_map (name_fault m.stages [] []) (λ (e : Expanded). written e.body) es)
      ∙ ap (first_fault (name_fault m.stages [] [])) expansions
      ∙ fault_map (name_fault m.stages [] []) (expansion_of (macros_of m)) (axioms_of m)
      ∙ sym (names_expanded m (axioms_of m))

  -- its closed axioms are what closing makes of what expansion makes of the written ones
  pub closings_of_axioms : map (closing_of_axiom m.stages) es ≡ map (closed_axiom m) (axioms_of m)
  closings_of_axioms =
      sym (map_map (closing_of m.stages []) (λ (e : Expanded). written e.body) es)
      ∙ ap (map (closing_of m.stages [])) expansions
      ∙ map_map (closing_of m.stages []) (expansion_of (macros_of m)) (axioms_of m)

true_alike : (m : WrittenModel) (c : Case) (w : World Node) (ws : List Written)
    → first_fault (λ v. name_fault m.stages [] [] (expansion_of (macros_of m) v)) ws ≡ None
    → are_true (setting m c w) (macros_of m) ws ≡ closed_satisfies (map (closed_axiom m) ws) c w
true_alike m c w [] f = refl
true_alike m c w (v ∷ vs) f =
    let e = expansion_of (macros_of m) v in
    let rest = first_fault (λ u. name_fault m.stages [] [] (expansion_of (macros_of m) u)) vs in
    let here = expansion_true (setting m c w) (macros_of m) [] v
    ∙ closing_true (setting m c w) [] [] [] refl tt e (none_first (name_fault m.stages [] [] e) rest f) in
    let later = true_alike m c w vs (none_second (name_fault m.stages [] [] e) rest f) in
    λ i. here i && later i

-- the axioms are true exactly where the closed ones are
pub satisfied_alike : (m : WrittenModel) → first_name_fault m ≡ None → (c : Case) (w : World Node)
    → satisfies m c w ≡ closed_satisfies (map (closed_axiom m) (axioms_of m)) c w
satisfied_alike m f c w = true_alike m c w (axioms_of m) (sym (names_expanded m (axioms_of m)) ∙ f)

-- the first fault of a model, group by group
or_none : {A : Type 0} (a b : Option A) → a ≡ None → option_or a b ≡ b
or_none None b h = refl
or_none (Some x) b h = cc

or_some : {A : Type 0} (a b : Option A) (x : A) → a ≡ Some x → option_or a b ≡ Some x
or_some None b x h = cc
or_some (Some y) b x h = h

module _ (m : WrittenModel) where
  pub stage_first : (f : Fault) → first_stage_fault m ≡ Some f → first_model_fault m ≡ Some f
  stage_first f h = or_some (first_stage_fault m) _ f h

  module _ (stages : first_stage_fault m ≡ None) where
    pub expansion_first : (o : Option Fault)
        → MatchOption o (Unit {0}) (λ f. option_or (first_macro_fault m) (first_size_fault m) ≡ Some f)
        → IsNoneOr (first_model_fault m) o
    expansion_first None h = tt
    expansion_first (Some f) h =
        or_none (first_stage_fault m) _ stages ∙ by (first_macro_fault m) (first_size_fault m) (first_name_fault m) h
      where
        by : (a b c : Option Fault) → option_or a b ≡ Some f → option_or a (option_or b c) ≡ Some f
        by (Some x) b c e = e
        by None b c e = or_some b c f e

    module _ (macros : first_macro_fault m ≡ None) (sizes : first_size_fault m ≡ None) where
      pub only_names : first_model_fault m ≡ first_name_fault m
      only_names = or_none (first_stage_fault m) _ stages ∙ or_none (first_macro_fault m) _ macros ∙ or_none (first_size_fault m) _ sizes

      pub names_first : (es : List Expanded) → AreExpansions m es → (o : Option Fault)
          → IsNoneOr (first_fault (axiom_fault m.stages) es) o → IsNoneOr (first_model_fault m) o
      names_first es expansions None h = tt
      names_first es expansions (Some f) h = only_names ∙ sym (names_of_expansions m es expansions) ∙ h

-- the first fault of a model, as an end
pub front_end : (bytes : List ℕ) (m : WrittenModel) → ModelOf bytes m → (o : Option Fault)
    → IsNoneOr (first_model_fault m) o → IsModelEnd bytes (end_of o)
front_end bytes m of None is = tt
front_end bytes m of (Some f) is = (refl, of_tree of is)

pub first_end : (bytes : List ℕ) (m : WrittenModel) → ModelOf bytes m → (e : FrontEnd) → IsFirstEnd m e → IsModelEnd bytes e
first_end bytes m of e (o, is, end) = subst (IsModelEnd bytes) (sym end) (front_end bytes m of o is)

-- a fault of the bytes, as an end
pub lexical_is_end : (bytes : List ℕ) (fault : LexFault) → IsLexicalRefusal bytes fault → IsModelEnd bytes (lexical_end fault)
lexical_is_end bytes (a_lexical_fault place) is = (refl, lexical is)
lexical_is_end bytes no_memory is = tt

-- a fault of the tokens, as an end
pub parse_is_end : (bytes : List ℕ) (ts : List Token) (fault : ParseFault) → Spells bytes ts
    → IsParseRefusal IsMarkedModel (terminals ts) fault → IsModelEnd bytes (parse_end bytes ts fault)
parse_is_end bytes ts (a_syntax_fault k) spelled is = (refl, syntax spelled is refl)
parse_is_end bytes ts (a_depth_fault k) spelled is = (refl, depth spelled is refl)
parse_is_end bytes ts no_memory_to_parse spelled is = tt
