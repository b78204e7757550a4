-- Measures of expansions and of limits.
use Rattle.std.proofs.Common.{◌≡◌, ℕ, ◌+◌, ◌<◌, Bool, true, false, List, [], ◌∷◌, ◌++◌, length, min, slice_get, Option, Some, None, cond, refl, sym, ap, ◌∙◌, arith}
use Rattle.std.proofs.lemmas.List.{length_push}
use Rattle.pc_common.{specs.{declared.place.Place.{Place}, Names.{same_name}}, proofs.Places.{get_before, get_last}}
use Rattle.pc_syntax.specs.{declared.term.{Word.{Word}, Arg.{Arg}}, Written.{expand_, bind_, MacroAt}, Expansion.{parameter_names, expansion_of}}
use Rattle.pc_syntax.specs.Sizes.{expanded_size, expanded_height}
use Rattle.macro_expand.specs.{declared.measure.Measure.{Measure}, Tables.{callee_of, before}, Measures.{capped_measure, measure_of, AreMeasures}}
use borrow.Author.Count.{below_more}

module _ (at : Place) (name : Word) (args : List Arg) where
  -- what goes down the macros as the look-up of the one called does
  called : {A : Type 0} (of : List MacroAt → A) (none : A) (some : MacroAt × List MacroAt → A) → of [] ≡ none
      → ((m : MacroAt) (ms : List MacroAt) → of (m ∷ ms) ≡ cond (same_name m.name.name name.name) (some (m, ms)) (of ms)) → (ms : List MacroAt)
      → of ms ≡ elim (callee_of ms name.name) [ None ↦ none | Some p ↦ some p ]
  called of none some end more [] = end
  called of none some end more (m ∷ ms) = more m ms ∙ by (same_name m.name.name name.name) (called of none some end more ms)
    where
      by : (b : Bool) → of ms ≡ elim (callee_of ms name.name) [ None ↦ none | Some p ↦ some p ]
          → cond b (some (m, ms)) (of ms) ≡ elim (cond b (Some (m, ms)) (callee_of ms name.name)) [ None ↦ none | Some p ↦ some p ]
      by true rest = refl
      by false rest = rest

  pub size_called : (ms : List MacroAt) → expanded_size ms (expand_ at name args)
      ≡ elim (callee_of ms name.name) [ None ↦ 1 | Some p ↦ 1 + expanded_size p.1 p.0.body ]
  size_called ms = called (λ ns. expanded_size ns (expand_ at name args)) 1 (λ p. 1 + expanded_size p.1 p.0.body) refl (λ m ns. refl) ms

  pub height_called : (ms : List MacroAt) → expanded_height ms (expand_ at name args)
      ≡ elim (callee_of ms name.name) [ None ↦ 0 | Some p ↦ 1 + expanded_height p.1 p.0.body ]
  height_called ms = called (λ ns. expanded_height ns (expand_ at name args)) 0 (λ p. 1 + expanded_height p.1 p.0.body) refl (λ m ns. refl) ms

  pub expansion_called : (ms : List MacroAt) → expansion_of ms (expand_ at name args)
      ≡ elim (callee_of ms name.name) [ None ↦ expand_ at name args | Some p ↦ bind_ at (parameter_names p.0) args (expansion_of p.1 p.0.body) ]
  expansion_called ms =
      called (λ ns. expansion_of ns (expand_ at name args)) (expand_ at name args)
      (λ p. bind_ at (parameter_names p.0) args (expansion_of p.1 p.0.body)) refl (λ m ns. refl) ms

  -- the measure of an expansion is that of its macro's body, and one more
  pub measure_found : (ms : List MacroAt) (p : MacroAt × List MacroAt) (m : Measure) → callee_of ms name.name ≡ Some p → m ≡ measure_of p.1 p.0.body
      → capped_measure (1 + m.size) (1 + m.height) ≡ measure_of ms (expand_ at name args)
  measure_found ms p m e is =
      let size = size_called ms ∙ ap (λ o. elim o [ None ↦ 1 | Some q ↦ 1 + expanded_size q.1 q.0.body ]) e in
      let height = height_called ms ∙ ap (λ o. elim o [ None ↦ 0 | Some q ↦ 1 + expanded_height q.1 q.0.body ]) e in
      ap (λ x. capped_measure (1 + x.size) (1 + x.height)) is
      ∙ one_more (expanded_size p.1 p.0.body) (expanded_height p.1 p.0.body)
      ∙ (λ i. capped_measure (sym size i) (sym height i))
    where
      one_more : (n h : ℕ) → capped_measure (1 + min n 1000001) (1 + min h 513) ≡ capped_measure (1 + n) (1 + h)
      one_more n h =
          let a : min (1 + min n 1000001) 1000001 ≡ min (1 + n) 1000001 = omega arith in
          let b : min (1 + min h 513) 513 ≡ min (1 + h) 513 = omega arith in
          λ i. record { size = a i; height = b i }

  pub measure_not_found : (ms : List MacroAt) → callee_of ms name.name ≡ None → capped_measure (1 + 0) 0 ≡ measure_of ms (expand_ at name args)
  measure_not_found ms e =
      let size = size_called ms ∙ ap (λ o. elim o [ None ↦ 1 | Some q ↦ 1 + expanded_size q.1 q.0.body ]) e in
      let height = height_called ms ∙ ap (λ o. elim o [ None ↦ 0 | Some q ↦ 1 + expanded_height q.1 q.0.body ]) e in
      λ i. capped_measure (sym size i) (sym height i)

same_macro : (m n : MacroAt) → ◌≡◌ {A = Option MacroAt} (Some m) (Some n) → m ≡ n
same_macro m n e = cc

-- one more measure
pub measures_more : (ms : List MacroAt) (measures : List Measure) (m : MacroAt) (x : Measure) → AreMeasures ms measures
    → slice_get ms (length measures) ≡ Some m → x ≡ measure_of (before ms (length measures)) m.body → AreMeasures ms (measures ++ x ∷ [])
measures_more ms measures m x known here is = λ k y within found.
    below_more
    (λ j. (z : MacroAt) → slice_get ms j ≡ Some z → slice_get (measures ++ x ∷ []) j ≡ Some (measure_of (before ms j) z.body))
    (length measures)
    (λ j below z at. get_before measures (x ∷ []) j below ∙ known j z below at)
    (λ z at.
    get_last measures x ∙ ap Some is
    ∙ ap (λ n. Some (measure_of (before ms (length measures)) n.body)) (same_macro m z (sym here ∙ at)))
    k (omega (arith, length_push measures x, within)) y found

module _ (at : Place) (name : Word) (args : List Arg) (ms : List MacroAt) where
  -- the body of an expansion's macro is lower than the expansion
  pub lower : (p : MacroAt × List MacroAt) → callee_of ms name.name ≡ Some p → expanded_height p.1 p.0.body < expanded_height ms (expand_ at name args)
  lower p e =
      let height = height_called at name args ms ∙ ap (λ o. elim o [ None ↦ 0 | Some q ↦ 1 + expanded_height q.1 q.0.body ]) e in
      omega (arith, height)

  pub expansion_found : (p : MacroAt × List MacroAt) → callee_of ms name.name ≡ Some p
      → expansion_of ms (expand_ at name args) ≡ bind_ at (parameter_names p.0) args (expansion_of p.1 p.0.body)
  expansion_found p e =
      expansion_called at name args ms
      ∙ ap (λ o. elim o [ None ↦ expand_ at name args | Some q ↦ bind_ at (parameter_names q.0) args (expansion_of q.1 q.0.body) ]) e

  pub expansion_not_found : callee_of ms name.name ≡ None → expansion_of ms (expand_ at name args) ≡ expand_ at name args
  expansion_not_found e =
      expansion_called at name args ms
      ∙ ap (λ o. elim o [ None ↦ expand_ at name args | Some q ↦ bind_ at (parameter_names q.0) args (expansion_of q.1 q.0.body) ]) e
