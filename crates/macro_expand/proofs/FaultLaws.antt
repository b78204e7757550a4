-- Faults that are judged one after another.
use Rattle.std.proofs.Common.{◌≡◌, ℕ, Bool, true, false, List, [], ◌∷◌, Option, Some, None, Result, MatchOption, cond, refl, sym, ap, subst, ◌∙◌, option_map}
use Rattle.std.specs.Option.{option_or}
use Rattle.pc_common.specs.{declared.fault.FaultKind.TheVariants.{MacroAgain, MacroUnknown}, Names.{same_name}}
use Rattle.pc_syntax.specs.{declared.term.{Word.{Word}, Arg.{Arg}}, Written.{MacroAt}, Fault.{Fault}}
use Rattle.pc_syntax.specs.MacroFaults.{macro_with_name, macro_again, count_fault, call_fault}
use Rattle.macro_expand.specs.{declared.fault.MacroFault.{MacroFault}, Faults.{macro_fault_of, IsFault, Judges}, Tables.{callee_of}}

-- the fault of the first part is that of the whole
pub first_kept : (a b : Option Fault) (answer : MacroFault) → IsFault a answer → IsFault (option_or a b) answer
first_kept a b answer h = by (macro_fault_of answer) h
  where
    by : (t : Option Fault) → MatchOption t (Unit {0}) (λ told. a ≡ Some told) → MatchOption t (Unit {0}) (λ told. option_or a b ≡ Some told)
    by None h = tt
    by (Some told) h = ap (λ o. option_or o b) h

-- where the first part has no fault, the second decides
pub second_kept : (a b : Option Fault) (answer : MacroFault) → a ≡ None → IsFault b answer → IsFault (option_or a b) answer
second_kept a b answer none h = subst (λ o. IsFault (option_or o b) answer) (sym none) h

pub second_judged : {A : Type 0} (a b : Option Fault) (r : Result A MacroFault) → a ≡ None → Judges b r → Judges (option_or a b) r
second_judged a b r none h = subst (λ o. Judges (option_or o b) r) (sym none) h

-- the macro of a name is that of its call
pub called_macro : (ms : List MacroAt) (name : List ℕ) → macro_with_name ms name ≡ option_map (λ p. p.0) (callee_of ms name)
called_macro [] name = refl
called_macro (m ∷ ms) name = by (same_name m.name.name name) (called_macro ms name)
  where
    by : (b : Bool) → macro_with_name ms name ≡ option_map (λ p. p.0) (callee_of ms name)
        → cond b (Some m) (macro_with_name ms name) ≡ option_map (λ p. p.0) (cond b (Some (m, ms)) (callee_of ms name))
    by true rest = refl
    by false rest = rest

module _ (ms : List MacroAt) (name : Word) where
  pub call_found : {A : Type 0} (args : List Arg) (p : MacroAt × List MacroAt) (r : Result A MacroFault) → callee_of ms name.name ≡ Some p
      → Judges (count_fault name args p.0) r → Judges (call_fault ms name args) r
  call_found args p r e h =
      subst (λ o. Judges (elim o [ None ↦ Some (MacroUnknown, name.at) | Some m ↦ count_fault name args m ]) r)
      (sym (called_macro ms name.name ∙ ap (option_map (λ q. q.0)) e)) h

  pub call_unknown : (args : List Arg) → callee_of ms name.name ≡ None → call_fault ms name args ≡ Some (MacroUnknown, name.at)
  call_unknown args e =
      ap (λ o. elim o [ None ↦ Some (MacroUnknown, name.at) | Some m ↦ count_fault name args m ])
      (called_macro ms name.name ∙ ap (option_map (λ q. q.0)) e)

  pub named_again : (p : MacroAt × List MacroAt) → callee_of ms name.name ≡ Some p
      → macro_again ms name ≡ Some (MacroAgain p.0.name.at name.at, name.at)
  named_again p e =
      ap (option_map (λ m. (MacroAgain m.name.at name.at, name.at))) (called_macro ms name.name ∙ ap (option_map (λ q. q.0)) e)

  pub named_newly : callee_of ms name.name ≡ None → macro_again ms name ≡ None
  named_newly e =
      ap (option_map (λ m. (MacroAgain m.name.at name.at, name.at))) (called_macro ms name.name ∙ ap (option_map (λ q. q.0)) e)
