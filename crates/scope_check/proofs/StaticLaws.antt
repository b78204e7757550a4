-- The first fault of a predicate that the table has.
use Rattle.std.{proofs.{Common.{◌≡◌, List, Option, Some, None, length, ap, ◌∙◌, arith}, lemmas.Bool.Decides.{nat_tests}}, specs.Option.{option_or}}
use Rattle.pc_common.specs.declared.fault.FaultKind.TheVariants.{PredicateUnknown, Arity}
use Rattle.pc_syntax.specs.{declared.{term.{Word.{Word}, Arg.{Arg}}, pred.Pred.{Pred}}, Predicates.{pred_with_name, takes_of}, Scope.{Scope}, Fault.{Fault}}
use Rattle.pc_syntax.specs.NameFaults.{arity_fault, arguments_fault, static_fault}

module _ (scope : Scope) (word : Word) (args : List Arg) where
  -- the fault, where the name is that of this predicate
  of_pred : Option Pred → Option Fault
  of_pred o =
      elim o [
        | None ↦ Some (PredicateUnknown, word.at)
        | Some p ↦ option_or (arity_fault word args (takes_of p)) (arguments_fault scope (takes_of p) args)
      ]

  known : (p : Pred) → pred_with_name word.name ≡ Some p
      → static_fault scope word args ≡ option_or (arity_fault word args (takes_of p)) (arguments_fault scope (takes_of p) args)
  unfolding of_pred
  known p h = ap of_pred h

  arity_other : (p : Pred) → (length args ≡ length (takes_of p) → ⊥)
      → arity_fault word args (takes_of p) ≡ Some (Arity (length args) (length (takes_of p)), word.at)
  arity_other p other = grind (arith, nat_tests)

  arity_same : (p : Pred) → length args ≡ length (takes_of p) → arity_fault word args (takes_of p) ≡ None
  arity_same p same = grind (arith, nat_tests)

  pub static_arity : (p : Pred) → pred_with_name word.name ≡ Some p → (length args ≡ length (takes_of p) → ⊥)
      → static_fault scope word args ≡ Some (Arity (length args) (length (takes_of p)), word.at)
  static_arity p h other =
      known p h ∙ ap (λ o. option_or o (arguments_fault scope (takes_of p) args)) (arity_other p other)

  pub static_arguments : (p : Pred) → pred_with_name word.name ≡ Some p → length args ≡ length (takes_of p)
      → static_fault scope word args ≡ arguments_fault scope (takes_of p) args
  static_arguments p h same =
      known p h ∙ ap (λ o. option_or o (arguments_fault scope (takes_of p) args)) (arity_same p same)
