-- Small models for which the first faults, heights and sizes are known.
use Rattle.std.{proofs.Common.{◌≡◌, ℕ, ◌+◌, zero, suc, List, [], ◌∷◌, Some, None, refl}, specs.Prelude.{codes}}
use Rattle.pc_common.specs.declared.place.Place.{Place}
use Rattle.pc_common.specs.declared.fault.FaultKind.TheVariants.{StageNumber, StageAgain, MacroAgain, MacroUnknown, MacroArguments, ParameterAgain, PredicateUnknown, Arity, Unbound, WrongSort, CoreNumber, StageUnknown, TooManyVariables}
use Rattle.pc_syntax.specs.declared.term.{Sort.TheVariants.{Microop, Core}, Word.{Word}, Arg.{Arg, TheVariants.{Word as word_arg, Number as number_arg}}}
use Rattle.pc_syntax.specs.{declared.model.StageItem.{StageItem}, Predicates.{all_preds}}
use Rattle.pc_syntax.specs.Written.{Written, not_, and_, forall_, static_, nodes_, expand_, MacroAt, WrittenItem, axiom_, macro_, WrittenModel}
use Rattle.pc_syntax.specs.{Sizes.{expanded_size, expanded_height}, StageFaults.{first_stage_fault}, MacroFaults.{first_macro_fault}}
use Rattle.pc_syntax.specs.NameFaults.{first_name_fault}

abbrev at : ℕ → Place
at n = record { offset = n }

abbrev word : List ℕ → ℕ → Word
word name place = record { name = name; at = at place }

abbrev variable : List ℕ → ℕ → Arg
variable name place = word_arg (word name place)

abbrev stage : ℕ → ℕ → List ℕ → ℕ → StageItem
stage number number_at name name_at = record { number = number; number_at = at number_at; name = word name name_at }

abbrev model : List StageItem → List WrittenItem → WrittenModel
model stages items = record { stages = stages; items = items }

-- the axiom alone, with its word at 0
abbrev axiom_alone : Written → WrittenModel
axiom_alone body = model (stage 0 10 (codes "S") 12 ∷ []) (axiom_ (at 0) body ∷ [])

truth : Written
truth = static_ (word (codes "True") 90) []

stage_number : first_stage_fault (model (stage 64 10 (codes "S") 13 ∷ []) []) ≡ Some (StageNumber 64, at 10)
stage_number = refl

-- the number is judged before the name
stage_again : first_stage_fault (model (stage 1 10 (codes "S") 12 ∷ stage 1 30 (codes "S") 32 ∷ []) [])
    ≡ Some (StageAgain (at 10) (at 30), at 30)
stage_again = refl

name_again : first_stage_fault (model (stage 1 10 (codes "S") 12 ∷ stage 2 30 (codes "S") 32 ∷ []) [])
    ≡ Some (StageAgain (at 12) (at 32), at 32)
name_again = refl

-- a macro does not see itself
recursive_macro :
    first_macro_fault
    (model []
    (macro_ (record { name = word (codes "m") 12; parameters = []; body = expand_ (at 17) (word (codes "m") 29) [] }) ∷ []))
    ≡ Some (MacroUnknown, at 29)
recursive_macro = refl

parameter_again :
    first_macro_fault
    (model []
    (macro_ (record { name = word (codes "m") 12; parameters = word (codes "a") 16 ∷ word (codes "a") 20 ∷ []; body = truth }) ∷ []))
    ≡ Some (ParameterAgain (at 16) (at 20), at 20)
unfolding truth
parameter_again = refl

macro_arguments :
    first_macro_fault
    (model []
    (macro_ (record { name = word (codes "m") 12; parameters = word (codes "a") 16 ∷ []; body = truth })
    ∷ axiom_ (at 34) (expand_ (at 45) (word (codes "m") 57) []) ∷ []))
    ≡ Some (MacroArguments 0 1, at 57)
unfolding truth
macro_arguments = refl

-- of two macros of one name an axiom before the second names the first
first_of_two :
    first_macro_fault
    (model []
    (macro_ (record { name = word (codes "m") 12; parameters = word (codes "a") 16 ∷ []; body = truth })
    ∷ axiom_ (at 34) (expand_ (at 45) (word (codes "m") 57) [])
    ∷ macro_ (record { name = word (codes "m") 72; parameters = []; body = truth }) ∷ []))
    ≡ Some (MacroArguments 0 1, at 57)
unfolding truth
first_of_two = refl

macro_again :
    first_macro_fault
    (model []
    (macro_ (record { name = word (codes "m") 12; parameters = []; body = truth })
    ∷ axiom_ (at 34) (expand_ (at 45) (word (codes "m") 57) [])
    ∷ macro_ (record { name = word (codes "m") 72; parameters = word (codes "a") 76 ∷ []; body = truth }) ∷ []))
    ≡ Some (MacroAgain (at 12) (at 72), at 72)
unfolding truth
macro_again = refl

wrong_sort :
    first_name_fault (axiom_alone (forall_ (at 11) Core (codes "c") (static_ (word (codes "IsAnyRead") 29) (variable (codes "c") 39 ∷ []))))
    ≡ Some (WrongSort, at 39)
unfolding all_preds
wrong_sort = refl

core_number :
    first_name_fault (axiom_alone (static_ (word (codes "OnCore") 11) (number_arg 64 (at 18) ∷ variable (codes "i") 21 ∷ [])))
    ≡ Some (CoreNumber 64, at 18)
unfolding all_preds
core_number = refl

predicate_unknown : first_name_fault (axiom_alone (static_ (word (codes "Shared") 11) (variable (codes "i") 18 ∷ []))) ≡ Some (PredicateUnknown, at 11)
unfolding all_preds
predicate_unknown = refl

arity : first_name_fault (axiom_alone (static_ (word (codes "IsAnyRead") 11) [])) ≡ Some (Arity 0 1, at 11)
unfolding all_preds
arity = refl

unbound :
    first_name_fault (axiom_alone (nodes_ (record { op = word (codes "i") 23; core = None; stage = word (codes "S") 26 } ∷ [])))
    ≡ Some (Unbound, at 23)
unbound = refl

stage_unknown :
    first_name_fault
    (axiom_alone (forall_ (at 11) Microop (codes "i") (nodes_ (record { op = word (codes "i") 23; core = None; stage = word (codes "T") 26 } ∷ []))))
    ≡ Some (StageUnknown, at 26)
stage_unknown = refl

-- as many quantifiers, with places from this one on, 21 bytes apart
abbrev nested : ℕ → ℕ → Written
nested place zero = truth
nested place (suc n) = forall_ (at place) Microop (codes "i") (nested (place + 21) n)

variables_32 : first_name_fault (axiom_alone (nested 11 32)) ≡ None
unfolding truth all_preds
variables_32 = refl

variables_33 : first_name_fault (axiom_alone (nested 11 33)) ≡ Some (TooManyVariables 32, at 683)
unfolding truth all_preds
variables_33 = refl

-- a macro of each number up to this one, whose body is `~ExpandMacro` of the one before, latest first
abbrev tower : ℕ → List MacroAt
tower zero = record { name = word (0 ∷ []) 0; parameters = []; body = truth } ∷ []
tower (suc n) =
    record { name = word (suc n ∷ []) 0; parameters = []; body = not_ (expand_ (at 0) (word (n ∷ []) 0) []) } ∷ tower n

height_511 : expanded_height (tower 255) (expand_ (at 0) (word (255 ∷ []) 0) []) ≡ 511
unfolding truth
height_511 = refl

height_513 : expanded_height (tower 256) (expand_ (at 0) (word (256 ∷ []) 0) []) ≡ 513
unfolding truth
height_513 = refl

-- the same with two expansions of the one before, joined
abbrev wide_tower : ℕ → List MacroAt
wide_tower zero = record { name = word (0 ∷ []) 0; parameters = []; body = truth } ∷ []
wide_tower (suc n) =
    let before = expand_ (at 0) (word (n ∷ []) 0) [] in
    record { name = word (suc n ∷ []) 0; parameters = []; body = and_ before before } ∷ wide_tower n

-- 4 * 2 ^ n - 2
size_30 : expanded_size (wide_tower 3) (expand_ (at 0) (word (3 ∷ []) 0) []) ≡ 30
unfolding truth
size_30 = refl
