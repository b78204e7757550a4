-- Expansion keeps the truth, the size, the height and the first name fault of a formula.
use Rattle.std.{proofs.Common.{◌≡◌, Bool, true, false, not, ◌&&◌, ◌||◌, List, [], ◌∷◌, ◌++◌, cond, refl}, specs.List.{list_any, list_all}}
use Rattle.std.specs.Option.{option_or}
use Rattle.pc_syntax.specs.{declared.model.StageItem.{StageItem}, Written.{Written, not_, and_, or_, implies_, forall_, exists_, expand_, bind_, MacroAt}}
use Rattle.pc_syntax.specs.{Truth.{Environment, Setting, bound_to, range_of, is_true}, Expansion.{parameter_names, expansion_of}}
use Rattle.pc_syntax.specs.{Scope.{Scope, quantified_in, bound_in}, NameFaults.{scope_fault, binding_fault, name_fault}}
use Rattle.pc_common.specs.Names.{same_name}

-- what is read off the formula that a test chooses
pub choose : {A : Type 0} (f : Written → A) (b : Bool) (x y : A) (v w : Written)
    → x ≡ f v → y ≡ f w → cond b x y ≡ f (cond b v w)
choose f true x y v w p q = p
choose f false x y v w p q = q

pub expansion_true : (s : Setting) (ms : List MacroAt) (env : Environment) (w : Written)
    → is_true s ms env w ≡ is_true s [] env (expansion_of ms w)
expansion_true s ms env (not_ p) = λ i. not (expansion_true s ms env p i)
expansion_true s ms env (and_ p q) = λ i. expansion_true s ms env p i && expansion_true s ms env q i
expansion_true s ms env (or_ p q) = λ i. expansion_true s ms env p i || expansion_true s ms env q i
expansion_true s ms env (implies_ p q) = λ i. not (expansion_true s ms env p i) || expansion_true s ms env q i
expansion_true s ms env (forall_ at sort name p) =
    λ i. list_all (λ v. expansion_true s ms ((name, v) ∷ env) p i) (range_of s.case sort)
expansion_true s ms env (exists_ at sort name p) =
    λ i. list_any (λ v. expansion_true s ms ((name, v) ∷ env) p i) (range_of s.case sort)
expansion_true s ms env (bind_ at names args p) = expansion_true s ms (bound_to env names args ++ env) p
expansion_true s (m ∷ ms) env (expand_ at name args) =
    choose (λ w. is_true s [] env w) (same_name m.name.name name.name) _ _
    (bind_ at (parameter_names m) args (expansion_of ms m.body))
    (expansion_of ms (expand_ at name args))
    (expansion_true s ms (bound_to env (parameter_names m) args ++ env) m.body)
    (expansion_true s ms env (expand_ at name args))
expansion_true s ms env w = refl

pub expansion_faults : (stages : List StageItem) (ms : List MacroAt) (scope : Scope) (w : Written)
    → name_fault stages ms scope w ≡ name_fault stages [] scope (expansion_of ms w)
expansion_faults stages ms scope (not_ p) = expansion_faults stages ms scope p
expansion_faults stages ms scope (and_ p q) =
    λ i. option_or (expansion_faults stages ms scope p i) (expansion_faults stages ms scope q i)
expansion_faults stages ms scope (or_ p q) =
    λ i. option_or (expansion_faults stages ms scope p i) (expansion_faults stages ms scope q i)
expansion_faults stages ms scope (implies_ p q) =
    λ i. option_or (expansion_faults stages ms scope p i) (expansion_faults stages ms scope q i)
expansion_faults stages ms scope (forall_ at sort name p) =
    let inside = quantified_in scope name sort in
    λ i. option_or (scope_fault at inside) (expansion_faults stages ms inside p i)
expansion_faults stages ms scope (exists_ at sort name p) =
    let inside = quantified_in scope name sort in
    λ i. option_or (scope_fault at inside) (expansion_faults stages ms inside p i)
expansion_faults stages ms scope (bind_ at names args p) =
    λ i. option_or (binding_fault scope at names args) (expansion_faults stages ms (bound_in scope names args) p i)
expansion_faults stages (m ∷ ms) scope (expand_ at name args) =
    choose (λ w. name_fault stages [] scope w) (same_name m.name.name name.name) _ _
    (bind_ at (parameter_names m) args (expansion_of ms m.body))
    (expansion_of ms (expand_ at name args))
    (λ i. option_or
    (binding_fault scope at (parameter_names m) args)
    (expansion_faults stages ms (bound_in scope (parameter_names m) args) m.body i))
    (expansion_faults stages ms scope (expand_ at name args))
expansion_faults stages ms scope w = refl
