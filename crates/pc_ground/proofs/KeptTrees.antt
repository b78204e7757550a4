-- Expansion and closing keep what a formula says of a test, connective by connective.
use Rattle.std.{proofs.Common.{◌≡◌, ℕ, List, [], ◌∷◌, ◌++◌, None, length, map, refl, sym, ◌∙◌, ap}, specs.Option.{option_or}}
use Rattle.pc_common.specs.{Case.{Case, cores_of}, Names.{same_name}, World.{Node, World}}
use Rattle.pc_syntax.specs.declared.{term.{Sort.{Sort, TheVariants.{Microop, Core}}, NodeTerm.{NodeTerm}, EdgeTerm.{EdgeTerm}}, model.StageItem.{StageItem}}
use Rattle.pc_syntax.specs.Written.{Written, not_, and_, or_, implies_, forall_, exists_, static_, nodes_, edges_, expand_, bind_, MacroAt, WrittenModel}
use Rattle.pc_syntax.specs.{Truth.{Meaning, an_op, a_core, Environment, bound_to, node_of, below, range_of}, Observable.{axioms_of, macros_of}}
use Rattle.pc_syntax.specs.{Expansion.{parameter_names, expansion_of}, Closed.{closed_value, closed_node}}
use Rattle.pc_syntax.specs.{Closing.{closing_of_bound, closing_of_node, closing_of_edge, closing_of}, Scope.{Scope, quantified_in, bound_in}}
use Rattle.pc_syntax.specs.{Fits.{Fits, sort_of_meaning}, Fault.{first_fault}}
use Rattle.pc_syntax.specs.NameFaults.{node_fault, edge_fault, value_fault, scope_fault, binding_fault, name_fault, first_name_fault}
use Rattle.pc_syntax.specs.{ModelFault.{first_model_fault}, StageFaults.{first_stage_fault}, MacroFaults.{first_macro_fault}, Sizes.{first_size_fault}}
use Rattle.pc_syntax.proofs.{NoFault.{none_first, none_second}, Slots.{Fits-quantified}, ExpansionLaws.{expansion_faults, choose}}
use Rattle.pc_syntax.proofs.ClosingTruth.{node_law, static_true, bound_fits, bound_slots, one_more}
use Rattle.pc_ground.specs.PlainGround.{PlainGround, ground_not, ground_and, ground_or, normal}
use Rattle.pc_ground.specs.{Unfolded.{all_of, some_of, decided, node_said, edge_said, unfolded, closed_unfolded}, GroundTree.{ground_tree, closed_ground_tree}}

-- an expansion says what its formula says
pub unfolded_expansion : (ss : List StageItem) (c : Case) (ms : List MacroAt) (env : Environment) (w : Written)
    → unfolded ss c ms env w ≡ unfolded ss c [] env (expansion_of ms w)
unfolded_expansion ss c ms env (not_ p) = λ i. ground_not (unfolded_expansion ss c ms env p i)
unfolded_expansion ss c ms env (and_ p q) = λ i. ground_and (unfolded_expansion ss c ms env p i) (unfolded_expansion ss c ms env q i)
unfolded_expansion ss c ms env (or_ p q) = λ i. ground_or (unfolded_expansion ss c ms env p i) (unfolded_expansion ss c ms env q i)
unfolded_expansion ss c ms env (implies_ p q) =
    λ i. ground_or (ground_not (unfolded_expansion ss c ms env p i)) (unfolded_expansion ss c ms env q i)
unfolded_expansion ss c ms env (forall_ at sort name p) =
    λ i. all_of (map (λ v. unfolded_expansion ss c ms ((name, v) ∷ env) p i) (range_of c sort))
unfolded_expansion ss c ms env (exists_ at sort name p) =
    λ i. some_of (map (λ v. unfolded_expansion ss c ms ((name, v) ∷ env) p i) (range_of c sort))
unfolded_expansion ss c ms env (bind_ at names args p) = unfolded_expansion ss c ms (bound_to env names args ++ env) p
unfolded_expansion ss c (m ∷ ms) env (expand_ at name args) =
    choose (λ w. unfolded ss c [] env w) (same_name m.name.name name.name) _ _
    (bind_ at (parameter_names m) args (expansion_of ms m.body))
    (expansion_of ms (expand_ at name args))
    (unfolded_expansion ss c ms (bound_to env (parameter_names m) args ++ env) m.body)
    (unfolded_expansion ss c ms env (expand_ at name args))
unfolded_expansion ss c ms env w = refl

-- what two functions make of a sort's range, where they agree on each meaning of the sort
over_ops : (f g : Meaning → PlainGround) → ((v : Meaning) → sort_of_meaning v ≡ Microop → f v ≡ g v) → (xs : List ℕ)
    → map f (map an_op xs) ≡ map g (map an_op xs)
over_ops f g h [] = refl
over_ops f g h (x ∷ xs) = λ i. h (an_op x) refl i ∷ over_ops f g h xs i

over_cores : (f g : Meaning → PlainGround) → ((v : Meaning) → sort_of_meaning v ≡ Core → f v ≡ g v) → (xs : List ℕ)
    → map f (map a_core xs) ≡ map g (map a_core xs)
over_cores f g h [] = refl
over_cores f g h (x ∷ xs) = λ i. h (a_core x) refl i ∷ over_cores f g h xs i

over_range : (c : Case) (sort : Sort) (f g : Meaning → PlainGround) → ((v : Meaning) → sort_of_meaning v ≡ sort → f v ≡ g v)
    → map f (range_of c sort) ≡ map g (range_of c sort)
over_range c Microop f g h = over_ops f g h (below (length c.ops))
over_range c Core f g h = over_cores f g h (below (cores_of c.ops))

-- a world to read the law of predicates in, which speaks of no world
no_world : World Node
no_world = record { nodes = []; order = [] }

nodes_said : (ss : List StageItem) (c : Case) (slots : List Meaning) (env : Environment) (scope : Scope) → Fits slots env scope → (ts : List NodeTerm)
    → first_fault (node_fault ss scope) ts ≡ None
    → map (λ t. node_said (node_of ss c env t)) ts ≡ map (λ t. node_said (closed_node c slots t)) (map (closing_of_node ss scope) ts)
nodes_said ss c slots env scope fits [] f = refl
nodes_said ss c slots env scope fits (t ∷ ts) f =
    λ i. node_said (node_law slots env scope fits ss c t (none_first (node_fault ss scope t) (first_fault (node_fault ss scope) ts) f) i)
    ∷ nodes_said ss c slots env scope fits ts (none_second (node_fault ss scope t) (first_fault (node_fault ss scope) ts) f) i

edges_said : (ss : List StageItem) (c : Case) (slots : List Meaning) (env : Environment) (scope : Scope) → Fits slots env scope → (ts : List EdgeTerm)
    → first_fault (edge_fault ss scope) ts ≡ None
    → map (λ t. edge_said (node_of ss c env t.from) (node_of ss c env t.to)) ts
    ≡ map (λ t. edge_said (closed_node c slots t.from) (closed_node c slots t.to)) (map (closing_of_edge ss scope) ts)
edges_said ss c slots env scope fits [] f = refl
edges_said ss c slots env scope fits (t ∷ ts) f =
    let here = none_first (edge_fault ss scope t) (first_fault (edge_fault ss scope) ts) f in
    λ i. edge_said
    (node_law slots env scope fits ss c t.from (none_first (node_fault ss scope t.from) (node_fault ss scope t.to) here) i)
    (node_law slots env scope fits ss c t.to (none_second (node_fault ss scope t.from) (node_fault ss scope t.to) here) i)
    ∷ edges_said ss c slots env scope fits ts (none_second (edge_fault ss scope t) (first_fault (edge_fault ss scope) ts) f) i

-- closing keeps what an expanded formula says, in each environment that fits the scope and the slots
pub unfolded_closing : (ss : List StageItem) (c : Case) (slots : List Meaning) (env : Environment) (scope : Scope)
    → length slots ≡ length scope → Fits slots env scope → (e : Written) → name_fault ss [] scope e ≡ None
    → unfolded ss c [] env e ≡ closed_unfolded c slots (closing_of ss scope e)
unfolded_closing ss c slots env scope same fits (not_ p) f = λ i. ground_not (unfolded_closing ss c slots env scope same fits p f i)
unfolded_closing ss c slots env scope same fits (and_ p q) f =
    let a = name_fault ss [] scope p in
    let b = name_fault ss [] scope q in
    λ i. ground_and (unfolded_closing ss c slots env scope same fits p (none_first a b f) i)
    (unfolded_closing ss c slots env scope same fits q (none_second a b f) i)
unfolded_closing ss c slots env scope same fits (or_ p q) f =
    let a = name_fault ss [] scope p in
    let b = name_fault ss [] scope q in
    λ i. ground_or (unfolded_closing ss c slots env scope same fits p (none_first a b f) i)
    (unfolded_closing ss c slots env scope same fits q (none_second a b f) i)
unfolded_closing ss c slots env scope same fits (implies_ p q) f =
    let a = name_fault ss [] scope p in
    let b = name_fault ss [] scope q in
    λ i. ground_or (ground_not (unfolded_closing ss c slots env scope same fits p (none_first a b f) i))
    (unfolded_closing ss c slots env scope same fits q (none_second a b f) i)
unfolded_closing ss c slots env scope same fits (forall_ at sort name p) f =
    let inside = quantified_in scope name sort in
    let rest = none_second (scope_fault at inside) (name_fault ss [] inside p) f in
    ap all_of
    (over_range c sort _ _
    (λ v of_sort.
    unfolded_closing ss c (slots ++ v ∷ []) ((name, v) ∷ env) inside (one_more slots v scope name sort same)
    (Fits-quantified slots env scope name v sort same fits of_sort) p rest))
unfolded_closing ss c slots env scope same fits (exists_ at sort name p) f =
    let inside = quantified_in scope name sort in
    let rest = none_second (scope_fault at inside) (name_fault ss [] inside p) f in
    ap some_of
    (over_range c sort _ _
    (λ v of_sort.
    unfolded_closing ss c (slots ++ v ∷ []) ((name, v) ∷ env) inside (one_more slots v scope name sort same)
    (Fits-quantified slots env scope name v sort same fits of_sort) p rest))
unfolded_closing ss c slots env scope same fits (static_ pred args) f = ap decided (static_true slots env scope fits ss c no_world pred args f)
unfolded_closing ss c slots env scope same fits (nodes_ ts) f = ap all_of (nodes_said ss c slots env scope fits ts f)
unfolded_closing ss c slots env scope same fits (edges_ ts) f = ap all_of (edges_said ss c slots env scope fits ts f)
unfolded_closing ss c slots env scope same fits (expand_ at name args) f = refl
unfolded_closing ss c slots env scope same fits (bind_ at names args p) f =
    let inside = bound_in scope names args in
    let binding = none_first (binding_fault scope at names args) (name_fault ss [] inside p) f in
    let values = none_first (first_fault (value_fault scope) args) (scope_fault at inside) binding in
    unfolded_closing ss c
    (slots ++ map (closed_value slots) (closing_of_bound scope names args))
    (bound_to env names args ++ env) inside
    (bound_slots slots scope names args same)
    (bound_fits slots env scope fits names args slots (length scope) same values fits)
    p
    (none_second (binding_fault scope at names args) (name_fault ss [] inside p) f)

-- a model's axioms, expanded, and closed
pub expanded_tree : (m : WrittenModel) (c : Case)
    → normal (all_of (map (unfolded m.stages c [] []) (map (expansion_of (macros_of m)) (axioms_of m)))) ≡ ground_tree m c
expanded_tree m c = ap (λ gs. normal (all_of gs)) (each (axioms_of m))
  where
    each : (axioms : List Written) → map (unfolded m.stages c [] []) (map (expansion_of (macros_of m)) axioms) ≡ map (unfolded m.stages c (macros_of m) [])
        axioms
    each [] = refl
    each (a ∷ as_) = λ i. sym (unfolded_expansion m.stages c (macros_of m) [] a) i ∷ each as_ i

pub closed_tree : (m : WrittenModel) (c : Case) → first_name_fault m ≡ None
    → closed_ground_tree c (map (λ a. closing_of m.stages [] (expansion_of (macros_of m) a)) (axioms_of m)) ≡ ground_tree m c
closed_tree m c none = ap (λ gs. normal (all_of gs)) (each (axioms_of m) none)
  where
    each : (axioms : List Written) → first_fault (name_fault m.stages (macros_of m) []) axioms ≡ None
        → map (closed_unfolded c []) (map (λ a. closing_of m.stages [] (expansion_of (macros_of m) a)) axioms) ≡ map (unfolded m.stages c (macros_of m) [])
        axioms
    each [] f = refl
    each (a ∷ as_) f =
        let here = none_first (name_fault m.stages (macros_of m) [] a) (first_fault (name_fault m.stages (macros_of m) []) as_) f in
        let rest = none_second (name_fault m.stages (macros_of m) [] a) (first_fault (name_fault m.stages (macros_of m) []) as_) f in
        λ i. sym
        (unfolded_expansion m.stages c (macros_of m) [] a
        ∙ unfolded_closing m.stages c [] [] [] refl tt (expansion_of (macros_of m) a) (sym (expansion_faults m.stages (macros_of m) [] a) ∙ here)) i
        ∷ each as_ rest i

pub no_name_fault : (m : WrittenModel) → first_model_fault m ≡ None → first_name_fault m ≡ None
no_name_fault m f =
    none_second (first_size_fault m) (first_name_fault m)
    (none_second (first_macro_fault m) (option_or (first_size_fault m) (first_name_fault m))
    (none_second (first_stage_fault m) (option_or (first_macro_fault m) (option_or (first_size_fault m) (first_name_fault m))) f))
