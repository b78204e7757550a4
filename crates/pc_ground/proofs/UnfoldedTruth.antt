-- What a formula says of a test is true in a world exactly where the formula is.
use Rattle.std.proofs.Common.{◌≡◌, Bool, true, false, not, ◌&&◌, ◌||◌, List, [], ◌∷◌, ◌++◌, Option, Some, None, map, cond, refl, sym, ◌∙◌}
use Rattle.std.specs.List.{list_any, list_all}
use Rattle.pc_common.specs.{Case.{Case}, Names.{same_name}, World.{Node, World}}
use Rattle.pc_syntax.specs.Written.{Written, not_, and_, or_, implies_, forall_, exists_, static_, nodes_, edges_, expand_, bind_, MacroAt, WrittenModel}
use Rattle.pc_syntax.specs.Truth.{Meaning, Environment, Setting, bound_to, node_of, node_holds, edge_holds, static_holds, range_of, is_true}
use Rattle.pc_syntax.specs.Observable.{axioms_of, macros_of, setting, satisfies}
use Rattle.pc_syntax.specs.Closed.{PlainClosed, closed_not, closed_and, closed_or, closed_implies, closed_forall, closed_exists, closed_static, closed_nodes, closed_edges, closed_bind, closed_value, closed_argument, closed_node, closed_true}
use Rattle.pc_syntax.specs.Predicates.{predicate_holds}
use Rattle.pc_ground.specs.{Tree.{tree_true}, PlainGround.{PlainGround}, Unfolded.{all_of, some_of, decided, node_said, edge_said, unfolded, closed_unfolded}}
use Rattle.pc_ground.{specs.GroundTree.{ground_tree, closed_ground_tree}, proofs.NormalForms.{ground_holds, normal_true}}

-- And and Or over a list are tests of all and of some
pub all_true : {X : Type 0} (w : World Node) (f : X → PlainGround) (p : X → Bool) → ((x : X) → p x ≡ ground_holds w (f x)) → (xs : List X)
    → list_all p xs ≡ ground_holds w (all_of (map f xs))
all_true w f p each [] = refl
all_true w f p each (x ∷ xs) = λ i. each x i && all_true w f p each xs i

pub some_true : {X : Type 0} (w : World Node) (f : X → PlainGround) (p : X → Bool) → ((x : X) → p x ≡ ground_holds w (f x)) → (xs : List X)
    → list_any p xs ≡ ground_holds w (some_of (map f xs))
some_true w f p each [] = refl
some_true w f p each (x ∷ xs) = λ i. each x i || some_true w f p each xs i

decided_true : (w : World Node) (b : Bool) → b ≡ ground_holds w (decided b)
decided_true w true = refl
decided_true w false = refl

node_true : (w : World Node) (a : Option Node) → node_holds w a ≡ ground_holds w (node_said a)
node_true w None = refl
node_true w (Some a) = refl

edge_true : (w : World Node) (a b : Option Node) → edge_holds w a b ≡ ground_holds w (edge_said a b)
edge_true w None None = refl
edge_true w None (Some b) = refl
edge_true w (Some a) None = refl
edge_true w (Some a) (Some b) = refl

choose : (w : World Node) (b : Bool) (x y : Bool) (g h : PlainGround) → x ≡ ground_holds w g → y ≡ ground_holds w h → cond b x y ≡ ground_holds w (cond b g h)
choose w true x y g h p q = p
choose w false x y g h p q = q

-- a written formula
pub unfolded_true : (s : Setting) (ms : List MacroAt) (env : Environment) (f : Written)
    → is_true s ms env f ≡ ground_holds s.world (unfolded s.stages s.case ms env f)
unfolded_true s ms env (not_ p) = λ i. not (unfolded_true s ms env p i)
unfolded_true s ms env (and_ p q) = λ i. unfolded_true s ms env p i && unfolded_true s ms env q i
unfolded_true s ms env (or_ p q) = λ i. unfolded_true s ms env p i || unfolded_true s ms env q i
unfolded_true s ms env (implies_ p q) = λ i. not (unfolded_true s ms env p i) || unfolded_true s ms env q i
unfolded_true s ms env (forall_ at sort name p) =
    all_true s.world (λ v. unfolded s.stages s.case ms ((name, v) ∷ env) p) (λ v. is_true s ms ((name, v) ∷ env) p)
    (λ v. unfolded_true s ms ((name, v) ∷ env) p) (range_of s.case sort)
unfolded_true s ms env (exists_ at sort name p) =
    some_true s.world (λ v. unfolded s.stages s.case ms ((name, v) ∷ env) p) (λ v. is_true s ms ((name, v) ∷ env) p)
    (λ v. unfolded_true s ms ((name, v) ∷ env) p) (range_of s.case sort)
unfolded_true s ms env (static_ pred args) = decided_true s.world (static_holds s.case env pred.name args)
unfolded_true s ms env (nodes_ ts) =
    all_true s.world (λ t. node_said (node_of s.stages s.case env t)) (λ t. node_holds s.world (node_of s.stages s.case env t))
    (λ t. node_true s.world (node_of s.stages s.case env t)) ts
unfolded_true s ms env (edges_ ts) =
    all_true s.world (λ t. edge_said (node_of s.stages s.case env t.from) (node_of s.stages s.case env t.to))
    (λ t. edge_holds s.world (node_of s.stages s.case env t.from) (node_of s.stages s.case env t.to))
    (λ t. edge_true s.world (node_of s.stages s.case env t.from) (node_of s.stages s.case env t.to)) ts
unfolded_true s ms env (bind_ at names args p) = unfolded_true s ms (bound_to env names args ++ env) p
unfolded_true s [] env (expand_ at name args) = refl
unfolded_true s (m ∷ ms) env (expand_ at name args) =
    choose s.world (same_name m.name.name name.name) _ _
    (unfolded s.stages s.case ms (bound_to env (map (λ w. w.name) m.parameters) args ++ env) m.body)
    (unfolded s.stages s.case ms env (expand_ at name args))
    (unfolded_true s ms (bound_to env (map (λ w. w.name) m.parameters) args ++ env) m.body)
    (unfolded_true s ms env (expand_ at name args))

-- a closed formula
pub closed_unfolded_true : (c : Case) (w : World Node) (slots : List Meaning) (p : PlainClosed)
    → closed_true c w slots p ≡ ground_holds w (closed_unfolded c slots p)
closed_unfolded_true c w slots (closed_not p) = λ i. not (closed_unfolded_true c w slots p i)
closed_unfolded_true c w slots (closed_and p q) = λ i. closed_unfolded_true c w slots p i && closed_unfolded_true c w slots q i
closed_unfolded_true c w slots (closed_or p q) = λ i. closed_unfolded_true c w slots p i || closed_unfolded_true c w slots q i
closed_unfolded_true c w slots (closed_implies p q) = λ i. not (closed_unfolded_true c w slots p i) || closed_unfolded_true c w slots q i
closed_unfolded_true c w slots (closed_forall sort p) =
    all_true w (λ v. closed_unfolded c (slots ++ v ∷ []) p) (λ v. closed_true c w (slots ++ v ∷ []) p)
    (λ v. closed_unfolded_true c w (slots ++ v ∷ []) p) (range_of c sort)
closed_unfolded_true c w slots (closed_exists sort p) =
    some_true w (λ v. closed_unfolded c (slots ++ v ∷ []) p) (λ v. closed_true c w (slots ++ v ∷ []) p)
    (λ v. closed_unfolded_true c w (slots ++ v ∷ []) p) (range_of c sort)
closed_unfolded_true c w slots (closed_static pred args) = decided_true w (predicate_holds c pred (map (closed_argument slots) args))
closed_unfolded_true c w slots (closed_nodes ts) =
    all_true w (λ t. node_said (closed_node c slots t)) (λ t. node_holds w (closed_node c slots t)) (λ t. node_true w (closed_node c slots t)) ts
closed_unfolded_true c w slots (closed_edges ts) =
    all_true w (λ t. edge_said (closed_node c slots t.from) (closed_node c slots t.to))
    (λ t. edge_holds w (closed_node c slots t.from) (closed_node c slots t.to))
    (λ t. edge_true w (closed_node c slots t.from) (closed_node c slots t.to)) ts
closed_unfolded_true c w slots (closed_bind args p) = closed_unfolded_true c w (slots ++ map (closed_value slots) args) p

-- the ground tree of a written model, and of closed axioms
pub ground_tree_true : (m : WrittenModel) (c : Case) (w : World Node) → satisfies m c w ≡ tree_true w (ground_tree m c)
ground_tree_true m c w =
    all_true w (unfolded m.stages c (macros_of m) []) (is_true (setting m c w) (macros_of m) [])
    (unfolded_true (setting m c w) (macros_of m) []) (axioms_of m)
    ∙ sym (normal_true w (all_of (map (unfolded m.stages c (macros_of m) []) (axioms_of m))))

pub closed_ground_tree_true : (c : Case) (axioms : List PlainClosed) (w : World Node)
    → list_all (closed_true c w []) axioms ≡ tree_true w (closed_ground_tree c axioms)
closed_ground_tree_true c axioms w =
    all_true w (closed_unfolded c []) (closed_true c w []) (closed_unfolded_true c w []) axioms
    ∙ sym (normal_true w (all_of (map (closed_unfolded c []) axioms)))
