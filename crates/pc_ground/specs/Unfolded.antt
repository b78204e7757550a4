-- What a formula says of one test: its quantifiers unfolded over their ranges, its lists over their members, its
-- predicates decided.
use Rattle.std.specs.Prelude.{Bool, true, false, List, [], ◌∷◌, ◌++◌, Option, Some, None, map, if◌then◌else◌}
use Rattle.pc_common.specs.{Case.{Case}, World.{Node}, Names.{same_name}}
use Rattle.pc_ground.specs.declared.literal.Literal.TheVariants.{Node as a_node, Edge}
use Rattle.pc_ground.specs.PlainGround.{PlainGround, ground_true, ground_false, ground_literal, ground_not, ground_and, ground_or}
use Rattle.pc_syntax.specs.{declared.model.StageItem.{StageItem}, Predicates.{predicate_holds}}
use Rattle.pc_syntax.specs.Written.{Written, not_, and_, or_, implies_, forall_, exists_, static_, nodes_, edges_, expand_, bind_, MacroAt}
use Rattle.pc_syntax.specs.Truth.{Environment, Meaning, bound_to, node_of, static_holds, range_of}
use Rattle.pc_syntax.specs.Closed.{PlainClosed, closed_not, closed_and, closed_or, closed_implies, closed_forall, closed_exists, closed_static, closed_nodes, closed_edges, closed_bind, closed_value, closed_argument, closed_node}

-- And over all, from the first, ending in True
abbrev pub all_of : List PlainGround → PlainGround
all_of [] = ground_true
all_of (g ∷ gs) = ground_and g (all_of gs)

-- Or over all, from the first, ending in False
abbrev pub some_of : List PlainGround → PlainGround
some_of [] = ground_false
some_of (g ∷ gs) = ground_or g (some_of gs)

abbrev pub decided : Bool → PlainGround
decided true = ground_true
decided false = ground_false

-- a name without a value of its sort, which no well-formed model has, says nothing that can be true
abbrev pub node_said : Option Node → PlainGround
node_said None = ground_false
node_said (Some a) = ground_literal (a_node a)

abbrev pub edge_said : Option Node → Option Node → PlainGround
edge_said None b = ground_false
edge_said (Some a) None = ground_false
edge_said (Some a) (Some b) = ground_literal (Edge a b)

-- a written formula, by the cases of its truth; the macros that it may name are listed latest first
abbrev pub unfolded : List StageItem → Case → List MacroAt → Environment → Written → PlainGround
unfolded ss c ms env (not_ p) = ground_not (unfolded ss c ms env p)
unfolded ss c ms env (and_ p q) = ground_and (unfolded ss c ms env p) (unfolded ss c ms env q)
unfolded ss c ms env (or_ p q) = ground_or (unfolded ss c ms env p) (unfolded ss c ms env q)
unfolded ss c ms env (implies_ p q) = ground_or (ground_not (unfolded ss c ms env p)) (unfolded ss c ms env q)
unfolded ss c ms env (forall_ at sort name p) =
    all_of (map (λ v. unfolded ss c ms ((name, v) ∷ env) p) (range_of c sort))
unfolded ss c ms env (exists_ at sort name p) =
    some_of (map (λ v. unfolded ss c ms ((name, v) ∷ env) p) (range_of c sort))
unfolded ss c ms env (static_ pred args) = decided (static_holds c env pred.name args)
unfolded ss c ms env (nodes_ ts) = all_of (map (λ t. node_said (node_of ss c env t)) ts)
unfolded ss c ms env (edges_ ts) = all_of (map (λ t. edge_said (node_of ss c env t.from) (node_of ss c env t.to)) ts)
unfolded ss c ms env (bind_ at names args p) = unfolded ss c ms (bound_to env names args ++ env) p
unfolded ss c [] env (expand_ at name args) = ground_false
unfolded ss c (m ∷ ms) env (expand_ at name args) =
    if same_name m.name.name name.name
    then unfolded ss c ms (bound_to env (map (λ w. w.name) m.parameters) args ++ env) m.body
    else unfolded ss c ms env (expand_ at name args)

-- the same over a closed formula, where the slots have these values
abbrev pub closed_unfolded : Case → List Meaning → PlainClosed → PlainGround
closed_unfolded c slots (closed_not p) = ground_not (closed_unfolded c slots p)
closed_unfolded c slots (closed_and p q) = ground_and (closed_unfolded c slots p) (closed_unfolded c slots q)
closed_unfolded c slots (closed_or p q) = ground_or (closed_unfolded c slots p) (closed_unfolded c slots q)
closed_unfolded c slots (closed_implies p q) =
    ground_or (ground_not (closed_unfolded c slots p)) (closed_unfolded c slots q)
closed_unfolded c slots (closed_forall sort p) =
    all_of (map (λ v. closed_unfolded c (slots ++ v ∷ []) p) (range_of c sort))
closed_unfolded c slots (closed_exists sort p) =
    some_of (map (λ v. closed_unfolded c (slots ++ v ∷ []) p) (range_of c sort))
closed_unfolded c slots (closed_static pred args) = decided (predicate_holds c pred (map (closed_argument slots) args))
closed_unfolded c slots (closed_nodes ts) = all_of (map (λ t. node_said (closed_node c slots t)) ts)
closed_unfolded c slots (closed_edges ts) =
    all_of (map (λ t. edge_said (closed_node c slots t.from) (closed_node c slots t.to)) ts)
closed_unfolded c slots (closed_bind args p) = closed_unfolded c (slots ++ map (closed_value slots) args) p
