-- The truth of a written formula, in a setting and an environment. Read it from the end, where `is_true` has a line for
-- each connective and quantifier, and `are_true` says it of all axioms. Before it stand, in this order: what a name stands
-- for (`Environment`); the node that a term names (`node_of`), and whether a world has it, or an edge (`node_holds`,
-- `edge_holds`); predicates at their arguments (`static_holds`); and what a quantifier ranges over (`range_of`).
use Rattle.std.specs.Prelude.{ℕ, Bool, false, not, List, [], ◌∷◌, ◌++◌, Option, Some, None, length, map, slice_get, ◌&&◌, ◌||◌, if◌then◌else◌}
use Rattle.std.specs.List.{list_any, list_all, range_with_len}
use Rattle.pc_common.specs.{Case.{MicroOp, Case, cores_of}, World.{Node, World, has_node, has_edge}, Names.{same_name}}
use Rattle.pc_syntax.specs.declared.term.{Sort.{Sort, TheVariants.{Microop, Core}}, Arg.{Arg, TheVariants.{Word as word_arg, Number as number_arg}}}
use Rattle.pc_syntax.specs.declared.{term.NodeTerm.{NodeTerm}, model.StageItem.{StageItem}, pred.{Pred.{Pred}, Takes.{Takes}}}
use Rattle.pc_syntax.specs.declared.pred.Takes.TheVariants.{Op as takes_op, Core as takes_core, Plain as takes_plain}
use Rattle.pc_syntax.specs.Written.{Written, not_, and_, or_, implies_, forall_, exists_, static_, nodes_, edges_, expand_, bind_, MacroAt}
use Rattle.pc_syntax.specs.{Stages.{stage_number_of}, Arguments.{Argument, op_at, core_at, plain_name}, Predicates.{takes_of, pred_with_name, predicate_holds}}

-- what a name stands for: a micro-op by its place in test order, or a core
pub data Meaning : Type 0 where
  an_op : ℕ → Meaning
  a_core : ℕ → Meaning

-- the innermost binding first
abbrev pub Environment : Type 0
Environment = List (List ℕ × Meaning)

-- what a formula is judged in, beside its macros and its environment
pub record Setting : Type 0 where
  pub stages : List StageItem
  pub case : Case
  pub world : World Node

-- the value of a name is that of its first binding
abbrev pub value_of : Environment → List ℕ → Option Meaning
value_of [] name = None
value_of (e ∷ es) name = if same_name e.0 name then Some e.1 else value_of es name

-- a number as an argument is a core
abbrev pub value_of_arg : Environment → Arg → Option Meaning
value_of_arg env (word_arg w) = value_of env w.name
value_of_arg env (number_arg n at) = Some (a_core n)

-- the names bound at once, each to the value of its argument in the environment
abbrev pub bound_to : Environment → List (List ℕ) → List Arg → Environment
bound_to env [] args = []
bound_to env (n ∷ ns) [] = []
bound_to env (n ∷ ns) (a ∷ as_) =
    elim (value_of_arg env a) [ None ↦ bound_to env ns as_ | Some v ↦ (n, v) ∷ bound_to env ns as_ ]

abbrev pub op_of : Option Meaning → Option ℕ
op_of (Some (an_op i)) = Some i
op_of _ = None

abbrev pub core_of : Option Meaning → Option ℕ
core_of (Some (a_core k)) = Some k
core_of _ = None

-- the core that a location names: the micro-op's own where it names none
abbrev pub location_core : Environment → MicroOp → Option Arg → Option ℕ
location_core env o None = Some o.core
location_core env o (Some a) = core_of (value_of_arg env a)

abbrev pub node_at : Option ℕ → Option ℕ → Option ℕ → Option Node
node_at (Some i) (Some k) (Some s) = Some (record { op = i; core = k; stage = s })
node_at _ _ _ = None

abbrev pub own_core : Case → Environment → ℕ → Option Arg → Option ℕ
own_core c env i core = elim (slice_get c.ops i) [ None ↦ None | Some o ↦ location_core env o core ]

abbrev pub core_there : Case → Environment → Option ℕ → Option Arg → Option ℕ
core_there c env None core = None
core_there c env (Some i) core = own_core c env i core

-- the node that a term names, if its names have values of the right sort
abbrev pub node_of : List StageItem → Case → Environment → NodeTerm → Option Node
node_of stages c env t =
    let op = op_of (value_of env t.op.name) in
    node_at op (core_there c env op t.core) (stage_number_of stages t.stage.name)

abbrev pub node_holds : World Node → Option Node → Bool
node_holds w None = false
node_holds w (Some a) = has_node w a

abbrev pub edge_holds : World Node → Option Node → Option Node → Bool
edge_holds w (Some a) (Some b) = has_edge w a b
edge_holds w _ _ = false

-- an argument as its predicate takes it
abbrev pub argument_of : Environment → Takes → Arg → Option Argument
argument_of env takes_plain (word_arg w) = Some (plain_name w.name)
argument_of env takes_plain (number_arg n at) = None
argument_of env takes_op a = elim (op_of (value_of_arg env a)) [ None ↦ None | Some i ↦ Some (op_at i) ]
argument_of env takes_core a = elim (core_of (value_of_arg env a)) [ None ↦ None | Some k ↦ Some (core_at k) ]

abbrev pub put_first : Option Argument → Option (List Argument) → Option (List Argument)
put_first (Some a) (Some as_) = Some (a ∷ as_)
put_first _ _ = None

abbrev pub arguments_of : Environment → List Takes → List Arg → Option (List Argument)
arguments_of env [] [] = Some []
arguments_of env (t ∷ ts) (a ∷ as_) = put_first (argument_of env t a) (arguments_of env ts as_)
arguments_of env _ _ = None

abbrev pub pred_holds : Case → Environment → List Arg → Option Pred → Bool
pred_holds c env args None = false
pred_holds c env args (Some p) =
    elim (arguments_of env (takes_of p) args) [ None ↦ false | Some as_ ↦ predicate_holds c p as_ ]

-- a predicate by its name, at the values of its arguments
abbrev pub static_holds : Case → Environment → List ℕ → List Arg → Bool
static_holds c env name args = pred_holds c env args (pred_with_name name)

-- 0, 1, .. below n
abbrev pub below : ℕ → List ℕ
below n = range_with_len 0 n

-- what a quantifier ranges over, in order
abbrev pub range_of : Case → Sort → List Meaning
range_of c Microop = map an_op (below (length c.ops))
range_of c Core = map a_core (below (cores_of c.ops))

-- the macros that a formula may name are listed latest first; a macro's body sees those before it
abbrev pub is_true : Setting → List MacroAt → Environment → Written → Bool
is_true s ms env (not_ p) = not (is_true s ms env p)
is_true s ms env (and_ p q) = is_true s ms env p && is_true s ms env q
is_true s ms env (or_ p q) = is_true s ms env p || is_true s ms env q
is_true s ms env (implies_ p q) = not (is_true s ms env p) || is_true s ms env q
is_true s ms env (forall_ at sort name p) = list_all (λ v. is_true s ms ((name, v) ∷ env) p) (range_of s.case sort)
is_true s ms env (exists_ at sort name p) = list_any (λ v. is_true s ms ((name, v) ∷ env) p) (range_of s.case sort)
is_true s ms env (static_ pred args) = static_holds s.case env pred.name args
is_true s ms env (nodes_ ts) = list_all (λ t. node_holds s.world (node_of s.stages s.case env t)) ts
is_true s ms env (edges_ ts) =
    list_all (λ t. edge_holds s.world (node_of s.stages s.case env t.from) (node_of s.stages s.case env t.to)) ts
is_true s ms env (bind_ at names args p) = is_true s ms (bound_to env names args ++ env) p
is_true s [] env (expand_ at name args) = false
is_true s (m ∷ ms) env (expand_ at name args) =
    if same_name m.name.name name.name
    then is_true s ms (bound_to env (map (λ w. w.name) m.parameters) args ++ env) m.body
    else is_true s ms env (expand_ at name args)

-- each axiom is true in the empty environment
abbrev pub are_true : Setting → List MacroAt → List Written → Bool
are_true s ms axioms = list_all (is_true s ms []) axioms
