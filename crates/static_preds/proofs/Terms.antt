-- The node of a term, from its micro-op and its core.
use Rattle.std.proofs.Common.{◌≡◌, ℕ, List, Option, Some, slice_get, ap, ◌∙◌}
use Rattle.pc_common.specs.Case.{Case, MicroOp}
use Rattle.pc_syntax.specs.{declared.closed_term.{ClosedArg.{ClosedArg}, ClosedNode.{ClosedNode}}, Truth.{Meaning, op_of, node_at}}
use Rattle.pc_syntax.specs.Closed.{value_at, closed_core, core_at_op, closed_node}

core_named : (c : Case) (slots : List Meaning) (core : Option ClosedArg) (i k : ℕ) (o : MicroOp)
    → slice_get c.ops i ≡ Some o → closed_core slots o core ≡ Some k → core_at_op c slots (Some i) core ≡ Some k
core_named c slots core i k o there is = rw (there, core_at_op) is

pub node_named : (c : Case) (slots : List Meaning) (t : ClosedNode) (i k : ℕ) (o : MicroOp)
    → op_of (Some (value_at slots t.op)) ≡ Some i → slice_get c.ops i ≡ Some o → closed_core slots o t.core ≡ Some k
    → closed_node c slots t ≡ Some (record { op = i; core = k; stage = t.stage })
node_named c slots t i k o op there core =
    ap (λ (p : Option ℕ). node_at p (core_at_op c slots p t.core) (Some t.stage)) op ∙
    ap (λ (q : Option ℕ). node_at (Some i) q (Some t.stage)) (core_named c slots t.core i k o there core)
