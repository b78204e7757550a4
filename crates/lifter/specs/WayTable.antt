-- How the part at a place of a fact's parts is named.
use Rattle.std.specs.Prelude.{ℕ, ◌==◌, if◌then◌else◌}
use Rattle.pc_syntax.specs.declared.term.Sort.{Sort, TheVariants.{Microop, Core}}
use Rattle.pc_syntax.specs.Closed.{PlainClosed, closed_not, closed_and, closed_or, closed_implies, closed_forall, closed_exists, closed_static, closed_nodes, closed_edges, closed_bind}
use Rattle.lifted_facts.specs.declared.way.{Instance.{Instance, TheVariants.{Op as OpInstance, Core as CoreInstance}}, Way.{Way}}
use Rattle.lifted_facts.specs.declared.way.Way.TheVariants.{Left, Right, Not, Bind, Inst, Member}

-- the value at a place of a range
abbrev pub instance_at : Sort → ℕ → Instance
instance_at Microop k = OpInstance k
instance_at Core k = CoreInstance k

abbrev pub side_at : ℕ → Way
side_at k = if k == 0 then Left else Right

abbrev pub way_of : PlainClosed → ℕ → Way
way_of (closed_not p) k = Not
way_of (closed_and p q) k = side_at k
way_of (closed_or p q) k = side_at k
way_of (closed_implies p q) k = side_at k
way_of (closed_forall sort p) k = Inst (instance_at sort k)
way_of (closed_exists sort p) k = Inst (instance_at sort k)
way_of (closed_static pred args) k = Not
way_of (closed_nodes ts) k = Member k
way_of (closed_edges ts) k = Member k
way_of (closed_bind args p) k = Bind
