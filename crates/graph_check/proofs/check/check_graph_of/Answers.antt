use Rattle.pc_ground.specs.Stages.{plain_axioms}
use Rattle.graph_check.proofs.GraphWorlds.{shown_answer, hidden}
use Rattle.graph_check.proofs.check.check_graph_of.Goals as goal

pub returns-in-Some : goal.returns-in-Some
returns-in-Some c =
    let order = rw c.in-Some.is at c.in_ok-order.ensures in
    shown_answer c.args.case.now (plain_axioms c.args.axioms.now) c.args.graph.now c.in-Some.order order.0 order.1 c.are_true.result
    (rw c.as_slice.ensures.value at c.are_true.ensures.truth)

pub returns-in-None : goal.returns-in-None
returns-in-None c = hidden c.args.case.now (plain_axioms c.args.axioms.now) c.args.graph.now (rw c.in-None.is at c.in_ok-order.ensures)
