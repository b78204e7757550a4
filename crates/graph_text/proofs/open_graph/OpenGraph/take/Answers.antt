use Rattle.std.proofs.Common.{subst}
use Rattle.pc_common.specs.Lines.{node, edge}
use Rattle.pc_ground.specs.Keys.{key_node}
use Rattle.graph_text.{specs.{declared.graph_line.GraphLine.{GraphLine}, GraphTexts.{plain_line, IsGraphLineIn}}, proofs.LinesOf.{keeps_names}}
use Rattle.graph_text.proofs.open_graph.OpenGraph.take.Goals as goal

pub returns-in-Ok-Node-clause-of_names : goal.returns-in-Ok-Node-clause-of_names
returns-in-Ok-Node-clause-of_names c =
    let P : GraphLine → Type 0 = λ l. IsGraphLineIn c.args.names.now (plain_line l) in
    keeps_names c.args.names.now c.args.self.now c.take_node.new.self (node (key_node c.in-Ok-Node.key)) c.take_node.result
    (subst P c.in-Ok-Node.field-0-is c.in-Ok-Node.ensures.read.0) c.take_node.ensures.taken c.take_node.ensures.kept

pub returns-in-Ok-Edge-clause-of_names : goal.returns-in-Ok-Edge-clause-of_names
returns-in-Ok-Edge-clause-of_names c =
    let P : GraphLine → Type 0 = λ l. IsGraphLineIn c.args.names.now (plain_line l) in
    keeps_names c.args.names.now c.args.self.now c.take_edge.new.self (edge (key_node c.in-Ok-Edge.from) (key_node c.in-Ok-Edge.to)) c.take_edge.result
    (subst P c.in-Ok-Edge.field-0-is c.in-Ok-Edge.ensures.read.0) c.take_edge.ensures.taken c.take_edge.ensures.kept
