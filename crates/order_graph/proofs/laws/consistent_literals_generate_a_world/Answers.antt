use Rattle.order_graph.proofs.GeneratesWorld.{consistent_generate}
use Rattle.order_graph.proofs.laws.consistent_literals_generate_a_world.Goals as goal

pub returns : goal.returns
returns c = λ ls h. consistent_generate ls h
