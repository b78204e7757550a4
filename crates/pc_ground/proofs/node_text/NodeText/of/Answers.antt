use Rattle.pc_ground.{specs.NodeForm.{names_of}, proofs.ReadableNodes.{readable}}
use Rattle.pc_ground.proofs.node_text.NodeText.of.Goals as goal

pub returns-clause-readable : goal.returns-clause-readable
returns-clause-readable c =
    readable (names_of c.args.front.now) (record { small = c.show_numbers.ensures.small; kept = c.show_numbers.ensures.kept; stages = c.args.front.now.named })
