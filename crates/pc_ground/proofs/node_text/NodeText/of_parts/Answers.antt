use Rattle.pc_ground.{specs.NodeForm.{names_of_parts}, proofs.ReadableNodes.{readable}}
use Rattle.pc_ground.proofs.node_text.NodeText.of_parts.Goals as goal

pub returns-clause-readable : goal.returns-clause-readable
returns-clause-readable c =
    readable (names_of_parts c.args.parts.now)
    (record { small = c.show_numbers.ensures.small; kept = c.show_numbers.ensures.kept; stages = c.args.parts.now.named })
