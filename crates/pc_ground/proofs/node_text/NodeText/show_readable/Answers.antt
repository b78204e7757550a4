use Rattle.pc_ground.proofs.ReadableNodes.{readable}
use Rattle.pc_ground.proofs.node_text.NodeText.show_readable.Goals as goal

pub returns : goal.returns
returns c = readable c.args.self.now c.show_kept.ensures
