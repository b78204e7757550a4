use Rattle.std.proofs.Common.{◌∙◌}
use Rattle.gen_command.proofs.Lines.{op_put}
use Rattle.gen_command.proofs.litmus.put_op.Goals as goal

pub returns : goal.returns
returns c =
    op_put c.put.result c.put.new.text.items c.args.text.now.items c.as_bytes.result.now c.as_bytes-place.result.now c.as_bytes-2.result.now
    c.args.g c.args.core c.args.access.now c.args.value
    (c.as_bytes.ensures.value ∙ c.format-2.ensures.text)
    (c.as_bytes-place.ensures.value ∙ c.format.ensures.text) (c.as_bytes-2.ensures.value ∙ c.format-3.ensures.text) c.put.ensures
