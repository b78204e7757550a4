use Rattle.std.specs.{Prelude.{codes}, Fmt.{decimal}}
use Rattle.lift_command.proofs.PutLines.{put_then}
use Rattle.lift_command.proofs.words.put_number.Goals as goal

pub returns : goal.returns
returns c =
    put_then c.put_decimal.result c.args.text.now.items c.put.new.text.items c.put_decimal.new.text.items (codes " ")
    (decimal c.args.number) c.in_ok-put.ensures c.put_decimal.ensures
