use Rattle.std.{proofs.Common.{◌++◌}, specs.{Prelude.{codes}, Fmt.{decimal}}}
use Rattle.lift_command.proofs.PutLines.{put_then}
use Rattle.lift_command.proofs.lines.put_one.Goals as goal

pub returns : goal.returns
returns c =
    put_then c.put_number.result c.args.text.now.items c.put.new.text.items c.put_number.new.text.items c.args.keyword.now
    (codes " " ++ decimal c.args.number) c.in_ok-put.ensures
    c.put_number.ensures
