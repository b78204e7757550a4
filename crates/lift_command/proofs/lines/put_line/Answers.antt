use Rattle.std.specs.Prelude.{codes}
use Rattle.lifter.specs.WrittenSteps.{plain_line}
use Rattle.lift_command.{specs.WrittenLines.{line_of}, proofs.PutLines.{put_then}}
use Rattle.lift_command.proofs.lines.put_line.Goals as goal

pub returns : goal.returns
returns c =
    put_then c.put.result c.args.text.now.items c.put_step.new.text.items c.put.new.text.items
    (line_of c.args.case.now.ops (plain_line c.args.line.now)) (codes "\n") c.in_ok-put_step.ensures
    c.put.ensures
