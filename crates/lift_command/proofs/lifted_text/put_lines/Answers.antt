use Rattle.std.proofs.{Common.{sym}, lemmas.List.{append-nil}}
use Rattle.lifter.specs.WrittenSteps.{plain_line}
use Rattle.lifted_check.specs.StepLines.{HasValue}
use Rattle.lift_command.proofs.PutLines.{lines_next, all_at}
use Rattle.lift_command.proofs.lifted_text.put_lines.Goals as goal

pub loop-k-init : goal.loop-k-init
loop-k-init c = sym (append-nil c.args.text.now.items)

pub put_line-requires : goal.put_line-requires
put_line-requires c = all_at (HasValue c.args.case.now.ops) c.args.steps.now c.loop-k.k (plain_line c.line.result.now) c.requires c.line.ensures

pub loop-k-preserved : goal.loop-k-preserved
loop-k-preserved c =
    lines_next c.args.case.now.ops c.args.steps.now c.loop-k.k (plain_line c.line.result.now) c.args.text.now.items
    c.loop-k.text.items c.put_line.new.text.items c.line.ensures
    c.loop-k.invariant c.in_ok-put_line.ensures
