use Rattle.std.{proofs.Common.{◌++◌, ◌∙◌, ap}, specs.Prelude.{codes}}
use Rattle.pc_common.specs.Lines.{unobservable, second_text}
use Rattle.lift_command.proofs.PutLines.{put_header_text}
use Rattle.lift_command.proofs.lifted_text.put_header.Goals as goal

pub returns : goal.returns
returns c =
    put_header_text c.put-3.result c.args.text.now.items c.put.new.text.items c.put-2.new.text.items c.put-3.new.text.items c.second_line.result.now
    (second_text unobservable c.args.case.now.expectation ++ codes "\n")
    (c.second_line.ensures ∙ ap (λ e. second_text unobservable e ++ codes "\n") c.expect.ensures)
    c.in_ok-put.ensures c.in_ok-put-2.ensures c.put-3.ensures
