use Rattle.command_base.proofs.ThirdFile.{third_ending}
use Rattle.lift_command.{specs.LiftAnswers.{IsLifted}, proofs.LiftOutcomes.{found_outcome}}
use Rattle.lift_command.proofs.command.lift_files.Goals as goal

pub returns-in-Err : goal.returns-in-Err
returns-in-Err g c =
    third_ending (g.met.F.Files.failing_modelled c.args.files.now) c.args.certificate.now
    (IsLifted ((g.F.Files.view c.args.files.now).holds) c.args.certificate.now)
    c.in-Err.ending c.in-Err.ensures

pub returns : goal.returns
returns g c =
    found_outcome (g.met.F.Files.failing_modelled c.args.files.now) {first_fault = g.S.SecondFile.first_fault}
    c.args.certificate.now c.in-Ok.ensures c.lift_file-found.ensures.keeps
    c.in_ok-found.field-0 c.in_ok-found.ensures.found
