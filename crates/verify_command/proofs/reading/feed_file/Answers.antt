use Rattle.std.{proofs.{Common.{rules, ◌-◌, ◌++◌, length}, lemmas.Result.{IfOk-weaker}}, specs.Prelude.{IsTrue}}
use Rattle.command_base.specs.Feeding.{TookFirst}
use Rattle.verify_command.{specs.Reading.{IsEnough}, proofs.PieceByPiece.{took_few, took_then}}
use Rattle.verify_command.proofs.reading.feed_file.Goals as goal

pub returns-then-first-lt-ENOUGH-clause-took : goal.returns-then-first-lt-ENOUGH-clause-took
returns-then-first-lt-ENOUGH-clause-took g c = λ told enough.
    took_few g.C.TextCheck.is_fed 67108865 c.args.first.now c.requires.within c.in_ok-checker.ensures.took (search rules) enough

pub returns-clause-took : goal.returns-clause-took
returns-clause-took g c =
    let fed = g.C.TextCheck.is_fed in
    let first = c.args.first.now in
    let left = (g.F.Files.view c.args.files.now).left in
    let after = (g.F.Files.view c.feed_rest.new.files).left in
    IfOk-weaker c.feed_rest.result
    (λ d. IsTrue (g.F.Files.view c.args.files.now).modelled → TookFirst fed c.in_ok-checker.checker d (67108865 - length first) left after)
    (λ d. IsTrue (g.F.Files.view c.args.files.now).modelled → IsEnough first left → TookFirst fed c.args.checker d 67108865 (first ++ left) after)
    (λ d h told enough. took_then fed 67108865 first c.requires.within c.in_ok-checker.ensures.took (h told))
    c.feed_rest.ensures.took
