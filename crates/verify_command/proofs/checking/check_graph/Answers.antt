use Rattle.std.proofs.Common.{◌++◌}
use Rattle.cert_check.specs.{GraphFed.{IsGraphFed}, Questions.{question_of_parts}}
use Rattle.verify_command.proofs.{FirstLine.{all_says}, OneVerdict.{file_verified}}
use Rattle.verify_command.proofs.checking.check_graph.Goals as goal

pub returns-clause-verified : goal.returns-clause-verified
returns-clause-verified g c = λ told enough other.
    file_verified IsGraphFed c.finish.result c.new-checker.ensures (c.in_ok-checker.ensures.took told enough)
    (λ text rest is fed. c.finish.ensures (question_of_parts c.args.parts.now) text fed
    (all_says (c.args.first.now ++ (g.F.Files.view c.args.files.now).left) text rest is other))
