use Rattle.std.proofs.lemmas.Result.{IfOk-weaker, IfErr-weaker}
use Rattle.command_base.proofs.TestForm.{test_parts, test_end}
use Rattle.command_base.proofs.second_file.TestFileSecondFile.parts.Goals as goal

pub returns-clause-ok : goal.returns-clause-ok
returns-clause-ok c = IfOk-weaker c.read_parts.result _ _ (test_parts c.args.model.now c.args.bytes.now) c.read_parts.ensures.ok

pub returns-clause-err : goal.returns-clause-err
returns-clause-err c = IfErr-weaker c.read_parts.result _ _ (test_end c.args.model.now c.args.bytes.now) c.read_parts.ensures.err
