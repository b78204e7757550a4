-- What a certificate of a model and a case is of: one definition, for the commands that write one and for those that
-- judge one.
use Rattle.std.specs.Prelude.{map}
use Rattle.pc_common.specs.{Case.{Case}, Lines.{Names}}
use Rattle.pc_syntax.specs.{Written.{WrittenModel}, Observable.{satisfies}}
use Rattle.pc_ground.specs.GroundTree.{ground_tree}
use Rattle.pc_front.specs.ModelFront.{written_stage}
use Rattle.cert_check.specs.Certificates.{Question}

-- what nodes are written by
abbrev pub names_by : WrittenModel → Case → Names
names_by m c = record { ops = c.ops; stages = map written_stage m.stages }

-- a certificate of the case on the model, over the axioms as written
abbrev pub question_by : WrittenModel → Case → Question
question_by m c = record {
  names = names_by m c;
  expectation = c.expectation;
  tree = ground_tree m c;
  satisfied = satisfies m c;
}
