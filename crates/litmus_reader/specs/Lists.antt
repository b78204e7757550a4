-- What the lists of a test file are as a case.
use Rattle.std.specs.Prelude.{map, length}
use Rattle.pc_common.specs.Case.{Case}
use Rattle.pc_case.specs.{Plain.{micro_op, dependency, stated_value, expectation}, MicroOps.{AreMicroOps}, Stated.{IsStatedOnce, AreWithin}}
use Rattle.litmus_reader.specs.declared.lists.CaseLists.{CaseLists}

abbrev pub case_by : CaseLists → Case
case_by l = record {
  ops = map micro_op l.ops;
  dependencies = map dependency l.dependencies;
  initial = map stated_value l.initial;
  final = map stated_value l.final_values;
  expectation = expectation l.expect;
}

-- they make a case
pub record AreLists (l : CaseLists) : Type 0 where
  pub kept : AreMicroOps (map micro_op l.ops)
  pub within : AreWithin (length l.ops) (map dependency l.dependencies)
  pub initial_once : IsStatedOnce (map stated_value l.initial)
  pub final_once : IsStatedOnce (map stated_value l.final_values)
