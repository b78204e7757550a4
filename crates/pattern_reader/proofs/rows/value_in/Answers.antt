use Rattle.pc_case.specs.Plain.{plain_value}
use Rattle.pattern_reader.proofs.Digits.{value_here}
use Rattle.pattern_reader.proofs.rows.value_in.Goals as goal

pub returns : goal.returns
returns c =
    value_here c.args.reads.now c.args.row c.args.k c.read_at.result.now c.left_by_reads-left.result (plain_value c.digit_value.result) c.read_at.ensures
    c.left_by_reads-left.ensures c.digit_value.ensures
