use Rattle.std.proofs.Common.{◌∙◌, ap, map}
use Rattle.pc_case.specs.Plain.{micro_op}
use Rattle.pattern_reader.{specs.Rows.{filled}, proofs.{Digits.{value_among}, RowCases.{kept_lists}}}
use Rattle.pattern_reader.proofs.pattern.Pattern.row_lists.Goals as goal

pub returns-clause-lists : goal.returns-clause-lists
returns-clause-lists c =
    let value = value_among c.deref.result.now c.args.row in
    kept_lists c.self.inside.lists (record {
      ops = c.in_ok-row_ops.field-0;
      dependencies = c.in_ok-copy_dependencies.field-0;
      initial = c.in_ok-copy_stated.field-0;
      final_values = c.in_ok-copy_stated-2.field-0;
      expect = c.self.inside.lists.expect;
    }) value c.self.invariant.are.lists_are (c.in_ok-row_ops.ensures ∙ ap (λ os. filled value 0 (map micro_op os)) c.as_slice.ensures.value)
    c.in_ok-copy_dependencies.ensures c.in_ok-copy_stated.ensures c.in_ok-copy_stated-2.ensures
