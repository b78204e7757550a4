use Rattle.std.{proofs.Common.{sym, ◌∙◌, ap}, specs.Option.{option_map}}
use Rattle.pc_case.specs.Plain.{plain_value}
use Rattle.pattern_reader.proofs.Digits.{found_at, passed_at}
use Rattle.pattern_reader.proofs.rows.value_for.Goals as goal

pub returns-in-Some : goal.returns-in-Some
returns-in-Some c =
    found_at c.args.reads.now c.args.row c.loop-k.k c.args.place (plain_value c.in-Some.value)
    (sym c.value_if.ensures ∙ ap (option_map plain_value) c.in-Some.is)
    c.loop-k.invariant

pub loop-k-preserved : goal.loop-k-preserved
loop-k-preserved c =
    passed_at c.args.reads.now c.args.row c.loop-k.k c.args.place c.loop-k-test.true (sym c.value_if.ensures ∙ ap (option_map plain_value) c.in_default.is)
    c.loop-k.invariant
