use Rattle.litmus_reader.{specs.{Builder.{word_of}, Content.{AgainStated, MarkFault}}, proofs.RowFacts.{first-none, never-of}}
use Rattle.litmus_reader.proofs.builder.value_fault.Goals as goal

pub returns : goal.returns
returns c = λ before are.
    let Again = AgainStated (word_of c.args.when) before c.args.line in
    first-none Again (MarkFault c.args.line.value) (never-of Again c.again_fault.result c.in_default.is (c.again_fault.ensures before are))
    c.mark_fault.result c.mark_fault.ensures
