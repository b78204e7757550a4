use Rattle.litmus_reader.{specs.Content.{HeadFault, ActionFault}, proofs.RowFacts.{first-none, never-of}}
use Rattle.litmus_reader.proofs.rows.microop_fault.Goals as goal

pub returns : goal.returns
returns c =
    let Row = HeadFault c.args.before.now c.args.head in
    first-none Row (ActionFault c.args.action) (never-of Row c.head_fault.result c.in_default.is c.head_fault.ensures)
    c.action_fault.result c.action_fault.ensures
