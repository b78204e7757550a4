use Rattle.command_base.proofs.OneCommand.{no_form}
use Rattle.command_base.proofs.command.parse.Goals as goal

-- none of the calls found its form, in their order
pub returns-in_err-n : goal.returns-in_err-n
returns-in_err-n c =
    rw c.from_residual.ensures
    (no_form
    _
    c.in_default.ensures
    c.in_default-take_inputs.ensures
    c.in_default-take_three.ensures
    c.in_default-take_inputs-2.ensures
    c.in_default-take_inputs-3.ensures
    c.in_default-take_three-2.ensures
    c.in_default-take_inputs-4.ensures
    c.in_default-take_three-3.ensures
    c.in_default-take_three-4.ensures
    c.in_default-take_three-5.ensures
    c.in_err-n.ensures)
