use Rattle.std.proofs.Common.{[], sym, ap, subst, ◌∙◌}
use Rattle.pc_syntax.specs.{Closed.{closed_not}, IsClosed.{IsClosed}}
use Rattle.ask_command.proofs.copies.denial.Goals as goal

pub invariant_of-result : goal.invariant_of-result
invariant_of-result c =
    record { closed = subst (IsClosed []) (sym (c.in_ok-body.ensures ∙ ap closed_not c.in_ok-copy.ensures)) c.args.formula.now.closed }
