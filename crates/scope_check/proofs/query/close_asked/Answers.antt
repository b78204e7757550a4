use Rattle.std.proofs.Common.{[], sym, subst}
use Rattle.pc_common.specs.declared.fault.Which.TheVariants.{Query}
use Rattle.pc_syntax.{specs.{Written.{written}, IsClosed.{IsClosed}, Closed.{plain_closed}}, proofs.ClosingShape.{closed_axiom_closed}}
use Rattle.scope_check.proofs.{ClosingOf.{closing_stages}, FiledFaults.{closing_within}}
use Rattle.scope_check.proofs.query.close_asked.Goals as goal

-- the closed formula keeps that it is closed
pub invariant_of-result : goal.invariant_of-result
invariant_of-result c =
    let stages = c.args.stages.now in
    let w = written c.args.formula.now in
    let made = c.in-Ok.ensures.ok in
    let closing = closing_within Query stages [] w (plain_closed c.in-Ok.body) made in
    record { closed = subst (IsClosed []) (sym closing.closing) (closed_axiom_closed stages c.requires.stages w closing.no_fault) }

pub returns-in-Ok-clause-ok : goal.returns-in-Ok-clause-ok
returns-in-Ok-clause-ok c =
    let made = c.in-Ok.ensures.ok in
    closing_within Query c.args.stages.now [] (written c.args.formula.now) (plain_closed c.in-Ok.body) made

pub returns-in-Ok-clause-stages : goal.returns-in-Ok-clause-stages
returns-in-Ok-clause-stages c =
    let stages = c.args.stages.now in
    let w = written c.args.formula.now in
    let made = c.in-Ok.ensures.ok in
    closing_stages stages [] w (plain_closed c.in-Ok.body) (closing_within Query stages [] w (plain_closed c.in-Ok.body) made)
