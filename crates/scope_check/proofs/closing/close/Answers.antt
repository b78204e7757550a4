use Rattle.std.proofs.Common.{[], sym, subst}
use Rattle.pc_common.specs.declared.fault.Which.TheVariants.{Model}
use Rattle.pc_syntax.{specs.{Written.{written}, IsClosed.{IsClosed}, Closed.{plain_closed}}, proofs.ClosingShape.{closed_axiom_closed}}
use Rattle.scope_check.proofs.{ClosingOf.{closing_stages}, FiledFaults.{closing_within, answer_within}}
use Rattle.scope_check.proofs.closing.close.Goals as goal

-- the closed formula keeps that it is closed
pub invariant_of-result : goal.invariant_of-result
invariant_of-result c =
    let stages = c.args.model.now.stages in
    let w = written c.args.«axiom».now.body in
    let closing = closing_within Model stages [] w (plain_closed c.in-Ok.body) c.in-Ok.ensures.ok in
    record { closed = subst (IsClosed []) (sym closing.closing) (closed_axiom_closed stages c.requires w closing.no_fault) }

pub returns-in-Ok-clause-ok : goal.returns-in-Ok-clause-ok
returns-in-Ok-clause-ok c =
    closing_within Model c.args.model.now.stages [] (written c.args.«axiom».now.body) (plain_closed c.in-Ok.body) c.in-Ok.ensures.ok

pub returns-in-Ok-clause-stages : goal.returns-in-Ok-clause-stages
returns-in-Ok-clause-stages c =
    let stages = c.args.model.now.stages in
    let w = written c.args.«axiom».now.body in
    closing_stages stages [] w (plain_closed c.in-Ok.body) (closing_within Model stages [] w (plain_closed c.in-Ok.body) c.in-Ok.ensures.ok)

pub returns-in-Err-clause-err : goal.returns-in-Err-clause-err
returns-in-Err-clause-err c =
    answer_within c.args.model.now.stages [] (written c.args.«axiom».now.body) c.in-Err.field-0.file c.in-Err.field-0.fault
    c.in-Err.ensures.err
