use Rattle.ask_command.proofs.{MoreFronts.{formula_within}, AskOutcomes.{ending_outcome, found_outcome, ask_writable}}
use Rattle.ask_command.proofs.command.ask_files.Goals as goal

pub returns-in-Err-clause-outcome : goal.returns-in-Err-clause-outcome
returns-in-Err-clause-outcome g c = ending_outcome c.in-Err.ending c.in-Err.ensures

pub ask_parts-requires : goal.ask_parts-requires
ask_parts-requires g c =
    let h = c.in-Ok.ensures in formula_within h.m h.c h.f c.in-Ok.inquiry h.inquiry_of h.sound h.askable

pub returns-in-Ok-ask_parts-clause-outcome : goal.returns-in-Ok-ask_parts-clause-outcome
returns-in-Ok-ask_parts-clause-outcome g c =
    rw c.verdicts_of.ensures (found_outcome c.in-Ok.ensures c.in-Ok-ask_parts.asked c.in-Ok-ask_parts.ensures)

pub returns-in-Ok-ask_parts-clause-writable : goal.returns-in-Ok-ask_parts-clause-writable
returns-in-Ok-ask_parts-clause-writable g c =
    rw c.verdicts_of.ensures (ask_writable c.in-Ok.ensures c.in-Ok-ask_parts.asked c.in-Ok-ask_parts.ensures)
