use Rattle.std.proofs.Common.{refl}
use Rattle.pc_common.specs.declared.fault.Which.TheVariants.{Query}
use Rattle.pc_syntax.specs.{Written.{not_, written_model}, Closed.{plain_closed}}
use Rattle.macro_expand.specs.Faults.{macro_fault_of}
use Rattle.scope_check.specs.FirstFault.{name_fault_of}
use Rattle.ask_command.proofs.InquiryParts.{denial_macro_first, is_denial, denial_name_first, denied_closed}
use Rattle.ask_command.proofs.denial.close_as_named.Goals as goal

pub last_expansion-requires : goal.last_expansion-requires
last_expansion-requires c = let (m, f, is) = c.requires.denial in (m, not_ f, is)

-- a fault of macros or of sizes
pub returns-in-Err-clause-err : goal.returns-in-Err-clause-err
returns-in-Err-clause-err c =
    let n = written_model c.args.model.now in
    let fault = macro_fault_of c.in-Err.fault in
    rw (c.move_end.ensures, c.from.ensures)
    (λ m f is. (Query, fault, denial_macro_first n m f is fault c.in-Err.ensures.err, refl))

pub close_query-requires-clause-denial : goal.close_query-requires-clause-denial
close_query-requires-clause-denial c =
    let (m, f, is) = c.requires.denial in is_denial (written_model c.args.model.now) m f is c.in-Ok.denied c.in-Ok.ensures.ok

pub returns-in-Ok-close_query-clause-ok : goal.returns-in-Ok-close_query-clause-ok
returns-in-Ok-close_query-clause-ok c =
    let n = written_model c.args.model.now in
    λ m f is. denied_closed n m f is c.in-Ok.denied c.in-Ok.ensures.ok (plain_closed c.in-Ok-close_query.closed.body) c.in-Ok-close_query.ensures.ok

-- a fault of names
pub returns-clause-err : goal.returns-clause-err
returns-clause-err c =
    let n = written_model c.args.model.now in
    let file = c.in-Err-close_query.file in
    let fault = name_fault_of c.in-Err-close_query.fault in
    rw (c.move_end-in-Err-close_query.ensures, c.from-in-Err-close_query.ensures)
    (λ m f is. (file, fault, denial_name_first n m f is c.in-Ok.denied c.in-Ok.ensures.ok file fault c.in-Err-close_query.ensures.err, refl))
