use Rattle.std.proofs.{Common.{refl, sym, ◌∙◌}, lemmas.Result.{err_from_is_err_and}}
use Rattle.pc_syntax.specs.Written.{written_model}
use Rattle.macro_expand.specs.Faults.{macro_fault_of}
use Rattle.scope_check.specs.FirstFault.{name_fault_of}
use Rattle.pc_front.proofs.FrontLaws.{expansion_first, names_first, only_names, names_of_expansions, closings_of_axioms}
use Rattle.pc_front.proofs.reading.closings.Goals as goal

pub returns-in_err-expanded-clause-err : goal.returns-in_err-expanded-clause-err
returns-in_err-expanded-clause-err c =
    let m = written_model c.args.model.now in
    let end = err_from_is_err_and c.from_residual.result c.from_residual.ensures.1 in
    let fault = macro_fault_of c.in_err-expanded.field-0.0 in
    rw (end.1, end.2) (fault, expansion_first m c.requires fault c.in_err-expanded.ensures.err, refl)

pub returns-in_err-axioms-clause-err : goal.returns-in_err-axioms-clause-err
returns-in_err-axioms-clause-err c =
    let m = written_model c.args.model.now in
    let end = err_from_is_err_and c.from_residual-in_err-axioms.result c.from_residual-in_err-axioms.ensures.1 in
    let expanded = c.in_ok-expanded.ensures.ok in
    let fault = name_fault_of c.in_err-axioms.field-0.0 in
    rw (end.1, end.2) (
      fault,
      names_first m c.requires expanded.0.0 expanded.0.1 c.in_ok-expanded.expanded.items expanded.1 fault
          (rw c.deref.ensures.value at c.in_err-axioms.ensures.err),
      refl,
    )

pub returns-clause-no_fault : goal.returns-clause-no_fault
returns-clause-no_fault c =
    let m = written_model c.args.model.now in
    let expanded = c.in_ok-expanded.ensures.ok in
    let closed = rw c.deref.ensures.value at c.in_ok-axioms.ensures.ok in
    only_names m c.requires expanded.0.0 expanded.0.1 ∙ sym (names_of_expansions m c.in_ok-expanded.expanded.items expanded.1) ∙ closed.no_fault

pub returns-clause-no_name_fault : goal.returns-clause-no_name_fault
returns-clause-no_name_fault c =
    let m = written_model c.args.model.now in
    let closed = rw c.deref.ensures.value at c.in_ok-axioms.ensures.ok in
    sym (names_of_expansions m c.in_ok-expanded.expanded.items c.in_ok-expanded.ensures.ok.1) ∙ closed.no_fault

pub returns-clause-axioms : goal.returns-clause-axioms
returns-clause-axioms c =
    let m = written_model c.args.model.now in
    let closed = rw c.deref.ensures.value at c.in_ok-axioms.ensures.ok in
    closed.closings ∙ closings_of_axioms m c.in_ok-expanded.expanded.items c.in_ok-expanded.ensures.ok.1
