use Rattle.std.proofs.{Common.{Result, IfErr, map, subst, sym, ap, ◌∙◌}, lemmas.Result.{err_from_is_err_and}}
use Rattle.pc_common.specs.Case.{Case}
use Rattle.x86_litmus.specs.{Reading.{IsFaultIn, IsListingFault}, Faults.{open_fault as open_fault_spec}}
use Rattle.x86_litmus.specs.{Plain.{plain_said, plain_asked, plain_instruction, plain_fault}, declared.fault.X86Fault.{X86Fault}}
use Rattle.x86_litmus.proofs.Outcomes.{case_in, open_in, fault_in, sound_of}
use Rattle.x86_litmus.proofs.read.case_of_listing.Goals as goal

pub returns-in_err-read_items-clause-err : goal.returns-in_err-read_items-clause-err
returns-in_err-read_items-clause-err c =
    let (fault, is, same) = err_from_is_err_and c.from_residual.result c.from_residual.ensures.1 in
    subst (λ (result : Result Case X86Fault). IfErr result (IsListingFault c.args.tokens.now)) (sym is)
    (fault_in c.args.tokens.now fault c.requires (subst (IsFaultIn c.args.tokens.now) (sym same) c.in_err-read_items.ensures.err))

pub returns-in-Some-clause-err : goal.returns-in-Some-clause-err
returns-in-Some-clause-err c =
    let said = c.read_items.new.said in
    open_in c.args.tokens.now (plain_said said) c.in-Some.fault.kind c.in-Some.fault.place c.requires c.in_ok-read_items.ensures.ok
    (sym (ap plain_fault c.in-Some.is) ∙ c.open_fault.ensures
    ∙ (λ i. open_fault_spec (map plain_asked (c.deref.ensures.value i)) (map plain_instruction (c.deref-2.ensures.value i))))

pub case_of-requires : goal.case_of-requires
case_of-requires c =
    sound_of c.args.tokens.now (plain_said c.read_items.new.said) c.in_ok-read_items.ensures.ok
    (sym (ap plain_fault c.in_default.is) ∙ c.open_fault.ensures
    ∙ (λ i. open_fault_spec (map plain_asked (c.deref.ensures.value i)) (map plain_instruction (c.deref-2.ensures.value i))))

pub returns-clause-ok : goal.returns-clause-ok
returns-clause-ok c =
    case_in c.args.tokens.now (plain_said c.read_items.new.said) c.in_ok-case_of.field-0 c.requires c.in_ok-read_items.ensures.ok
    (sym (ap plain_fault c.in_default.is) ∙ c.open_fault.ensures
    ∙ (λ i. open_fault_spec (map plain_asked (c.deref.ensures.value i)) (map plain_instruction (c.deref-2.ensures.value i))))
    c.in_ok-case_of.ensures
