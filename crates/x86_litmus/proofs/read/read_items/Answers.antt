use Rattle.std.proofs.{Common.{◌+◌, drop, Result, IfErr, subst, sym, ap, ◌∙◌, arith}, lemmas.Result.{err_from_is_err_and}}
use Rattle.uspec_lexer.specs.View.{plain}
use Rattle.x86_litmus.specs.{Reading.{IsFaultIn}, Takes.{IsListingRefusal}, Said.{Said}, Spots.{items_from}, Faults.{fault_of, judged}}
use Rattle.x86_litmus.specs.{Plain.{plain_item, plain_some, plain_said, plain_spot}, declared.fault.X86Fault.{X86Fault}}
use Rattle.x86_litmus.proofs.{Walks.{step_none, step_some, column_after, refused_in}, read.read_items.Goals.{in-Some+in_ok-add, in_default}}
use Rattle.x86_litmus.proofs.read.read_items.Goals as goal

pub returns-in_err-add-clause-err : goal.returns-in_err-add-clause-err
returns-in_err-add-clause-err c =
    let (fault, is, same) = err_from_is_err_and c.from_residual.result c.from_residual.ensures.1 in
    subst (λ (result : Result Unit X86Fault). IfErr result (IsFaultIn c.args.tokens.now)) (sym is)
    (refused_in (plain_spot c.loop-k.spot) (plain_said c.loop-k.said) c.args.tokens.now c.loop-k.k (plain c.get.result) c.get.ensures (omega arith)
    (plain_item c.in-Some.item) (sym (ap plain_some c.in-Some.is) ∙ c.step.ensures.1) c.loop-k.invariant.reads fault
    (subst (IsListingRefusal (fault_of (plain_said c.loop-k.said) (plain_item c.in-Some.item))) (sym same) c.in_err-add.ensures.err))

pub loop-k-preserved : goal.loop-k-preserved
loop-k-preserved c =
    let ts = c.args.tokens.now in
    let k = c.loop-k.k in
    let spot = plain_spot c.loop-k.spot in
    let t = plain c.get.result in
    let column = column_after spot t (plain_spot c.step.result.0) k c.step.ensures.0 c.loop-k.invariant.column in
    elim c.match-item.branch [
      | in-Some+in_ok-add w ↦ record {
        reads = c.loop-k.invariant.reads
            ∙ step_some spot (plain_said c.loop-k.said) ts k t c.get.ensures (omega arith) (plain_spot c.step.result.0) c.step.ensures.0
            (plain_item w.in-Some.item) (plain_said c.match-item.said) (sym (ap plain_some w.in-Some.is) ∙ c.step.ensures.1)
            w.in_ok-add.ensures.ok.0 (ap plain_said w.said-is ∙ w.in_ok-add.ensures.ok.1);
        column = column;
      }
      | in_default w ↦ record {
        reads = c.loop-k.invariant.reads
            ∙ step_none spot (plain_said c.loop-k.said) ts k t c.get.ensures (omega arith) (plain_spot c.step.result.0) c.step.ensures.0
            (sym (ap plain_some w.in_default.is) ∙ c.step.ensures.1)
            ∙ ap (λ (s : Said). judged s (items_from (plain_spot c.step.result.0) (drop (k + 1) ts))) (ap plain_said (sym w.said-is));
        column = column;
      }
    ]
