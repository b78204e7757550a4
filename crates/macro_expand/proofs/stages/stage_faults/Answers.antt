use Rattle.std.proofs.Common.{◌≡◌, ℕ, ◌+◌, ◌<◌, true, false, List, [], Option, Some, None, length, take, drop, get_or, refl, sym, ap, ◌∙◌, arith}
use Rattle.std.{proofs.lemmas.List.{drop_more, take_more}, specs.Option.{option_or, is_some}}
use Rattle.pc_syntax.specs.{declared.model.StageItem.{StageItem}, StageFaults.{stage_fault, stages_fault}}
use Rattle.macro_expand.proofs.stages.stage_faults.Goals as goal

one_more : (stages : List StageItem) (k : ℕ) (s : StageItem) → k < length stages → s ≡ get_or stages k s
    → stages_fault (take k stages) (drop k stages)
    ≡ option_or (stage_fault (take k stages) s) (stages_fault (take (k + 1) stages) (drop (k + 1) stages))
one_more stages k s within here =
    ap (stages_fault (take k stages)) (drop_more stages k s within)
    ∙ (λ i. option_or (stage_fault (take k stages) (sym here i)) (stages_fault (sym (take_more stages k s within) i) (drop (k + 1) stages)))

first_is : {A : Type 0} (a b : Option A) → is_some a ≡ true → a ≡ option_or a b
first_is None b h = cc
first_is (Some x) b h = refl

first_is_not : {A : Type 0} (a b : Option A) → is_some a ≡ false → option_or a b ≡ b
first_is_not None b h = refl
first_is_not (Some x) b h = cc

pub returns-then-is_some : goal.returns-then-is_some
returns-then-is_some c =
    let stages = c.as_slice-stages.result.now in let k = c.loop-k.k in
    let here = stage_fault (take k stages) c.index-stages-k.result in
    let rest = stages_fault (take (k + 1) stages) (drop (k + 1) stages) in
    let whole : c.fault_after-fault.result ≡ stages_fault [] stages =
    c.fault_after-fault.ensures
    ∙ first_is here rest (ap is_some (sym c.fault_after-fault.ensures) ∙ sym c.is_some.ensures ∙ c.if-is_some.true)
    ∙ sym (one_more stages k c.index-stages-k.result (omega arith) c.index-stages-k.is) ∙ sym c.loop-k.invariant in
    whole ∙ ap (stages_fault []) c.as_slice-stages.ensures.value

pub loop-k-preserved : goal.loop-k-preserved
loop-k-preserved c =
    let stages = c.as_slice-stages.result.now in let k = c.loop-k.k in
    c.loop-k.invariant
    ∙ one_more stages k c.index-stages-k.result (omega arith) c.index-stages-k.is
    ∙ first_is_not (stage_fault (take k stages) c.index-stages-k.result) (stages_fault (take (k + 1) stages) (drop (k + 1) stages))
    (ap is_some (sym c.fault_after-fault.ensures) ∙ sym c.is_some.ensures ∙ c.if-is_some.false)
