use Rattle.std.proofs.{Common.{◌≡◌, ◌∙◌, Bool, true, List, length, replicate, sym, ap, subst}, lemmas.List.{length-map, with_items_is}}
use Rattle.pc_ground.specs.Stages.{plain_axioms}
use Rattle.axiom_core.{specs.Choices.{IsTried}, proofs.Tries.{tried_none}}
use Rattle.axiom_core.proofs.shrinking.shrink.Goals as goal

pub try_all-requires : goal.try_all-requires
try_all-requires g c =
    let front = c.args.front.now in
    let ps = plain_axioms front.axioms in
    let set : c.in_ok-flags.flags.items ≡ replicate c.len.result true = c.in_ok-flags.ensures.items_if_clones_equal (λ y same. same) in
    let size : length ps ≡ length front.axioms = length-map front.axioms _ in
    let all : c.in_ok-flags.flags.items ≡ replicate (length ps) true =
    set ∙ ap (λ n. replicate n true) (c.len.ensures.value ∙ sym size) in
    let P : List Bool → Type 0 = λ flags. IsTried front.case ps flags 0 in
    rw c.deref_mut.ensures.value (subst P (sym all) (tried_none front.case ps c.requires))

pub returns : goal.returns
returns g c =
    let new : List Bool = c.try_all.new.flags in
    let size : length new ≡ c.in_ok-flags.flags.len = c.try_all.auto.flags ∙ c.deref_mut.ensures.len in
    rw (with_items_is c.in_ok-flags.flags new size) c.in_ok-try_all.ensures
