use Rattle.std.proofs.Common.{◌≡◌, ◌++◌, ◌∷◌, List, map, sym, ◌∙◌, ap, subst}
use Rattle.std.specs.Vec.Iter.{into_iter_items}
use Rattle.pc_common.specs.{World.{Node}, Steps.{Step}}
use Rattle.refutation.{specs.{Kept.{kept}, Steps.{plain_step}}, proofs.KeptSteps.{next_stays, next_goes, none_next}}
use Rattle.refutation.proofs.list.Refutation.keep_next.Goals as goal

pub returns-in_ok-push-in-Some-clause-next : goal.returns-in_ok-push-in-Some-clause-next
returns-in_ok-push-in-Some-clause-next c = λ flags.
    let before = into_iter_items c.args.rest.now in
    let after = into_iter_items c.next.new.self in
    let new = c.push.new.self in
    let P : List (Step Node) → Type 0 = λ old. map plain_step new ++ kept flags (map plain_step after)
    ≡ old ++ kept (c.args.stays ∷ flags) (map plain_step before) in
    subst P c.self.view_is (
    next_stays plain_step flags c.args.stays before after c.self.inside.steps new c.in-Some.step c.if-stays.true c.in_ok-push-in-Some.ensures
    c.in-Some.ensures.items
    )

pub returns-in-Some-2-clause-next : goal.returns-in-Some-2-clause-next
returns-in-Some-2-clause-next c = λ flags.
    ap (λ ys. c.args.self.now ++ ys) (
    next_goes plain_step flags c.args.stays (into_iter_items c.args.rest.now) (into_iter_items c.next.new.self)
    c.in-Some-2.field-0 c.if-stays.false c.in-Some-2.ensures.items
    )

pub returns-in-None-clause-next : goal.returns-in-None-clause-next
returns-in-None-clause-next c = λ flags.
    ap (λ ys. c.args.self.now ++ ys) (
    none_next plain_step c.args.stays flags (into_iter_items c.args.rest.now) (into_iter_items c.next.new.self) c.in-None.ensures.items
    (sym c.requires ∙ c.in-None.ensures.cases.0)
    )
