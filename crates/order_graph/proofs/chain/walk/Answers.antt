use Rattle.std.proofs.Common.{inl, inr, get_or, refl, subst, ◌≡◌, ℕ, arith}
use Rattle.order_graph.{specs.{Ways.{IsWay}, Levels.{IsNext}}, proofs.EdgeWays.{way_more, next_step}}
use Rattle.order_graph.proofs.chain.walk.Goals as goal

pub loop-at-init : goal.loop-at-init
loop-at-init c = record { way = rw c.in_ok-way.ensures.items (refl, refl); at_in = c.requires.from_in; near = c.requires.near }

pub bounds-nexts-at : goal.bounds-nexts-at
bounds-nexts-at c = rw c.requires.all c.loop-at.invariant.at_in

pub loop-at-smaller : goal.loop-at-smaller
loop-at-smaller c =
    let kept = c.loop-at.invariant in
    let step = (next_step c.args.to c.args.levels.now c.args.nexts.now c.loop-at.at c.requires.next kept.at_in kept.near c.loop-at-test.true).1 in
    omega arith

pub loop-at-preserved : goal.loop-at-preserved
loop-at-preserved c =
    let levels = c.args.levels.now in let nexts = c.args.nexts.now in let at = c.loop-at.at in
    let kept = c.loop-at.invariant in let positive = c.loop-at-test.true in
    let step = next_step c.args.to levels nexts at c.requires.next kept.at_in kept.near positive in
    record {
      way = rw c.in_ok-push.ensures.items
          (way_more (IsNext levels nexts) c.args.from c.loop-at.way.items at (get_or nexts at 0) kept.way
          (kept.at_in, kept.near, (λ z. absurd (omega arith)), refl));
      at_in = step.0;
      near = λ f. (let level = step.1 in let fits = c.type_inv.levels at in absurd (omega arith));
    }

pub returns : goal.returns
returns c =
    let kept = c.loop-at.invariant in let ended = c.loop-at-test.false in
    let end : c.loop-at.at ≡ c.args.to = elim (c.requires.next c.loop-at.at kept.at_in kept.near) [
      | inl home ↦ home.1
      | inr step ↦ let level = step.1 in absurd (omega arith)
    ] in
    let P : ℕ → Type 0 = IsWay (IsNext c.args.levels.now c.args.nexts.now) c.args.from c.loop-at.way.items in subst P end kept.way
