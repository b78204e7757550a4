use Rattle.std.proofs.Common.{ℕ, inl, inr, refl, subst}
use Rattle.graph_check.specs.Arcs.{Joins}
use Rattle.graph_check.proofs.adjacency.Adjacency.joins.Goals as goal

pub returns-then-arc-b : goal.returns-then-arc-b
returns-then-arc-b c =
    let P : ℕ → Type 0 = λ b. Joins c.args.self.now c.args.a b in
    ((λ e. subst P c.if-arc-b.true (c.arc-arc.ensures.walk c.args.a c.loop-at.invariant.walk).1), (λ j. refl))

pub loop-at-preserved : goal.loop-at-preserved
loop-at-preserved c = record {
  walk = (c.arc-arc.ensures.walk c.args.a c.loop-at.invariant.walk).0;
  rest = λ j. elim (c.arc-arc.ensures.rest c.args.b (c.loop-at.invariant.rest j)) [ inl e ↦ absurd (c.if-arc-b.false e) | inr r ↦ r ];
}
