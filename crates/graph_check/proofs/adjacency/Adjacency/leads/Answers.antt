use Rattle.std.proofs.Common.{ℕ, inl, inr, refl, sym, ◌∙◌, ap, subst, arith}
use Rattle.pc_common.proofs.Bools.{not_both}
use Rattle.graph_check.{specs.{Arcs.{ComesTo}, Columns.{is_set}}, proofs.Links.{walk_done}}
use Rattle.graph_check.proofs.adjacency.Adjacency.leads.Goals.{then-arc-b-via-then-arc-b, then-arc-b-via-else-arc-b+then-column-arc}
use Rattle.graph_check.proofs.adjacency.Adjacency.leads.Goals as goal

pub returns-then-arc-b : goal.returns-then-arc-b
returns-then-arc-b c = (
  (λ e.
      let step = (c.arc-arc.ensures.walk c.args.a c.loop-at.invariant.walk).1 in
      elim c.then-arc-b.branch [
        | then-arc-b-via-then-arc-b w ↦ (c.arc-arc.result.to, step, inl w.if-arc-b.true)
        | then-arc-b-via-else-arc-b+then-column-arc w ↦ (c.arc-arc.result.to, step, inr w.if-column-arc.true)
      ]),
  (λ j. refl),
)

pub loop-at-preserved : goal.loop-at-preserved
loop-at-preserved c = record {
  walk = (c.arc-arc.ensures.walk c.args.a c.loop-at.invariant.walk).0;
  rest = λ d joined how. elim (c.arc-arc.ensures.rest d (c.loop-at.invariant.rest d joined how)) [
    | inl e ↦ absurd (elim how [
      | inl same ↦ c.if-arc-b.false (e ∙ same)
      | inr there ↦ not_both (is_set c.args.column.now d) there (ap (is_set c.args.column.now) (sym e) ∙ c.if-column-arc.false)
    ])
    | inr r ↦ r
  ];
}

pub returns : goal.returns
returns c = (
  (λ e. cc),
  (λ j. absurd (walk_done c.args.self.now j.0
      (let P : ℕ → Type 0 = λ n. ComesTo c.args.self.now n j.0 in subst P (omega (arith, c.loop-at-test.false)) (c.loop-at.invariant.rest j.0 j.1 j.2)))),
)
