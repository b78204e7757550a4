use Rattle.std.proofs.Common.{◌∙◌}
use Rattle.solver.{specs.Spelled.{spelled}, proofs.AreTruths.{and_children, or_children, kind_at, met_always, met_never, met_leaf, met_both, met_either}}
use Rattle.solver.proofs.search.truths.is_true_at.Goals as goal

pub child_flags-left-requires-clause-inner : goal.child_flags-left-requires-clause-inner
child_flags-left-requires-clause-inner c =
    and_children c.args.rows.now c.args.p c.row_at.result c.requires.tree c.requires.inside c.row_at.ensures.row c.in-And.is

pub child_flags-left-requires-in-Or-clause-inner : goal.child_flags-left-requires-in-Or-clause-inner
child_flags-left-requires-in-Or-clause-inner c =
    or_children c.args.rows.now c.args.p c.row_at.result c.requires.tree c.requires.inside c.row_at.ensures.row c.in-Or.is

pub returns-in-True : goal.returns-in-True
returns-in-True c = λ s at.
    met_always c.args.graph.now.literals s
    (kind_at c.args.rows.now c.args.p c.row_at.result s c.requires.tree c.row_at.ensures.row at ∙ c.in-True.is)

pub returns-in-False : goal.returns-in-False
returns-in-False c = λ s at.
    met_never c.args.graph.now.literals s
    (kind_at c.args.rows.now c.args.p c.row_at.result s c.requires.tree c.row_at.ensures.row at ∙ c.in-False.is)

pub returns-in-Lit : goal.returns-in-Lit
returns-in-Lit c = λ s at.
    met_leaf c.args.graph.now.literals s c.in-Lit.literal c.true_now.result
    (kind_at c.args.rows.now c.args.p c.row_at.result s c.requires.tree c.row_at.ensures.row at ∙ c.in-Lit.is) c.true_now.ensures

pub returns-in-And : goal.returns-in-And
returns-in-And c = λ s at.
    met_both (spelled c.args.rows.now) c.args.graph.now.literals c.args.p c.args.truths.now s c.child_flags-left.result
    (kind_at c.args.rows.now c.args.p c.row_at.result s c.requires.tree c.row_at.ensures.row at ∙ c.in-And.is) at c.requires.behind
    c.child_flags-left.ensures

pub returns-in-Or : goal.returns-in-Or
returns-in-Or c = λ s at.
    met_either (spelled c.args.rows.now) c.args.graph.now.literals c.args.p c.args.truths.now s c.child_flags-left-in-Or.result
    (kind_at c.args.rows.now c.args.p c.row_at.result s c.requires.tree c.row_at.ensures.row at ∙ c.in-Or.is) at c.requires.behind
    c.child_flags-left-in-Or.ensures
