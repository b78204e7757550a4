use Rattle.std.{proofs.{Common.{◌≡◌, ℕ}, lemmas.Result.{IfOk-weaker}}, specs.Prelude.{slice_range, IsTrue, ◌↔◌, Some}}
use Rattle.pc_ground.specs.{Tree.{Tree}, Refutes.{subtree_at}}
use Rattle.solver.{specs.{Spelled.{spelled}, Met.{IsMet}}, proofs.{IsSpelled.{is_spelled}, IsTreePart.{part_met}}}
use Rattle.solver.proofs.search.truths.truth_at.Goals as goal

pub whole_truth-requires-clause-tree : goal.whole_truth-requires-clause-tree
whole_truth-requires-clause-tree c =
    is_spelled (slice_range c.args.rows.now c.args.p c.end_of-end.result) c.end_of-end.ensures.part.0 c.end_of-end.ensures.part.2

pub returns : goal.returns
returns c =
    let t = spelled c.args.rows.now in
    let ls = c.args.graph.now.literals in
    let part = slice_range c.args.rows.now c.args.p c.end_of-end.result in
    IfOk-weaker c.whole_truth.result (λ b. IsTrue b ↔ IsMet ls (spelled part)) (λ b. (s : Tree ℕ) → subtree_at t c.args.p ≡ Some s → IsTrue b ↔ IsMet ls s)
    (λ b told s at. part_met t c.args.p part ls b s c.end_of-end.ensures.part at told) c.whole_truth.ensures
