use Rattle.std.proofs.Common.{List, sym, subst}
use Rattle.pc_common.specs.{World.{Node}, Steps.{Step}}
use Rattle.tree_check.specs.Subsequences.{IsSubsequence}
use Rattle.tree_check.proofs.Kept.{all_stay, kept_within, no_longer}
use Rattle.tree_check.proofs.shortening.shorten.Goals as goal

pub returns-then-is_empty-clause-steps : goal.returns-then-is_empty-clause-steps
returns-then-is_empty-clause-steps c = all_stay c.args.refutation

pub returns-then-branch-clause-steps : goal.returns-then-branch-clause-steps
returns-then-branch-clause-steps c =
    let P : List (Step Node) → Type 0 = λ short. IsSubsequence short c.args.refutation in
    subst P (sym c.in_ok-short.ensures) (kept_within _ c.args.refutation)

pub returns-then-branch-clause-count : goal.returns-then-branch-clause-count
returns-then-branch-clause-count c =
    let P : List (Step Node) → Type 0 = λ short. IsSubsequence short c.args.refutation in
    no_longer (subst P (sym c.in_ok-short.ensures) (kept_within _ c.args.refutation))

pub returns-clause-steps : goal.returns-clause-steps
returns-clause-steps c = all_stay c.args.refutation
