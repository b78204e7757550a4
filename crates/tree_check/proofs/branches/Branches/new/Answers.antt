use Rattle.std.proofs.Common.{false, sym, subst, refl, List, []}
use Rattle.refutation.specs.BranchFacts.{PlainBranchFact}
use Rattle.tree_check.specs.{Sides.{with_all, left_side}, OpenBranches.{IsBranch}, declared.side.Side.{Side}}
use Rattle.tree_check.proofs.SideFacts.{none_branch}
use Rattle.tree_check.proofs.branches.Branches.new.Goals as goal

pub returns : goal.returns
returns c = λ t flat.
    let P : List PlainBranchFact → Type 0 = λ ks. IsBranch t ks [] in
    let E : Side → Type 0 = λ side. IsBranch t c.enter_side.new.facts (with_all t [] side) in
    let root : E (left_side false 0) =
    subst E c.left.ensures (c.in_ok-enter_side.ensures.entered t [] flat (subst P (sym c.new-facts.ensures) (none_branch t))) in
    record { version = refl; rows = flat; are_open = (root, rw c.new.ensures.items tt) }
