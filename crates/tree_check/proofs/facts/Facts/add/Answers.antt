use Rattle.std.{proofs.Common.{sym, map}, specs.Map.{keys_of}}
use Rattle.refutation.{specs.BranchFacts.{plain_branch_fact}, proofs.SameBranchFacts.{fact_eq}}
use Rattle.tree_check.proofs.{BranchFacts.{added_one}, FactSet.{added, added_behind}}
use Rattle.pc_ground.proofs.MapKeys.{keys_put}
use Rattle.tree_check.proofs.facts.Facts.add.Goals as goal

pub returns : goal.returns
returns c =
    let es = c.self.inside.set.entries in
    let fs = keys_of es in
    rw (c.in_ok-insert.ensures.entries, keys_put fact_eq c.args.fact _ es, sym c.self.view_is)
    (added_one (map plain_branch_fact fs) _ (plain_branch_fact c.args.fact) (added_behind fs c.args.fact) (λ k. added fs c.args.fact k))
