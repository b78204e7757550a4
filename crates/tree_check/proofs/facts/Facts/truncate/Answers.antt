use Rattle.std.{proofs.{Common.{sym, ap, ◌∙◌, map, take}, lemmas.List.{take-map}}, specs.Map.{keys_of}}
use Rattle.refutation.specs.BranchFacts.{plain_branch_fact}
use Rattle.tree_check.proofs.facts.Facts.truncate.Goals as goal

pub returns : goal.returns
returns c =
    let es = c.self.inside.set.entries in
    ap (λ xs. map plain_branch_fact (keys_of xs)) c.truncate.ensures.entries
    ∙ ap (map plain_branch_fact) (sym (take-map (λ e. e.0) c.args.count es))
    ∙ sym (take-map plain_branch_fact c.args.count (keys_of es))
    ∙ ap (take c.args.count) c.self.view_is
