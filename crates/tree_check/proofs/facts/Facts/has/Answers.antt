use Rattle.std.{proofs.{Common.{sym}, lemmas.Map.Made.{is_some-lookup}}, specs.Map.{keys_of}}
use Rattle.refutation.proofs.SameBranchFacts.{fact_eq}
use Rattle.tree_check.proofs.FactSet.{found}
use Rattle.tree_check.proofs.facts.Facts.has.Goals as goal

pub returns : goal.returns
returns c =
    let es = c.self.inside.set.entries in
    rw (c.contains_key.ensures, is_some-lookup (fact_eq c.args.fact) es, sym c.self.view_is) (found c.args.fact (keys_of es))
