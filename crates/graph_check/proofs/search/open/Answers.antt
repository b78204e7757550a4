use Rattle.std.proofs.Common.{List, set, sym, subst}
use Rattle.graph_check.{specs.{declared.search.{Mark.TheVariants.{Open}, Visit.{Visit}}, Searches.{progress, IsSearching}}, proofs.SearchSteps.{opened}}
use Rattle.graph_check.proofs.search.open.Goals as goal

pub returns-clause-searching : goal.returns-clause-searching
returns-clause-searching c =
    let p = progress c.args.search.now in
    let P : List Visit → Type 0 = λ path. IsSearching c.args.adjacency.now (record { marks = set p.marks c.args.node Open; path = path; order = p.order }) in
    subst P (sym c.in_ok-push.ensures.items)
    (opened c.args.adjacency.now p c.args.node c.first.result c.requires.searching c.requires.node_in c.requires.is_new c.requires.led
    c.first.ensures.walk c.first.ensures.all)
