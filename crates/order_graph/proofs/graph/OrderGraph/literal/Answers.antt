use Rattle.std.proofs.{Common.{◌<◌, ◌∙◌, length, sym, ap}, lemmas.Option.{slice_get-get_or}}
use Rattle.std.specs.Prelude.{Some}
use Rattle.order_graph.proofs.graph.OrderGraph.literal.Goals as goal

pub returns : goal.returns
returns c =
    let literals = c.self.inside.literals.items in
    let inside : c.args.k < length literals = rw (← c.self.view_is) at c.requires in
    rw (← c.self.view_is) (slice_get-get_or literals c.args.k c.index.result.now inside ∙ ap Some (sym c.index.ensures))
