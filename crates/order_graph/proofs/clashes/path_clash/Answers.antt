use Rattle.std.proofs.Common.{◌≡◌, ◌∙◌, ◌<◌, ◌*◌, ◌++◌, ap, arith}
use Rattle.order_graph.proofs.{IsClash.{path_clash}, ClashOf.{none_listed, over_told, pair_below}}
use Rattle.order_graph.proofs.clashes.path_clash.Goals as goal

pub returns-in_default : goal.returns-in_default
returns-in_default c =
    none_listed c.args.nodes c.args.table.now c.args.literals.now c.args.a c.args.b c.requires.represents c.requires.sized.1
    c.requires.a_in c.requires.b_in c.in_default.ensures

pub way-requires-clause-there : goal.way-requires-clause-there
way-requires-clause-there c =
    let below = pair_below c.args.nodes c.args.literals.now c.in-Some.x c.in-Some.y c.requires.represents.below c.in-Some.ensures.0 in
    let wide = c.requires.sized.1 in
    let low : c.in-Some.y < 64 * c.args.table.now.words = (let h = below.1 in omega arith) in
    (over_told c.args.nodes c.args.table.now c.args.literals.now c.args.a c.args.b c.in-Some.x c.in-Some.y c.requires.represents
    wide c.requires.a_in c.requires.b_in below.0 low c.in-Some.ensures.1).0

pub way-requires-2-clause-there : goal.way-requires-2-clause-there
way-requires-2-clause-there c =
    let below = pair_below c.args.nodes c.args.literals.now c.in-Some.x c.in-Some.y c.requires.represents.below c.in-Some.ensures.0 in
    let wide = c.requires.sized.1 in
    let low : c.in-Some.y < 64 * c.args.table.now.words = (let h = below.1 in omega arith) in
    (over_told c.args.nodes c.args.table.now c.args.literals.now c.args.a c.args.b c.in-Some.x c.in-Some.y c.requires.represents
    wide c.requires.a_in c.requires.b_in below.0 low c.in-Some.ensures.1).1

pub returns : goal.returns
returns c =
    let nodes : c.from_vec.result ≡ c.in_ok-path.path.items ++ c.in_ok-rest.rest.items =
    c.from_vec.ensures ∙ c.in_ok-extend_from_slice.ensures.items ∙ ap (λ xs. c.in_ok-path.path.items ++ xs) c.deref.ensures.value in
    rw nodes
    (path_clash c.args.literals.now c.args.a c.args.b c.in-Some.x c.in-Some.y c.in_ok-path.path.items c.in_ok-rest.rest.items
    c.in-Some.ensures.0 c.in_ok-path.ensures c.in_ok-rest.ensures)
