use Rattle.std.proofs.Common.{◌≤◌, ◌<◌, ◌+◌, ◌∙◌, ◌++◌, ◌∷◌, ℕ, [], length, ap, refl, arith}
use Rattle.pc_common.specs.Steps.{split}
use Rattle.solver.specs.{Spelled.{spelled}, Places.{place_signed, side_positions}, Opens.{positions, opens}, Weights.{weight}, Descents.{IsLonger, HasMore}}
use Rattle.solver.specs.{Statuses.{status_weight}, declared.{search.find.SearchStatus.{SearchStatus}, search.later.Later.{Later}}}
use Rattle.solver.proofs.HasDescended.{more_longer, advanced, lighter_split}
use Rattle.order_graph.proofs.Results.{if_ok}
use Rattle.solver.proofs.search.advance.advance.Goals as goal

pub find-requires-clause-state : goal.find-requires-clause-state
find-requires-clause-state g c =
    let b = c.args.branch.now in
    let chosen = c.choose.new.branch in
    let later : Later = record { count = c.len-count.result; mark = c.mark-mark.result; side = c.sides.result.1 } in
    let split_at = split c.in_ok-place.place.negated c.in_ok-place.place.position in
    advanced c.args.version c.args.tree.now.nodes (spelled c.args.tree.now.rows) b.graph c.mark-mark.new.self chosen.graph b.asserted chosen.asserted
    b.later.items c.push.new.self.items b.refutation c.push_split.new.self later (place_signed c.in_ok-place.place) c.sides.result c.requires.state
    c.in_ok-place.ensures.found
    c.mark-mark.ensures.graph c.in_ok-place.ensures.graph c.choose.ensures.asserted c.sides.ensures.sides
    (c.len-count.ensures ∙ ap length c.choose.ensures.asserted) c.mark-mark.ensures.place refl
    (c.in_ok-push.ensures.items ∙ ap (λ ls. ls ++ later ∷ []) c.choose.ensures.rest.later)
    (c.in_ok-push_split.ensures ∙ ap (λ ss. ss ++ split_at ∷ []) c.choose.ensures.rest.steps)

pub returns-clause-lighter : goal.returns-clause-lighter
returns-clause-lighter g c =
    let t = spelled c.args.tree.now.rows in
    let b = c.args.branch.now in
    let here = c.choose.new.branch.asserted in
    let later : Later = record { count = c.len-count.result; mark = c.mark-mark.result; side = c.sides.result.1 } in
    let less =
    lighter_split c.args.version t b.asserted here b.later.items c.push.new.self.items later (place_signed c.in_ok-place.place) c.sides.result
    c.in_ok-place.ensures.found c.choose.ensures.asserted c.sides.ensures.sides (c.len-count.ensures ∙ ap length c.choose.ensures.asserted) refl
    (c.in_ok-push.ensures.items ∙ ap (λ ls. ls ++ later ∷ []) c.choose.ensures.rest.later) in
    let W : SearchStatus → ℕ = status_weight c.args.tree.now c.find.new.branch in
    if_ok (λ found. W found ≤ 1 + weight t (opens t (positions here ++ side_positions t c.sides.result.0) here c.push.new.self.items))
    (λ found. W found < 1 + weight t (opens t (positions b.asserted) b.asserted b.later.items)) c.find.result c.find.ensures.lighter
    (λ found h. omega (arith, h, less))

pub returns-clause-longer : goal.returns-clause-longer
returns-clause-longer g c =
    let old = c.args.branch.now.refutation in
    let new = c.find.new.branch.refutation in
    let split_at = split c.in_ok-place.place.negated c.in_ok-place.place.position in
    if_ok (λ _. IsLonger c.push_split.new.self new) (λ _. HasMore old new) c.find.result c.find.ensures.longer
    (λ _ h. more_longer old c.push_split.new.self new split_at (c.in_ok-push_split.ensures ∙ ap (λ ss. ss ++ split_at ∷ []) c.choose.ensures.rest.steps) h)
