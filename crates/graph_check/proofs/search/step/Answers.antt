use Rattle.std.proofs.Common.{◌<◌, ℕ, List, set, sym, ◌∙◌, subst, arith}
use Rattle.pc_common.{specs.Chain.{Chain}, proofs.Elements.{In}}
use Rattle.graph_check.specs.{declared.search.{Mark.TheVariants.{Done}, Visit.{Visit}}, Arcs.{Joins}}
use Rattle.graph_check.specs.Searches.{progress, with_visit, nodes_of, IsSearching, steps_left}
use Rattle.graph_check.proofs.SearchSteps.{mark_read, visit_in, visit_walk, leads_on, circular, passed_by, finished, further, fewer_passed, fewer_finished}
use Rattle.graph_check.proofs.search.step.Goals as goal

pub index_mut-requires : goal.index_mut-requires
index_mut-requires c =
    (let low = visit_in c.args.adjacency.now (progress c.args.search.now) c.args.visit c.requires in omega (arith, low, c.args.search.now.marks.ok))

pub returns-then-at-eq0-clause-searching : goal.returns-then-at-eq0-clause-searching
returns-then-at-eq0-clause-searching c =
    let p = progress c.args.search.now in
    let P : List ℕ → Type 0 = λ order. IsSearching c.args.adjacency.now (record { marks = set p.marks c.args.visit.node Done; path = p.path; order = order }) in
    subst P (sym c.in_ok-push.ensures.items) (finished c.args.adjacency.now p c.args.visit c.requires c.if-at-eq0.true)

pub arc-arc-requires-clause-low : goal.arc-arc-requires-clause-low
arc-arc-requires-clause-low c = (visit_walk c.args.adjacency.now (progress c.args.search.now) c.args.visit c.requires).low

pub open-requires-clause-led : goal.open-requires-clause-led
open-requires-clause-led c =
    let v = c.args.adjacency.now in let p = progress c.args.search.now in let x = c.args.visit in
    let P : List Visit → Type 0 = λ path. (a : ℕ) → In a (nodes_of path) → Chain (Joins v) a c.arc-arc.result.to in
    subst P (sym c.in_ok-push-in-New.ensures.items)
    (leads_on v p x c.requires c.arc-arc.result.to (c.arc-arc.ensures.walk x.node (visit_walk v p x c.requires)).1)

pub returns-in-Open-clause-searching : goal.returns-in-Open-clause-searching
returns-in-Open-clause-searching c =
    let v = c.args.adjacency.now in let p = progress c.args.search.now in let x = c.args.visit in
    circular v p x c.requires c.arc-arc.result.to (c.arc-arc.ensures.walk x.node (visit_walk v p x c.requires)).1
    (mark_read p.marks c.arc-arc.result.to c.index.result.now (let n = c.arc-arc.ensures.to in let same = c.requires.sized in omega (arith, n, same))
    c.index.ensures ∙ c.in-Open.is)

pub returns-in_ok-push-in-Done-clause-searching : goal.returns-in_ok-push-in-Done-clause-searching
returns-in_ok-push-in-Done-clause-searching c =
    let v = c.args.adjacency.now in let p = progress c.args.search.now in let x = c.args.visit in
    let P : List Visit → Type 0 = λ path. IsSearching v (record { marks = p.marks; path = path; order = p.order }) in
    subst P (sym c.in_ok-push-in-Done.ensures.items)
    (passed_by v p x c.requires c.arc-arc.result.to c.arc-arc.result.before
    (c.arc-arc.ensures.walk x.node (visit_walk v p x c.requires)).0 c.arc-arc.ensures.rest
    (mark_read p.marks c.arc-arc.result.to c.index.result.now (let n = c.arc-arc.ensures.to in let same = c.requires.sized in omega (arith, n, same))
    c.index.ensures ∙ c.in-Done.is))

pub returns-then-at-eq0-clause-less : goal.returns-then-at-eq0-clause-less
returns-then-at-eq0-clause-less c = λ e. fewer_finished c.args.adjacency.now (progress c.args.search.now) c.args.visit c.requires c.push.new.self.items

pub returns-then-at-eq0-clause-further : goal.returns-then-at-eq0-clause-further
returns-then-at-eq0-clause-further c =
    further c.args.search.now.marks.items c.args.visit.node Done (visit_in c.args.adjacency.now (progress c.args.search.now) c.args.visit c.requires) (λ e. cc)

pub index-requires : goal.index-requires
index-requires c = (let n = c.arc-arc.ensures.to in let same = c.requires.sized in omega (arith, n, same, c.args.search.now.marks.ok))

pub open-requires-clause-searching : goal.open-requires-clause-searching
open-requires-clause-searching c =
    let p = progress c.args.search.now in
    let P : List Visit → Type 0 = λ path. IsSearching c.args.adjacency.now (record { marks = p.marks; path = path; order = p.order }) in
    subst P (sym c.in_ok-push-in-New.ensures.items) c.requires

pub open-requires-clause-is_new : goal.open-requires-clause-is_new
open-requires-clause-is_new c =
    mark_read c.args.search.now.marks.items c.arc-arc.result.to c.index.result.now
    (let n = c.arc-arc.ensures.to in let same = c.requires.sized in omega (arith, n, same)) c.index.ensures
    ∙ c.in-New.is

pub returns-in_ok-open-in-New-clause-less : goal.returns-in_ok-open-in-New-clause-less
returns-in_ok-open-in-New-clause-less c = λ e.
    let p = progress c.args.search.now in let v = c.args.adjacency.now in
    let P : List Visit → Type 0 = λ path. steps_left v (progress c.open.new.search) < steps_left v (record { marks = p.marks; path = path; order = p.order }) in
    subst P c.in_ok-push-in-New.ensures.items c.in_ok-open-in-New.ensures.less

pub returns-in_ok-push-in-Done-clause-less : goal.returns-in_ok-push-in-Done-clause-less
returns-in_ok-push-in-Done-clause-less c = λ e.
    let p = progress c.args.search.now in let v = c.args.adjacency.now in let x = c.args.visit in
    let P : List Visit → Type 0 = λ path. steps_left v (record { marks = p.marks; path = path; order = p.order }) < steps_left v (with_visit p x) in
    subst P (sym c.in_ok-push-in-Done.ensures.items) (fewer_passed v p x c.requires c.arc-arc.result.before c.arc-arc.ensures.falls)
