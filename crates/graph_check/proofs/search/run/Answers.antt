use Rattle.std.proofs.Common.{◌<◌, List, sym, subst}
use Rattle.graph_check.specs.{declared.search.Visit.{Visit}, Searches.{progress, IsSearching, steps_left}}
use Rattle.graph_check.proofs.search.run.Goals as goal

pub step-requires : goal.step-requires
step-requires c =
    let p = progress c.loop-visit.search in
    let P : List Visit → Type 0 = λ path. IsSearching c.args.adjacency.now (record { marks = p.marks; path = path; order = p.order }) in
    subst P c.in-Some.ensures.items c.loop-visit.invariant.searching

pub loop-visit-smaller : goal.loop-visit-smaller
loop-visit-smaller c =
    let p = progress c.loop-visit.search in let v = c.args.adjacency.now in
    let P : List Visit → Type 0 = λ path. steps_left v (progress c.step.new.search) < steps_left v (record { marks = p.marks; path = path; order = p.order }) in
    subst P (sym c.in-Some.ensures.items) (c.in_ok-step.ensures.less c.if-not-branch.false)

pub loop-visit-preserved : goal.loop-visit-preserved
loop-visit-preserved c = record {
  searching = rw c.if-not-branch.false at c.in_ok-step.ensures.searching;
  further = λ b was. c.in_ok-step.ensures.further b (c.loop-visit.invariant.further b was);
}
