use Rattle.std.proofs.Common.{ap, arith, map, refl, sym, subst, ◌<◌, ◌≤◌, ◌≡◌, length}
use Rattle.pc_common.proofs.Writes.{writes_text, writes_more, writes_cut, writes_all}
use Rattle.pc_ground.specs.{declared.front.Front.{Front}, NodeForm.{names_of}}
use Rattle.graph_text.specs.declared.graph.Graph.{Graph}
use Rattle.solver.specs.declared.search.answer.Answer.TheVariants.{Observable as a_graph}
use Rattle.verdicts.specs.Verdicts.{IsWritable}
use Rattle.core_command.{specs.{CoreTexts.{pairs, without_text}, Found.{graph_text}}, proofs.BesideTexts.{images_beside, image_at}}
use Rattle.core_command.proofs.report.write_graphs.Goals as goal

pub write_without-requires : goal.write_without-requires
write_without-requires g c =
    let x = c.shown-item.result in
    let P : Front × Graph → Type 0 = λ s. IsWritable (names_of s.0) (a_graph s.1) in
    subst P (sym (rw c.as_slice-shown-items.ensures.value at c.shown-item.is))
    (c.requires.writable c.loop-k.k x (rw c.as_slice-shown-items.ensures.value at c.loop-k-test.true))

pub returns-in_err-write_without : goal.returns-in_err-write_without
returns-in_err-write_without g c =
    let numbers = c.args.kept.now in
    let shown = c.args.without.now in
    let n = c.get.result.now in
    let x = c.shown-item.result in
    let inside : c.loop-k.k < length shown = rw c.as_slice-shown-items.ensures.value at c.loop-k-test.true in
    let size : length (pairs numbers (map graph_text shown)) ≡ length shown = images_beside graph_text numbers shown c.requires.beside in
    let at = image_at graph_text numbers shown c.requires.beside c.loop-k.k n x inside c.get.ensures
    (rw c.as_slice-shown-items.ensures.value at c.shown-item.is) in
    writes_cut without_text (pairs numbers (map graph_text shown)) c.loop-k.k (n, graph_text x) (omega (arith, inside, size)) refl
    c.from_residual.ensures.0 c.loop-k.invariant (writes_text _ (ap without_text (sym at)) c.in_err-write_without.ensures)

pub loop-k-preserved : goal.loop-k-preserved
loop-k-preserved g c =
    let numbers = c.args.kept.now in
    let shown = c.args.without.now in
    let n = c.get.result.now in
    let x = c.shown-item.result in
    let inside : c.loop-k.k < length shown = rw c.as_slice-shown-items.ensures.value at c.loop-k-test.true in
    let size : length (pairs numbers (map graph_text shown)) ≡ length shown = images_beside graph_text numbers shown c.requires.beside in
    let at = image_at graph_text numbers shown c.requires.beside c.loop-k.k n x inside c.get.ensures
    (rw c.as_slice-shown-items.ensures.value at c.shown-item.is) in
    writes_more without_text (pairs numbers (map graph_text shown)) c.loop-k.k (n, graph_text x) (omega (arith, inside, size)) refl
    c.loop-k.invariant (writes_text _ (ap without_text (sym at)) c.in_ok-write_without.ensures)

pub returns : goal.returns
returns g c =
    let numbers = c.args.kept.now in
    let shown = c.args.without.now in
    let past : length shown ≤ c.loop-k.k = rw c.as_slice-shown-items.ensures.value at c.loop-k-test.false in
    let size : length (pairs numbers (map graph_text shown)) ≡ length shown = images_beside graph_text numbers shown c.requires.beside in
    writes_all without_text (pairs numbers (map graph_text shown)) c.loop-k.k (omega (arith, past, size)) refl c.loop-k.invariant
