use Rattle.std.proofs.{Common.{◌≡◌, ◌∙◌, ◌++◌, [], ap, sym, rules}, lemmas.List.{nil_from_length}}
use Rattle.line_judge.proofs.JudgedLines.{line_judged, line_stepped}
use Rattle.line_judge.proofs.judged.Judged.end_line.Goals as goal

-- the line stands in the piece
pub returns-then-is_empty : goal.returns-then-is_empty
returns-then-is_empty g c = λ start text good.
    let empty : c.args.self.now.part.items ≡ [] = nil_from_length c.args.self.now.part.items (search rules) in
    line_stepped g.J.Judge.view g.met.J.Judge.stands_begins start text c.args.end.now c.args.end.now
    c.args.self.now _ c.step.result c.requires (sym (ap (λ part. part ++ c.args.end.now) empty)) c.saturating_add-self.ensures empty
    c.step.ensures.same_begins c.step.ensures.same_whole c.step.ensures.goes c.step.ensures.refused good

-- the line goes over a cut
pub returns : goal.returns
returns g c = λ start text good.
    line_judged g.J.Judge.view g.met.J.Judge.stands_begins start text c.args.end.now c.deref.result.now
    c.args.self.now _ c.in_ok-good.good c.requires (c.deref.ensures.value ∙ c.in_ok-extend_from_slice.ensures.items)
    c.saturating_add-self.ensures c.clear.ensures.items
    c.step-2.ensures.same_begins c.step-2.ensures.same_whole c.in_ok-good.ensures.goes c.in_ok-good.ensures.refused good
