use Rattle.std.proofs.{Common.{◌≡◌, ap, length, rules}, lemmas.List.{nil_from_length}}
use Rattle.line_judge.proofs.JudgedLines.{whole_at_end, refused_end}
use Rattle.line_judge.proofs.judged.Judged.end.Goals.{else-is_empty-via-then-is_empty+else-is_done, else-is_empty-via-else-is_empty}
use Rattle.line_judge.proofs.judged.Judged.end.Goals as goal

pub returns-then-is_done : goal.returns-then-is_done
returns-then-is_done g c = λ start text good.
    whole_at_end g.J.Judge.view start text c.args.self
    (nil_from_length c.args.self.part.items (search rules)) (λ lines stand. (c.is_done.ensures lines stand).0 c.if-is_done.true) good

pub returns : goal.returns
returns g c = λ start text good.
    refused_end g.J.Judge.view g.met.J.Judge.begins_first g.met.J.Judge.stands_begins start text c.args.self
    c.saturating_add.result c.saturating_add.ensures
    (elim c.else-is_empty.branch [
      | else-is_empty-via-then-is_empty+else-is_done w ↦ λ empty lines stand whole. (let done = (w.is_done.ensures lines stand).1 whole in cc)
      | else-is_empty-via-else-is_empty w ↦ λ empty lines stand whole. (let none : length c.args.self.part.items ≡ 0 = ap length empty in absurd (search rules))
    ]) good
