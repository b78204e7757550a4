use Rattle.std.proofs.{Common.{◌≡◌, ◌∙◌, ◌++◌, ◌∷◌, [], ap, sym, subst, append_assoc, rules}, lemmas.Bool.{MatchBool-at_true, MatchBool-at_false}}
use Rattle.line_judge.{specs.JudgedLines.{IsGood, IsBad}, proofs.JudgedLines.{bad_stays, next_taken}}
use Rattle.line_judge.proofs.judged.Judged.read.Goals as goal

pub returns-then-not-branch : goal.returns-then-not-branch
returns-then-not-branch g c = λ start text good.
    let loop = c.loop-line.invariant in
    let line = c.in-Some.line.now ++ 10 ∷ [] in
    let rest = c.in-Some.rest.now in let number = c.end_line.new.self.lines in let begins = (g.J.Judge.view start).begins in
    let state = c.in_ok-end_line.ensures start (text ++ loop.0) (loop.2 start text good) in
    let bad : IsBad begins ((text ++ loop.0) ++ line) number = MatchBool-at_false {b = c.in_ok-end_line.field-0} _ _ (search rules) state in
    let is : ((text ++ loop.0) ++ line) ++ rest ≡ text ++ c.args.piece.now =
    append_assoc (text ++ loop.0) line rest ∙ append_assoc text loop.0 (line ++ rest)
    ∙ ap (λ xs. text ++ xs) (sym (loop.1 ∙ ap (λ xs. loop.0 ++ xs) c.in-Some.ensures.text_is)) in
    subst (λ t. IsBad begins t number) is (bad_stays begins ((text ++ loop.0) ++ line) rest number bad)

pub loop-line-preserved : goal.loop-line-preserved
loop-line-preserved g c =
    let loop = c.loop-line.invariant in
    let line = c.in-Some.line.now ++ 10 ∷ [] in (
      loop.0 ++ line,
      next_taken loop.0 line c.loop-line.left.now c.in-Some.rest.now c.args.piece.now loop.1 c.in-Some.ensures.text_is,
      λ start text good.
          let state = c.in_ok-end_line.ensures start (text ++ loop.0) (loop.2 start text good) in
          subst (λ t. IsGood g.J.Judge.view start t c.end_line.new.self) (append_assoc text loop.0 line)
          (MatchBool-at_true {b = c.in_ok-end_line.field-0} _ _ (search rules) state),
    )
