use Rattle.std.proofs.{Common.{◌≡◌, ◌++◌, List, ℕ, length, drop, sym, ◌∙◌, ap}, lemmas.{List.{append_cancel_left}, Slice.Eq.{starts_is}}}
use Rattle.std.{proofs.lemmas.Bool.{Decides.{Decides-eqb}, false≢true}, specs.Prelude.{codes}}
use Rattle.cert_check.specs.StepTexts.{header_text}
use Rattle.cert_check.proofs.one.says_two.Goals as goal

pub returns-in-Some : goal.returns-in-Some
returns-in-Some c =
    let header = header_text c.args.front.now.case.expectation in let body = c.in-Some.body.now in
    let s = starts_is Decides-eqb body (codes "version 2\n") c.starts_with.result c.starts_with.ensures.value in
    let is : c.args.bytes.now ≡ header ++ body = rw c.expect.ensures at c.in-Some.ensures in (
      λ yes. (drop (length (codes "version 2\n")) body, is ∙ ap (λ (t : List ℕ). header ++ t) (s.0 yes)),
      λ two. s.1 two.0 (append_cancel_left header body (codes "version 2\n" ++ two.0) (sym is ∙ two.1)),
    )

pub returns-in-None : goal.returns-in-None
returns-in-None c = (λ e. absurd (false≢true e), λ two. absurd ((rw c.expect.ensures at c.in-None.ensures) (codes "version 2\n" ++ two.0) two.1))
