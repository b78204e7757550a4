use Rattle.std.proofs.{Common.{◌≡◌, ◌≢◌, ℕ, List, ◌++◌, Bor, Option, Some, None, sym, ◌∙◌, ap, subst, append_assoc}, lemmas.List.{append_cancel_left}}
use Rattle.std.{proofs.lemmas.{Slice.Eq.{strip_prefix_is}, Bool.Decides.{Decides-eqb}}, specs.Prelude.{MatchOption, codes}}
use Rattle.pc_common.specs.Lines.{unobservable, second_text}
use Rattle.pc_case.specs.Plain.{expectation}
use Rattle.cert_check.proofs.header.behind_header.Goals as goal

-- what stands after the second part of a text
abbrev IsBehind : List ℕ → Option (Bor (List ℕ)) → List ℕ → List ℕ → Type 0
IsBehind text r a b = MatchOption r ((left : List ℕ) → text ≡ (a ++ b) ++ left → ⊥) (λ x. text ≡ (a ++ b) ++ x.now)

behind : (text a rest b : List ℕ) (r : Option (Bor (List ℕ))) → text ≡ a ++ rest
    → MatchOption r ((left : List ℕ) → rest ≢ b ++ left) (λ x. rest ≡ b ++ x.now) → IsBehind text r a b
behind text a rest b None is none = λ left e. none left (append_cancel_left a rest (b ++ left) (sym is ∙ e ∙ append_assoc a b left))
behind text a rest b (Some x) is e = is ∙ ap (λ (t : List ℕ). a ++ t) e ∙ sym (append_assoc a b x.now)

pub returns : goal.returns
returns c =
    let text = c.args.text.now in let rest = c.in_ok-rest.rest.now in let first = c.verdict_line.result.now in
    let second = c.second_line.result.now in
    let whole = behind text first rest second c.strip_prefix-2.result
    (strip_prefix_is Decides-eqb text first (Some c.in_ok-rest.rest) c.in_ok-rest.ensures.cases)
    (strip_prefix_is Decides-eqb rest second c.strip_prefix-2.result c.strip_prefix-2.ensures.cases) in
    subst (λ a. IsBehind text c.strip_prefix-2.result a (second_text unobservable (expectation c.args.expect) ++ codes "\n")) c.verdict_line.ensures
    (subst (λ b. IsBehind text c.strip_prefix-2.result first b) c.second_line.ensures whole)
