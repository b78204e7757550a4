-- What is a text to one question is it to another that asks the same.
use Rattle.std.{proofs.{Common.{◌≡◌, List, ℕ, ◌∙◌, ap, subst}, Math.Path.{fun_ext}}, specs.Prelude.{Bool}}
use Rattle.pc_common.specs.{Case.{Expectation}, World.{Node, World}, Lines.{Names}}
use Rattle.pc_ground.specs.Tree.{Tree}
use Rattle.cert_check.specs.{Certificates.{Question}, Verified.{Verified}, declared.checked.Checked.{Checked}}

-- two questions ask one thing
pub record AskAlike (q r : Question) : Type 0 where
  pub names : q.names ≡ r.names
  pub expectation : q.expectation ≡ r.expectation
  pub tree : q.tree ≡ r.tree
  pub satisfied : (w : World Node) → q.satisfied w ≡ r.satisfied w

pub one_question : (q r : Question) → AskAlike q r → q ≡ r
one_question q r alike =
    ap (λ (ns : Names). record { names = ns; expectation = q.expectation; tree = q.tree; satisfied = q.satisfied }) alike.names
    ∙ ap (λ (e : Expectation). record { names = r.names; expectation = e; tree = q.tree; satisfied = q.satisfied }) alike.expectation
    ∙ ap (λ (t : Tree Node). record { names = r.names; expectation = r.expectation; tree = t; satisfied = q.satisfied }) alike.tree
    ∙ ap (λ (f : World Node → Bool). record { names = r.names; expectation = r.expectation; tree = r.tree; satisfied = f }) (fun_ext alike.satisfied)

pub verified_alike : (q r : Question) → AskAlike q r → (text : List ℕ) (checked : Checked) → Verified q text checked → Verified r text checked
verified_alike q r alike text checked verified = (let P : Question → Type 0 = λ p. Verified p text checked in subst P (one_question q r alike) verified)
