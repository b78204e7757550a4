use Rattle.std.proofs.Common.{⊎_elim, inl, inr}
use Rattle.x86_litmus.proofs.Totality.{case_or_fault}
use Rattle.x86_litmus.proofs.laws.case_or_fault.Goals as goal

pub returns : goal.returns
returns c = ⊎_elim (λ said. inl said) (λ (f, some, is). inr (f, (some, is))) (case_or_fault c.args.bytes.now)
