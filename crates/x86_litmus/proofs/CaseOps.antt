-- A listing that says a case keeps to what the type of a case asks of its micro-ops.
use Rattle.std.proofs.Common.{ℕ, List, sym, subst}
use Rattle.pc_common.specs.Case.{Case}
use Rattle.pc_case.specs.MicroOps.{AreMicroOps}
use Rattle.x86_litmus.{specs.{Items.{items_of}, Answer.{CaseOf}}, proofs.{Sounds.{sound}, CaseFacts.{are_micro_ops}}}

pub case_ops : (bytes : List ℕ) (c : Case) → CaseOf bytes c → AreMicroOps c.ops
case_ops bytes c (s, comes, is) =
    subst (λ (d : Case). AreMicroOps d.ops) (sym is) (are_micro_ops s (sound (items_of comes.listing) s comes.comes))
