-- What is reported of a model and a case: the verdict, the number of nodes, and the numbers of lines of one
-- certificate.
use Rattle.std.specs.Prelude.{◌≡◌, ℕ, List, length}
use Rattle.pc_common.specs.{Case.{Case}, Lines.{Line, Verdict, observable, unobservable}}
use Rattle.pc_syntax.specs.{Written.{WrittenModel}, Observable.{Observable}}
use Rattle.pc_ground.specs.{GroundTree.{ground_tree}, Numbers.{numbered}, declared.version.Version.TheVariants.{One}}
use Rattle.cert_check.specs.Certificates.{IsGraphCertificate, IsTreeCertificate}
use Rattle.command_base.specs.Questions.{question_by}
use Rattle.verdicts.specs.StepCounts.{splits_of, leaves_of}

-- observable where some choice of nodes with some strict order makes every axiom true of the case, unobservable where
-- none does
abbrev pub IsTrueVerdict : WrittenModel → Case → Verdict → Type 0
IsTrueVerdict m c observable = Observable m c
IsTrueVerdict m c unobservable = Observable m c → ⊥

-- the numbers of `split` lines and of other step lines of one certificate, of version 1; a graph has no step lines
pub data IsCounted (m : WrittenModel) (c : Case) : Verdict → ℕ → ℕ → Type 0 where
  of_graph : {lines : List Line} → IsGraphCertificate (question_by m c) lines → IsCounted m c observable 0 0
  of_tree : {lines : List Line} (tree : IsTreeCertificate (question_by m c) One lines)
      → IsCounted m c unobservable (splits_of tree.steps) (leaves_of tree.steps)

-- the verdict, the number of different nodes in the literals of the ground tree, and the numbers of step lines
pub record IsSummary (m : WrittenModel) (c : Case) (v : Verdict) (nodes splits leaves : ℕ) : Type 0 where
  pub is_true : IsTrueVerdict m c v
  pub nodes_are : nodes ≡ length (numbered (ground_tree m c))
  pub counted : IsCounted m c v splits leaves
