-- What a line that was read makes of the open branches.
use Rattle.std.{proofs.Common.{◌≡◌, ℕ, Bool, true, false, List, [], ◌∷◌, sym, ◌∙◌, subst}, specs.Prelude.{Result, Ok}}
use Rattle.pc_common.specs.{World.{Node}, Steps.{Step}, Lines.{Names}}
use Rattle.pc_ground.specs.{declared.{line_fault.LineFault.{LineFault}, version.Version.{Version}}, Tree.{Tree}, Refutes.{Branch, Runs}}
use Rattle.refutation.specs.{Reading.{IsLineOf, head_of, nodes_of}, declared.step_head.StepHead.{StepHead}}
use Rattle.tree_check.specs.OpenBranches.{OpenBranches, HasStepped}
use Rattle.cert_check.{specs.Stages.{StepsOn}, proofs.Words.{same_step}}

-- the line is that of one step, so what the step does the line does
pub line_steps : (names : Names) (v : Version) (t : Tree Node) (opens : List Branch) (text : List ℕ) (s : Step Node) → IsLineOf names text s
    → ((r : Step Node) → IsLineOf names text r → r ≡ s) → (new : OpenBranches) (good : Bool) → HasStepped v t s opens new good
    → StepsOn names v t opens text new good
line_steps names v t opens text s is only new true h = (s, is, only, h)
line_steps names v t opens text s is only new false h =
    (λ r next line run. let P : Step Node → Type 0 = λ u. Runs v t (u ∷ []) opens next in h next (subst P (only r line) run))

pub only_step : (names : Names) (text : List ℕ) (s : Step Node) (head : StepHead) (nodes : List Node) → head ≡ head_of s → nodes ≡ nodes_of s
    → ((r : Step Node) → IsLineOf names text r → (◌≡◌ {A = Result StepHead LineFault} (Ok head) (Ok (head_of r))) × (nodes ≡ nodes_of r))
    → (r : Step Node) → IsLineOf names text r → r ≡ s
only_step names text s head nodes is are again r line =
    let both = again r line in
    let heads : head ≡ head_of r = (let e = both.0 in cc) in
    same_step r s (sym heads ∙ is) (sym both.1 ∙ are)
