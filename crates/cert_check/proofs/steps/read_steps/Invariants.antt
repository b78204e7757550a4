-- The steps that were read and those ahead are all of them.
use Rattle.std.proofs.Common.{List, length}
use Rattle.pc_common.specs.{World.{Node}, Steps.{Step}}
use Rattle.cert_check.{specs.{Questions.{question_of}, Ones.{IsTreeText}}, proofs.StepReads.{AllSteps}}
use Rattle.cert_check.proofs.steps.read_steps.Given as goal

abbrev pub invariant-loop-refutation : goal.invariant-loop-refutation
invariant-loop-refutation l =
    (steps : List (Step Node)) → IsTreeText (question_of l.fn.front) l.fn.text steps → AllSteps l.names (question_of l.fn.front).tree steps l.refutation l.left

abbrev pub decreases-loop-refutation : goal.decreases-loop-refutation
decreases-loop-refutation l = length l.left
