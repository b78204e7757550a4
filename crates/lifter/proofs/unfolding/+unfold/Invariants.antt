-- Each part and each side has a lower rank; and what the loop over the parts keeps: those before the next one are unfolded.
use Rattle.std.proofs.Common.{◌+◌, ◌*◌}
use Rattle.lifted_facts.specs.PlainFacts.{plain_fact}
use Rattle.lifter.{specs.PartLists.{parts}, proofs.{TakenParts.{IsTakenTo}, Ranks.{rank}}}
use Rattle.lifter.proofs.unfolding.+unfold.Given as goal

abbrev pub decreases-unfold : goal.decreases-unfold
decreases-unfold l = 3 * rank l.case.now (plain_fact l.fact.now) + 2

abbrev pub decreases-unfold_either : goal.decreases-unfold_either
decreases-unfold_either l = 3 * rank l.case.now (plain_fact l.fact.now) + 1

abbrev pub decreases-unfold_all : goal.decreases-unfold_all
decreases-unfold_all l = 3 * rank l.case.now (plain_fact l.fact.now) + 1

abbrev pub decreases-unfold_next : goal.decreases-unfold_next
decreases-unfold_next l = 3 * rank l.case.now (plain_fact l.fact.now)

abbrev pub decreases-unfold_last : goal.decreases-unfold_last
decreases-unfold_last l = 3 * rank l.case.now (plain_fact l.fact.now)

abbrev pub invariant-unfold_all-loop-k : goal.invariant-unfold_all-loop-k
invariant-unfold_all-loop-k l = IsTakenTo l.case l.tree (parts l.case (plain_fact l.fact)) l.k l.fn.at l.at l.fn.state l.state
