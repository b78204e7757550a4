-- The axioms that are kept and those that are not walked yet say what all say.
use Rattle.std.proofs.Common.{◌≡◌, [], ◌++◌, map, drop}
use Rattle.pc_syntax.specs.Closed.{plain_closed}
use Rattle.pc_ground.specs.{PlainGround.{plain_ground, simplified}, GroundTree.{axioms_unfolded}}
use Rattle.grounder.specs.{declared.operator.Operator.TheVariants.{And}, Members.{whole_of}, GroundingOf.{grounding_of}}
use Rattle.grounder.proofs.grounding.ground.Given as goal

abbrev pub invariant-loop-axiom : goal.invariant-loop-axiom
invariant-loop-axiom l =
    simplified (axioms_unfolded l.case (map (λ a. plain_closed a.body) l.axioms))
    ≡ whole_of And
    (map plain_ground l.kept.items ++ map (λ a. grounding_of l.case [] (plain_closed a.body)) (drop l.axiom-index l.axioms))
