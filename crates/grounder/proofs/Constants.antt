-- Folding leaves a constant only as the whole formula.
use Rattle.pc_ground.specs.PlainGround.{PlainGround, ground_true, ground_false, ground_not, ground_and, ground_or, negated, ground_conjoined, ground_disjoined, simplified, ground_literal}
use Rattle.grounder.specs.InnerConstants.{HasNoInnerConstant}

folded-negated : (g : PlainGround) → HasNoInnerConstant g → HasNoInnerConstant (negated g)
folded-negated ground_true h = tt
folded-negated ground_false h = tt
folded-negated (ground_literal l) h = tt
folded-negated (ground_not g) h = h
folded-negated (ground_and a b) h = h
folded-negated (ground_or a b) h = h

folded-conjoined : (g h : PlainGround) → HasNoInnerConstant g → HasNoInnerConstant h → HasNoInnerConstant (ground_conjoined g h)
folded-conjoined ground_true h p q = q
folded-conjoined ground_false h p q = tt
folded-conjoined g ground_true p q = p
folded-conjoined g ground_false p q = tt
folded-conjoined g h p q = (p, q)

folded-disjoined : (g h : PlainGround) → HasNoInnerConstant g → HasNoInnerConstant h → HasNoInnerConstant (ground_disjoined g h)
folded-disjoined ground_false h p q = q
folded-disjoined ground_true h p q = tt
folded-disjoined g ground_false p q = p
folded-disjoined g ground_true p q = tt
folded-disjoined g h p q = (p, q)

pub folded : (g : PlainGround) → HasNoInnerConstant (simplified g)
folded ground_true = tt
folded ground_false = tt
folded (ground_literal l) = tt
folded (ground_not g) = folded-negated (simplified g) (folded g)
folded (ground_and g h) = folded-conjoined (simplified g) (simplified h) (folded g) (folded h)
folded (ground_or g h) = folded-disjoined (simplified g) (simplified h) (folded g) (folded h)
