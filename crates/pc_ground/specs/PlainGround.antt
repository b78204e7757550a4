-- A ground formula without addresses in memory; its negations pushed down to the literals, and its constants folded.
use Rattle.std.specs.Prelude.{Bool, true, false}
use Rattle.pc_common.specs.World.{Node}
use Rattle.pc_ground.specs.{declared.{literal.Literal.{Literal}, ground.Ground.{Ground, TheVariants.{True, False, Lit, Not', And', Or'}}}, Keys.{literal_node}}
use Rattle.pc_ground.specs.Tree.{Tree, always, never, leaf, both, either, contrary}

pub data PlainGround : Type 0 where
  ground_true : PlainGround
  ground_false : PlainGround
  ground_literal : Literal Node → PlainGround
  ground_not : PlainGround → PlainGround
  ground_and : PlainGround → PlainGround → PlainGround
  ground_or : PlainGround → PlainGround → PlainGround

abbrev pub plain_ground : Ground → PlainGround
plain_ground True = ground_true
plain_ground False = ground_false
plain_ground (Lit l) = ground_literal (literal_node l)
plain_ground (Not' p a) = ground_not (plain_ground a)
plain_ground (And' p a q b) = ground_and (plain_ground a) (plain_ground b)
plain_ground (Or' p a q b) = ground_or (plain_ground a) (plain_ground b)

-- the tree of the formula (true), or of its negation (false)
abbrev pub pushed : Bool → PlainGround → Tree Node
pushed true ground_true = always
pushed false ground_true = never
pushed true ground_false = never
pushed false ground_false = always
pushed true (ground_literal l) = leaf l
pushed false (ground_literal l) = leaf (contrary l)
pushed true (ground_not g) = pushed false g
pushed false (ground_not g) = pushed true g
pushed true (ground_and g h) = both (pushed true g) (pushed true h)
pushed false (ground_and g h) = either (pushed false g) (pushed false h)
pushed true (ground_or g h) = either (pushed true g) (pushed true h)
pushed false (ground_or g h) = both (pushed false g) (pushed false h)

-- And with constants folded
abbrev pub conjoined : {N : Type 0} → Tree N → Tree N → Tree N
conjoined always t = t
conjoined never t = never
conjoined t always = t
conjoined t never = never
conjoined t u = both t u

-- Or with constants folded
abbrev pub disjoined : {N : Type 0} → Tree N → Tree N → Tree N
disjoined never t = t
disjoined always t = always
disjoined t never = t
disjoined t always = always
disjoined t u = either t u

-- the constants folded, bottom up: one is left only where it is the whole tree
abbrev pub folded : {N : Type 0} → Tree N → Tree N
folded always = always
folded never = never
folded (leaf l) = leaf l
folded (both a b) = conjoined (folded a) (folded b)
folded (either a b) = disjoined (folded a) (folded b)

abbrev pub normal : PlainGround → Tree Node
normal g = folded (pushed true g)

-- the negation of a formula without constants below its connectives, again without them; and so And and Or of two
abbrev pub negated : PlainGround → PlainGround
negated ground_true = ground_false
negated ground_false = ground_true
negated g = ground_not g

abbrev pub ground_conjoined : PlainGround → PlainGround → PlainGround
ground_conjoined ground_true g = g
ground_conjoined ground_false g = ground_false
ground_conjoined g ground_true = g
ground_conjoined g ground_false = ground_false
ground_conjoined g h = ground_and g h

abbrev pub ground_disjoined : PlainGround → PlainGround → PlainGround
ground_disjoined ground_false g = g
ground_disjoined ground_true g = ground_true
ground_disjoined g ground_false = g
ground_disjoined g ground_true = ground_true
ground_disjoined g h = ground_or g h

-- the constants folded, bottom up, with the negations left where they are
abbrev pub simplified : PlainGround → PlainGround
simplified ground_true = ground_true
simplified ground_false = ground_false
simplified (ground_literal l) = ground_literal l
simplified (ground_not g) = negated (simplified g)
simplified (ground_and g h) = ground_conjoined (simplified g) (simplified h)
simplified (ground_or g h) = ground_disjoined (simplified g) (simplified h)
