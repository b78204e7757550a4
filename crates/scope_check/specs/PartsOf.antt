-- Closed parts, under the connective or the quantifier of the formula whose parts they are.
use Rattle.pc_syntax.specs.Written.{Written, and_, or_, implies_, forall_, exists_}
use Rattle.pc_syntax.specs.Closed.{PlainClosed, closed_and, closed_or, closed_implies, closed_forall, closed_exists}

-- the formula connects two
abbrev pub IsConnective : Written → Type 0
IsConnective (and_ p q) = Unit {0}
IsConnective (or_ p q) = Unit {0}
IsConnective (implies_ p q) = Unit {0}
IsConnective _ = ⊥

-- two parts as it connects its own; of another formula the first part
abbrev pub connected_as : Written → PlainClosed → PlainClosed → PlainClosed
connected_as (and_ p q) a b = closed_and a b
connected_as (or_ p q) a b = closed_or a b
connected_as (implies_ p q) a b = closed_implies a b
connected_as _ a b = a

-- the formula is a quantifier over one
abbrev pub IsQuantifier : Written → Type 0
IsQuantifier (forall_ at sort name p) = Unit {0}
IsQuantifier (exists_ at sort name p) = Unit {0}
IsQuantifier _ = ⊥

-- a part under that quantifier; of another formula the part
abbrev pub quantified_as : Written → PlainClosed → PlainClosed
quantified_as (forall_ at sort name p) a = closed_forall sort a
quantified_as (exists_ at sort name p) a = closed_exists sort a
quantified_as _ a = a
