-- How many openers are open at the tokens of a list of operands.
use Rattle.std.specs.Prelude.{ℕ, ◌+◌, Bool, nat_le}
use Rattle.uspec_parser.specs.declared.level.{TheConstants.{MAX_OPENERS}, Level.{Level}}

-- as many openers are open already as may be: one more is too deep
abbrev pub is_deep : ℕ → Bool
is_deep opened = nat_le MAX_OPENERS opened

-- a list begins where this many are open
abbrev pub level_of : ℕ → Level
level_of opened = record { at_implies = opened; at_or = opened; at_and = opened }

-- an operator is open until its list ends or a looser one of the list stands: so `=>` ends `\/` and `/\`, and `\/` ends
-- `/\`
abbrev pub level_after_implies : Level → Level
level_after_implies l = level_of (l.at_implies + 1)

abbrev pub level_after_or : Level → Level
level_after_or l = record { at_implies = l.at_implies; at_or = l.at_or + 1; at_and = l.at_or + 1 }

abbrev pub level_after_and : Level → Level
level_after_and l = record { at_implies = l.at_implies; at_or = l.at_or; at_and = l.at_and + 1 }
