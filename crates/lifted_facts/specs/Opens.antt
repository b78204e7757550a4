-- The open branches of the code.
use Rattle.std.specs.Prelude.{List, reverse}
use Rattle.lifted_facts.specs.{declared.open_branches.FactBranches.{FactBranches}, PlainFacts.{Branch}, OpenBranches.{opens_of}}

abbrev pub opens_at : FactBranches → List Branch
opens_at b = opens_of b.is_open b.facts.items (reverse b.later.items)
