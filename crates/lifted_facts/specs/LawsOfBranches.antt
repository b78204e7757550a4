-- What the open branches promise has one proof.
use Rattle.std.specs.{Prelude.{ℕ, List, [], ◌∷◌, length, reverse}, Coded.{le_prop}}
use Rattle.pc_common.specs.Case.{Case}
use Rattle.pc_syntax.specs.{Closed.{plain_closed}, LawsOfFormulas.{IsClosed-prop}}
use Rattle.static_preds.specs.Values.{scope_of}
use Rattle.lifted_facts.specs.declared.{fact.Fact.{Fact, TheVariants.{Said, Node as NodeFact, Edge as EdgeFact}}, waiting.Waiting.{Waiting as WaitingBranch}}
use Rattle.lifted_facts.specs.{PlainFacts.{IsProper}, OpenBranches.{AreWithin, AreKept}}

pub IsProper-prop : (c : Case) (f : Fact) → IsProp (IsProper c f)
IsProper-prop c (Said s) = hlevel (IsClosed-prop (scope_of s.env.items) (plain_closed s.formula.now), le_prop)
IsProper-prop c (NodeFact plus a) = hlevel
IsProper-prop c (EdgeFact plus a b) = hlevel

pub AreWithin-prop : (n : ℕ) (ls : List WaitingBranch) → IsProp (AreWithin n ls)
AreWithin-prop n [] = hlevel
AreWithin-prop n (l ∷ ls) = hlevel (le_prop, AreWithin-prop l.count ls)

pub AreKept-prop : (c : Case) (facts : List Fact) (later : List WaitingBranch) → IsProp (AreKept c facts later)
AreKept-prop c facts later = hlevel (IsProper-prop c, AreWithin-prop (length facts) (reverse later))
