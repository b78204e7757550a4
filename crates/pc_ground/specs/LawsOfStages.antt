-- What a front promises of its stages has one proof.
use Rattle.std.{specs.{Prelude.{ℕ, List, [], ◌∷◌}, Coded.{le_prop}}, proofs.Math.{Nat.{ℕ_set}, Bool.{Bool-set}}}
use Rattle.pc_common.specs.Lines.{StageName}
use Rattle.pc_syntax.specs.{Closed.{PlainClosed}, LawsOfFormulas.{StagesWithin-prop}}
use Rattle.pc_ground.specs.Stages.{AreStages, AxiomsWithin}

pub AreStages-prop : (stages : List StageName) → IsProp (AreStages stages)
AreStages-prop stages = hlevel (le_prop, ℕ_set, Bool-set)

pub AxiomsWithin-prop : (numbers : List ℕ) (axioms : List PlainClosed) → IsProp (AxiomsWithin numbers axioms)
AxiomsWithin-prop numbers [] = hlevel
AxiomsWithin-prop numbers (p ∷ ps) = hlevel (StagesWithin-prop numbers p, AxiomsWithin-prop numbers ps)
