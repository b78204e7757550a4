-- What holds of the bytes of every pattern.
use Rattle.std.specs.Prelude.{◌≡◌, ◌⊎◌, ℕ, List}
use Rattle.litmus_reader.specs.declared.fault.CaseFault.{CaseFault}
use Rattle.pattern_reader.specs.{Rows.{Pattern}, Answer.{PatternOf, IsPatternFault}}

abbrev pub HasPatternOrFault : List ℕ → Type 0
HasPatternOrFault bytes = ((p : Pattern) × PatternOf bytes p) ⊎ ((f : CaseFault) × IsPatternFault bytes f)

abbrev pub HasOnePattern : List ℕ → Type 0
HasOnePattern bytes = (p q : Pattern) → PatternOf bytes p → PatternOf bytes q → p ≡ q

abbrev pub HasOneFault : List ℕ → Type 0
HasOneFault bytes = (e f : CaseFault) → IsPatternFault bytes e → IsPatternFault bytes f → e ≡ f

-- not both
abbrev pub PatternExcludesFault : List ℕ → Type 0
PatternExcludesFault bytes = (p : Pattern) (f : CaseFault) → PatternOf bytes p → IsPatternFault bytes f → ⊥
