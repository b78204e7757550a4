-- What a pattern's bytes say: a pattern, or the first fault. The bytes are a pattern where they close to a test, and
-- their faults are those of that test; where it has none, there may be too many rows.
use Rattle.std.specs.Prelude.{◌≡◌, ◌≤◌, ◌<◌, ◌+◌, ℕ, List, map, take, Some, slice_get}
use Rattle.pc_common.specs.{Case.{Case}, declared.{place.Place.{Place}, fault.FaultKind.TheVariants.{TooManyRows}}}
use Rattle.uspec_lexer.specs.{Token.{Token}, Spells.{Spells, IsLexicalFault}}
use Rattle.litmus_reader.specs.{Answer.{CaseOf}, Laws.{IsFault as IsTestFault}, declared.fault.CaseFault.{CaseFault, TheVariants.{Lexical, Content}}}
use Rattle.pattern_reader.specs.{Opens.{Open, opens_in}, Closing.{closed_bytes}, Rows.{Pattern, rows_of}, declared.pattern.TheConstants.{MAX_ROWS}}

-- the case with these open values
abbrev pub pattern_with : Case → List Open → Pattern
pattern_with c opens = record { case = c; opens = map (λ (o : Open). o.op) opens }

-- with these open values the bytes close to a test, of no more rows than there may be
pub record ClosesTo (bytes : List ℕ) (opens : List Open) (p : Pattern) : Type 0 where
  pub case : Case
  pub closed : CaseOf (closed_bytes bytes opens) case
  pub is : p ≡ pattern_with case opens
  pub few : rows_of p ≤ MAX_ROWS

-- with open value k there are too many rows, and with those before it there are not
pub record IsTooMany (c : Case) (opens : List Open) (fault : CaseFault) : Type 0 where
  pub k : ℕ
  pub any : Open
  pub here : slice_get opens k ≡ Some any
  pub few : rows_of (pattern_with c (take k opens)) ≤ MAX_ROWS
  pub many : MAX_ROWS < rows_of (pattern_with c (take (k + 1) opens))
  pub place : Place
  pub at : place.offset ≡ any.at
  pub is : fault ≡ Content (TooManyRows MAX_ROWS) place

-- with these open values the bytes close to no test, or there are too many rows
pub data IsClosedFault (bytes : List ℕ) (opens : List Open) (fault : CaseFault) : Type 0 where
  in_test : IsTestFault (closed_bytes bytes opens) fault → IsClosedFault bytes opens fault
  too_many : {c : Case} → CaseOf (closed_bytes bytes opens) c → IsTooMany c opens fault
      → IsClosedFault bytes opens fault

-- the bytes say this pattern
pub record PatternOf (bytes : List ℕ) (p : Pattern) : Type 0 where
  pub tokens : List Token
  pub spelled : Spells bytes tokens
  pub closes : ClosesTo bytes (opens_in tokens) p

-- the first fault of the bytes
pub data IsPatternFault (bytes : List ℕ) : CaseFault → Type 0 where
  lexical : {place : Place} → IsLexicalFault bytes place.offset → IsPatternFault bytes (Lexical place)
  closed : {tokens : List Token} {fault : CaseFault} → Spells bytes tokens → IsClosedFault bytes (opens_in tokens) fault
      → IsPatternFault bytes fault
