-- What the code's open reads are as plain data, and what the type of a pattern keeps.
use Rattle.std.specs.Prelude.{◌≡◌, ◌≤◌, ◌<◌, ◌*◌, ◌==◌, if◌then◌else◌, ℕ, zero, suc, List, [], ◌∷◌, ◌++◌, map, length, Option, Some, None, All}
use Rattle.pc_common.specs.{Case.{Value, Touch, Case}, declared.fault.FaultKind.TheVariants.{TooManyRows}}
use Rattle.pc_case.specs.Plain.{plain_value}
use Rattle.litmus_reader.specs.{Lists.{case_by, AreLists}, declared.{lists.CaseLists.{CaseLists}, fault.CaseFault.{CaseFault, TheVariants.{Content}}}}
use Rattle.pattern_reader.specs.declared.{opens.Open.{Open}, rows.OpenRead.{OpenRead}, pattern.TheConstants.{MAX_ROWS}}
use Rattle.pattern_reader.specs.Rows.{Pattern, values_of, choices_of, combinations, touch_reading}

abbrev pub values_in : OpenRead → List Value
values_in r = map plain_value r.values

abbrev pub op_in : OpenRead → ℕ
op_in r = r.op

-- the read may read something
abbrev pub HasValues : OpenRead → Type 0
HasValues r = 1 ≤ length r.values

abbrev pub touch_with : Option Value → Option Touch → Option Touch
touch_with value None = None
touch_with None (Some t) = Some t
touch_with (Some v) (Some t) = Some (touch_reading v t)

-- of open read k, if it is at this place
abbrev pub value_at_place : List ℕ → List Value → ℕ → ℕ → Option Value
value_at_place [] values k place = None
value_at_place (o ∷ os) [] k place = None
value_at_place (o ∷ os) (v ∷ vs) zero place = if o == place then Some v else None
value_at_place (o ∷ os) (v ∷ vs) (suc k) place = value_at_place os vs k place

abbrev pub pattern_by : CaseLists → List OpenRead → Pattern
pattern_by lists reads = record { case = case_by lists; opens = map op_in reads }

-- the lists make a case, and each read has what it may read of it
pub record AreReads (lists : CaseLists) (reads : List OpenRead) : Type 0 where
  pub lists_are : AreLists lists
  pub choices : map values_in reads ≡ choices_of (case_by lists) (map op_in reads)
  pub some : All HasValues reads

-- beside it, how many rows there are
pub record IsPattern (lists : CaseLists) (reads : List OpenRead) (rows : ℕ) : Type 0 where
  pub are : AreReads lists reads
  pub rows_are : rows ≡ combinations (map values_in reads)
  pub few : rows ≤ MAX_ROWS
  pub bound : length reads < 4294967296

-- one more read, of this micro-op, with which there are so many rows
pub record AddsRead (c : Case) (op rows : ℕ) (old new : List OpenRead) (more : ℕ) : Type 0 where
  pub read : OpenRead
  pub behind : new ≡ old ++ read ∷ []
  pub op_is : read.op ≡ op
  pub values : values_in read ≡ values_of c op
  pub product : more ≡ rows * length (values_of c op)
  pub few : more ≤ MAX_ROWS

-- with a read of this micro-op there are too many rows
pub record IsTooManyAt (c : Case) (o : Open) (rows : ℕ) (fault : CaseFault) : Type 0 where
  pub many : MAX_ROWS < rows * length (values_of c o.op)
  pub is : fault ≡ Content (TooManyRows MAX_ROWS) o.at
