-- What the builder of a case holds of the lines so far.
use Rattle.std.specs.Prelude.{◌≡◌, ⊤, List, [], ◌∷◌, ◌++◌, Option, Some, None, map}
use Rattle.pc_common.specs.declared.{place.Place.{Place}, value.Value.{Value}, fault.FaultKind.{FaultKind, TheVariants.{AgainInitial, AgainFinal}}}
use Rattle.pc_common.specs.Case.{Expectation}
use Rattle.pc_case.specs.{Plain.{micro_op, dependency, expectation}, declared.stated.Stated.{Stated}}
use Rattle.litmus_reader.specs.Items.{value_of, microops_in, heads_in, relationships_in, initial_in, final_in, expectations_in, op_of, dependency_of}
use Rattle.litmus_reader.specs.{Syntax.{IsTestOf}, Content.{IsFaultOf, IsClean}, declared.fault.CaseFault.{CaseFault}}
use Rattle.litmus_reader.specs.declared.{fault.CaseFault.TheVariants.{Lexical, Syntax, Content, Memory}, item.{Head.{Head}, Microop.{Microop}}}
use Rattle.litmus_reader.specs.declared.{item.{Relationship.{Relationship}, ValueLine.{ValueLine}, Item.{Item}}, builder.When.{When}}
use Rattle.litmus_reader.specs.declared.builder.{When.TheVariants.{Initial, Final}, StatedExpectation.{StatedExpectation}, CaseBuilder.{CaseBuilder}}
use Rattle.uspec_lexer.specs.Token.{Token}

abbrev pub stated_of : ValueLine → Stated
stated_of v = record { pa = v.pa; value = value_of v.value }

-- the word of the fault where such a value is stated again
abbrev pub word_of : When → Value → Value → FaultKind
word_of Initial = AgainInitial
word_of Final = AgainFinal

-- the expectation that was stated, if one was
abbrev pub stated_expectations : Option StatedExpectation → List (Expectation × Place)
stated_expectations None = []
stated_expectations (Some s) = (expectation s.expect, s.at) ∷ []

pub record HasLines (k : CaseBuilder) (before : List Item) : Type 0 where
  pub heads : k.heads.items ≡ heads_in before
  pub ops : map micro_op k.ops ≡ map op_of (microops_in before)
  -- whatever micro-ops come after it
  pub dependencies : (more : List Head)
      → map dependency k.dependencies ≡ map (dependency_of (heads_in before ++ more)) (relationships_in before)
  pub initial : k.initial ≡ map stated_of (initial_in before)
  pub final_values : k.final_values ≡ map stated_of (final_in before)
  pub expected : stated_expectations k.expected ≡ expectations_in before

-- one more micro-op
pub record AddsMicroop (old new : CaseBuilder) (m : Microop) : Type 0 where
  pub heads : new.heads.items ≡ old.heads.items ++ m.head ∷ []
  pub ops : map micro_op new.ops ≡ map micro_op old.ops ++ op_of m ∷ []
  pub dependencies : new.dependencies ≡ old.dependencies
  pub initial : new.initial ≡ old.initial
  pub final_values : new.final_values ≡ old.final_values
  pub expected : new.expected ≡ old.expected

-- one more dependency
pub record AddsRelationship (old new : CaseBuilder) (r : Relationship) : Type 0 where
  pub heads : new.heads ≡ old.heads
  pub ops : new.ops ≡ old.ops
  pub dependencies :
      map dependency new.dependencies ≡ map dependency old.dependencies ++ dependency_of old.heads.items r ∷ []
  pub initial : new.initial ≡ old.initial
  pub final_values : new.final_values ≡ old.final_values
  pub expected : new.expected ≡ old.expected

-- the tokens are a test of lines without a fault, and it holds these
abbrev pub HasTest : List Token → CaseBuilder → Type 0
HasTest ts k = (items : List Item) × IsTestOf items ts × IsClean items × HasLines k items

-- why a line is not taken after these: its fault, or want of memory
abbrev pub IsLineFault : List Item → Item → CaseFault → Type 0
IsLineFault before item (Content kind place) = IsFaultOf before item kind place
IsLineFault before item Memory = ⊤
IsLineFault before item (Lexical place) = ⊥
IsLineFault before item (Syntax place) = ⊥
