-- The parts of a listing after its header.
use Rattle.std.specs.Prelude.{ℕ, Bool, List}

-- a name, and where it stands
pub record Named : Type 0 where
  pub word : List ℕ
  pub at : ℕ

-- loc = NAME | "[" NAME "]"
pub data Location : Type 0 where
  bare : Named → Location
  bracketed : Named → Location

-- loc "=" NUMBER
pub record Stated : Type 0 where
  pub location : Location
  pub value : ℕ

-- "{" [init (";" init)* [";"]] "}", with whether the last ";" stands there
pub data Block : Type 0 where
  no_values : Block
  values : Stated → List Stated → Bool → Block

-- MFENCE, a store of a number to a location, or a load of a register from a location
pub data Action : Type 0 where
  fence : Action
  store : Named → ℕ → Action
  load : Named → Named → Action

-- an instruction has its word at a place
pub data Cell : Type 0 where
  empty : Cell
  instruction : ℕ → Action → Cell

-- cell ("|" cell)* ";", with where the ";" stands
pub record Row : Type 0 where
  pub first : Cell
  pub others : List Cell
  pub end : ℕ

-- NUMBER ":" NAME "=" NUMBER: a thread, where its number stands, its register and the value; or loc "=" NUMBER
pub data Equation : Type 0 where
  of_register : ℕ → ℕ → Named → ℕ → Equation
  of_location : Stated → Equation

-- ["~"] exists (eq ("/\" eq)*, in brackets or not)
pub record Condition : Type 0 where
  pub denied : Bool
  pub in_brackets : Bool
  pub first : Equation
  pub others : List Equation

pub record Listing : Type 0 where
  pub block : Block
  pub first_column : Named
  pub columns : List Named
  pub rows : List Row
  pub condition : Condition
