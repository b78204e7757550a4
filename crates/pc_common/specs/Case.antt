-- A case: what a litmus test says, as plain data.
use Rattle.std.specs.Prelude.{ℕ, List, [], ◌∷◌, Option, max, ◌+◌}

-- a page of memory: its tag and the index inside it
pub record PageAt : Type 0 where
  pub tag : ℕ
  pub index : ℕ

-- a physical address: a page of memory, or the page-table entry of a virtual tag
pub data Address : Type 0 where
  page : PageAt → Address
  entry_of : ℕ → Address

-- what a page-table entry holds: the physical tag that it maps to, its accessed mark and its dirty mark (0 or 1)
pub record TableEntry : Type 0 where
  pub tag : ℕ
  pub accessed : ℕ
  pub dirty : ℕ

-- what is written or read
pub data Value : Type 0 where
  number : ℕ → Value
  entry : TableEntry → Value

-- what an access touches: its virtual address, its physical address and its value
pub record Touch : Type 0 where
  pub va : PageAt
  pub pa : Address
  pub value : Value

pub data Kind : Type 0 where
  read : Kind
  write : Kind
  fence : Kind

-- a micro-op: instruction number g and number n inside it, its core and thread, its type names,
-- and what it touches, which a fence does not
pub record MicroOp : Type 0 where
  pub g : ℕ
  pub n : ℕ
  pub core : ℕ
  pub thread : ℕ
  pub types : List (List ℕ)
  pub kind : Kind
  pub touch : Option Touch

-- a dependency of a kind, between two micro-ops by their places in test order
pub record Dependency : Type 0 where
  pub kind : List ℕ
  pub source : ℕ
  pub target : ℕ

pub data Expectation : Type 0 where
  permitted : Expectation
  forbidden : Expectation
  unstated : Expectation

-- micro-ops in test order; dependencies; stated initial and final values; the expectation
pub record Case : Type 0 where
  pub ops : List MicroOp
  pub dependencies : List Dependency
  pub initial : List (Address × Value)
  pub final : List (Address × Value)
  pub expectation : Expectation

-- one more than the greatest core, or 0 without micro-ops
abbrev pub cores_of : List MicroOp → ℕ
cores_of [] = 0
cores_of (o ∷ os) = max (o.core + 1) (cores_of os)
