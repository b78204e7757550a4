-- A list of operands is split at its first `=>`, if it has none at its first `\/`, if it has none at its first `/\`,
-- and the lists on both sides are split likewise.
use Rattle.std.specs.Prelude.{◌≢◌, Option, Some, None}
use Rattle.pc_syntax.specs.Written.{Written, and_, or_, implies_}
use Rattle.uspec_parser.specs.declared.operands.Connective.{Connective, TheVariants.{And as conjoins, Or as disjoins, Implies as implies}}

pub data Operands : Type 0 where
  only : Written → Operands
  chain : Written → Connective → Operands → Operands

-- one list, a connective, and another list after it
abbrev pub beside : Operands → Connective → Operands → Operands
beside (only a) op r = chain a op r
beside (chain a first l) op r = chain a first (beside l op r)

-- none of the list's connectives is this one
abbrev pub Lacks : Connective → Operands → Type 0
Lacks op (only a) = Unit {0}
Lacks op (chain a first l) = (first ≢ op) × Lacks op l

pub data IsSplit : Operands → Written → Type 0 where
  single : {a : Written} → IsSplit (only a) a
  at_implies : {l r : Operands} {a b : Written} → Lacks implies l → IsSplit l a → IsSplit r b
      → IsSplit (beside l implies r) (implies_ a b)
  at_disjoins : {l r : Operands} {a b : Written} → Lacks implies (beside l disjoins r) → Lacks disjoins l
      → IsSplit l a → IsSplit r b → IsSplit (beside l disjoins r) (or_ a b)
  at_conjoins : {l r : Operands} {a b : Written} → Lacks implies (beside l conjoins r)
      → Lacks disjoins (beside l conjoins r) → Lacks conjoins l
      → IsSplit l a → IsSplit r b → IsSplit (beside l conjoins r) (and_ a b)

-- What the split makes of a list, from its last operand on: the conjunction that goes on, the disjunction after it,
-- and what the `=>` before these implies.
pub record Grouped : Type 0 where
  pub now : Written
  pub disjoined : Option Written
  pub implied : Option Written

abbrev pub or_now : Written → Option Written → Written
or_now now None = now
or_now now (Some rest) = or_ now rest

abbrev pub implies_now : Written → Option Written → Written
implies_now now None = now
implies_now now (Some rest) = implies_ now rest

abbrev pub disjunction : Grouped → Written
disjunction g = or_now g.now g.disjoined

abbrev pub whole : Grouped → Written
whole g = implies_now (disjunction g) g.implied

-- an operand before a list
abbrev pub before : Written → Connective → Grouped → Grouped
before a conjoins g = record { now = and_ a g.now; disjoined = g.disjoined; implied = g.implied }
before a disjoins g = record { now = a; disjoined = Some (disjunction g); implied = g.implied }
before a implies g = record { now = a; disjoined = None; implied = Some (whole g) }

abbrev pub group : Operands → Grouped
group (only a) = record { now = a; disjoined = None; implied = None }
group (chain a op l) = before a op (group l)

abbrev pub formula_of : Operands → Written
formula_of l = whole (group l)
