-- The step of a keyword and numbers, which reading a line makes.
use Rattle.std.specs.{Prelude.{ℕ, List, [], ◌∷◌, Option, Some, None}, Option.{option_map}}
use Rattle.lifted_facts.specs.declared.way.Way.TheVariants.{Left as LeftWay, Right as RightWay, Not as NotWay, Bind as BindWay, Member as MemberWay}
use Rattle.lifted_facts.specs.Lifted.{LiftedStep, derive, split, close, falsity, cycle, path, absent}
use Rattle.lifted_check.specs.declared.keyword.Keyword.{Keyword, TheVariants.{Left, Right, Not, Bind, Inst, Member, Split, False, Cycle, Path, Absent}}

-- its step adds a part of a fact
abbrev pub IsPartKeyword : Keyword → Type 0
IsPartKeyword Left = Unit {0}
IsPartKeyword Right = Unit {0}
IsPartKeyword Not = Unit {0}
IsPartKeyword Bind = Unit {0}
IsPartKeyword Inst = Unit {0}
IsPartKeyword Member = Unit {0}
IsPartKeyword _ = ⊥

-- the number of a list of one, and those of a list of two
abbrev pub only_number : List ℕ → Option ℕ
only_number (k ∷ []) = Some k
only_number _ = None

abbrev pub two_numbers : List ℕ → Option (ℕ × ℕ)
two_numbers (j ∷ k ∷ []) = Some (j, k)
two_numbers _ = None

-- the numbers before the last one, and that one
abbrev pub onto_front : ℕ → Option (List ℕ × ℕ) → Option (List ℕ × ℕ)
onto_front k None = None
onto_front k (Some (ks, last)) = Some (k ∷ ks, last)

abbrev pub front_and_last : List ℕ → Option (List ℕ × ℕ)
front_and_last [] = None
front_and_last (k ∷ []) = Some ([], k)
front_and_last (j ∷ k ∷ ks) = onto_front j (front_and_last (k ∷ ks))

abbrev pub cycle_of : List ℕ → Option LiftedStep
cycle_of [] = None
cycle_of (k ∷ ks) = Some (close (cycle k ks))

abbrev pub path_of : List ℕ → Option LiftedStep
path_of [] = None
path_of (k ∷ ks) = option_map (λ r. close (path k r.0 r.1)) (front_and_last ks)

-- no step has other numbers after its keyword; an instantiation has a value after its number
abbrev pub decoded : Keyword → List ℕ → Option LiftedStep
decoded Left ks = option_map (derive LeftWay) (only_number ks)
decoded Right ks = option_map (derive RightWay) (only_number ks)
decoded Not ks = option_map (derive NotWay) (only_number ks)
decoded Bind ks = option_map (derive BindWay) (only_number ks)
decoded Inst ks = None
decoded Member ks = option_map (λ r. derive (MemberWay r.1) r.0) (two_numbers ks)
decoded Split ks = option_map split (only_number ks)
decoded False ks = option_map (λ k. close (falsity k)) (only_number ks)
decoded Cycle ks = cycle_of ks
decoded Path ks = path_of ks
decoded Absent ks = option_map (λ r. close (absent r.0 r.1)) (two_numbers ks)
