-- The lines of the steps of a lifted refutation.
use Rattle.std.specs.{Prelude.{ℕ, ◌≡◌, ◌≤◌, List, [], ◌∷◌, ◌++◌, Some, All, map, slice_get, codes}, List.{join_with_byte}, Fmt.{decimal}}
use Rattle.pc_common.specs.{Case.{MicroOp}, Lines.{op_text}}
use Rattle.lifted_facts.specs.declared.way.Instance.{Instance, TheVariants.{Op as OpInstance, Core as CoreInstance}}
use Rattle.lifted_facts.specs.declared.way.Way.TheVariants.{Left as LeftWay, Right as RightWay, Not as NotWay, Bind as BindWay, Inst as InstWay, Member as MemberWay}
use Rattle.lifted_facts.specs.Lifted.{LiftedStep, derive, split, close, falsity, cycle, path, absent}
use Rattle.lifted_check.specs.declared.keyword.Keyword.{Keyword, TheVariants.{Left, Right, Not, Bind, Inst, Member, Split, False, Cycle, Path, Absent}}

abbrev pub keyword_text : Keyword → List ℕ
keyword_text Left = codes "left"
keyword_text Right = codes "right"
keyword_text Not = codes "not"
keyword_text Bind = codes "bind"
keyword_text Inst = codes "inst"
keyword_text Member = codes "member"
keyword_text Split = codes "split"
keyword_text False = codes "false"
keyword_text Cycle = codes "cycle"
keyword_text Path = codes "path"
keyword_text Absent = codes "absent"

-- the word that a step's line begins with
abbrev pub keyword_of : LiftedStep → Keyword
keyword_of (derive LeftWay k) = Left
keyword_of (derive RightWay k) = Right
keyword_of (derive NotWay k) = Not
keyword_of (derive BindWay k) = Bind
keyword_of (derive (InstWay v) k) = Inst
keyword_of (derive (MemberWay j) k) = Member
keyword_of (split k) = Split
keyword_of (close (falsity k)) = False
keyword_of (close (cycle k ks)) = Cycle
keyword_of (close (path k ks denial)) = Path
keyword_of (close (absent denial k)) = Absent

-- its numbers, in the order of its line
abbrev pub numbers_of : LiftedStep → List ℕ
numbers_of (derive LeftWay k) = k ∷ []
numbers_of (derive RightWay k) = k ∷ []
numbers_of (derive NotWay k) = k ∷ []
numbers_of (derive BindWay k) = k ∷ []
numbers_of (derive (InstWay v) k) = k ∷ []
numbers_of (derive (MemberWay j) k) = k ∷ j ∷ []
numbers_of (split k) = k ∷ []
numbers_of (close (falsity k)) = k ∷ []
numbers_of (close (cycle k ks)) = k ∷ ks
numbers_of (close (path k ks denial)) = k ∷ (ks ++ denial ∷ [])
numbers_of (close (absent denial k)) = denial ∷ k ∷ []

-- a value: the name g.n of a micro-op, or a core's number
abbrev pub value_text : List MicroOp → Instance → List ℕ
value_text ops (OpInstance i) = op_text (slice_get ops i)
value_text ops (CoreInstance k) = decimal k

-- the value of an instantiation stands last in its line
abbrev pub value_words : List MicroOp → LiftedStep → List (List ℕ)
value_words ops (derive (InstWay v) k) = value_text ops v ∷ []
value_words ops _ = []

abbrev pub step_words : List MicroOp → LiftedStep → List (List ℕ)
step_words ops s = keyword_text (keyword_of s) ∷ (map decimal (numbers_of s) ++ value_words ops s)

-- each number has at most 64 bits
abbrev pub IsSmall : ℕ → Type 0
IsSmall n = n ≤ 18446744073709551615

-- the value is a micro-op of the test, or a core's number
abbrev pub IsValue : List MicroOp → Instance → Type 0
IsValue ops (OpInstance i) = (o : MicroOp) × (slice_get ops i ≡ Some o) × IsSmall o.g × IsSmall o.n
IsValue ops (CoreInstance k) = IsSmall k

abbrev pub HasValue : List MicroOp → LiftedStep → Type 0
HasValue ops (derive (InstWay v) k) = IsValue ops v
HasValue ops _ = Unit {0}

-- the line, without its LF, is that of this step: its words, with one space between two
pub record IsStepLine (ops : List MicroOp) (line : List ℕ) (s : LiftedStep) : Type 0 where
  pub small : All IsSmall (numbers_of s)
  pub value : HasValue ops s
  pub is : line ≡ join_with_byte 32 (step_words ops s)
