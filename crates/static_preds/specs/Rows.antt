-- Predicates that ask of one micro-op or of two, or of what these touch, where the micro-ops are at hand.
use Rattle.std.specs.Prelude.{Bool, false}
use Rattle.pc_common.specs.Case.{Case, MicroOp}
use Rattle.pc_syntax.specs.declared.pred.Pred.{Pred}
use Rattle.pc_syntax.specs.{Arguments.{holds_of, holds_of_both}, Predicates.{Rule, of_op, of_touch, of_ops, of_touches, row_of}}

-- the predicate asks of what one micro-op touches
abbrev pub IsOfTouch : Rule → Type 0
IsOfTouch (of_touch test) = Unit {0}
IsOfTouch _ = ⊥

abbrev pub AsksOfTouch : Pred → Type 0
AsksOfTouch p = IsOfTouch (row_of p).rule

-- the predicate asks of one micro-op, or of what it touches
abbrev pub IsOfOp : Rule → Type 0
IsOfOp (of_op test) = Unit {0}
IsOfOp (of_touch test) = Unit {0}
IsOfOp _ = ⊥

abbrev pub AsksOfOp : Pred → Type 0
AsksOfOp p = IsOfOp (row_of p).rule

-- the predicate asks of what two micro-ops touch
abbrev pub IsOfTouches : Rule → Type 0
IsOfTouches (of_touches test) = Unit {0}
IsOfTouches _ = ⊥

abbrev pub AsksOfTouches : Pred → Type 0
AsksOfTouches p = IsOfTouches (row_of p).rule

-- the predicate asks of two micro-ops, or of what they touch
abbrev pub IsOfOps : Rule → Type 0
IsOfOps (of_ops test) = Unit {0}
IsOfOps (of_touches test) = Unit {0}
IsOfOps _ = ⊥

abbrev pub AsksOfOps : Pred → Type 0
AsksOfOps p = IsOfOps (row_of p).rule

-- what a rule of one micro-op says of it, and a rule of two
abbrev pub op_rule_holds : Case → Rule → MicroOp → Bool
op_rule_holds c (of_op test) op = test op
op_rule_holds c (of_touch test) op = holds_of op.touch (test c)
op_rule_holds c _ op = false

abbrev pub ops_rule_holds : Rule → MicroOp → MicroOp → Bool
ops_rule_holds (of_ops test) a b = test a b
ops_rule_holds (of_touches test) a b = holds_of_both a.touch b.touch test
ops_rule_holds _ a b = false
