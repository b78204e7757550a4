-- The piece up to what is left was taken, and its lines were good.
use Rattle.std.proofs.Common.{◌≡◌, ◌++◌, List, ℕ, length}
use Rattle.line_judge.specs.JudgedLines.{IsGood}
use Rattle.line_judge.proofs.judged.Judged.read.Given as goal

abbrev pub invariant-loop-line : goal.invariant-loop-line
invariant-loop-line g l =
    (taken : List ℕ) × (l.piece ≡ taken ++ l.left)
    × ((start : _) (text : List ℕ) → IsGood g.J.Judge.view start text l.initial.self
    → IsGood g.J.Judge.view start (text ++ taken) l.self)

abbrev pub decreases-loop-line : goal.decreases-loop-line
decreases-loop-line g l = length l.left
