use Rattle.std.{proofs.Common.{take}, specs.Prelude.{All}}
use Rattle.solver.specs.{Spelled.{spelled}, Places.{place_signed, IsChosen}, Opens.{positions}}
use Rattle.solver.proofs.search.candidate.first_candidate.Given as goal

abbrev pub invariant-loop-place : goal.invariant-loop-place
invariant-loop-place l =
    All (λ q. IsChosen (spelled l.tree.rows) (positions l.asserted) (place_signed q)) (take l.place-index l.asserted)
