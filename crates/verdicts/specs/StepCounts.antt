-- How many lines of a refutation are `split` lines, and how many are not.
use Rattle.std.specs.{Prelude.{ℕ, Bool, true, false, not, List, length}, List.{filter}}
use Rattle.pc_common.specs.{World.{Node}, Steps.{Step, split, close}}
use Rattle.solver.specs.declared.search.answer.Answer.{Answer as Found, TheVariants.{Observable as a_graph, Unobservable as a_refutation}}

-- the step's line is a `split` line
abbrev pub splits : Step Node → Bool
splits (split negated p) = true
splits (close l) = false

-- how many `split` lines the steps have
abbrev pub splits_of : List (Step Node) → ℕ
splits_of steps = length (filter splits steps)

-- how many other lines they have
abbrev pub leaves_of : List (Step Node) → ℕ
leaves_of steps = length (filter (λ s. not (splits s)) steps)

-- of what was found; a graph has no step lines
abbrev pub splits_found : Found → ℕ
splits_found (a_graph g) = 0
splits_found (a_refutation r) = splits_of r

abbrev pub leaves_found : Found → ℕ
leaves_found (a_graph g) = 0
leaves_found (a_refutation r) = leaves_of r
