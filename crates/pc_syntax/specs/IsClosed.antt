-- What a closed formula keeps. A scope lists the sorts of the slots, from the outermost binding.
use Rattle.std.specs.Prelude.{◌≡◌, ℕ, ◌<◌, ◌≤◌, ◌+◌, List, [], ◌∷◌, ◌++◌, Option, Some, None, length, map, slice_get, unwrap_or}
use Rattle.pc_common.specs.declared.limits.TheConstants.{MAX_CORE}
use Rattle.pc_syntax.specs.declared.{limits.TheConstants.{MAX_STAGE, MAX_VARIABLES}, term.Sort.{Sort, TheVariants.{Microop, Core}}}
use Rattle.pc_syntax.specs.declared.closed_term.{ClosedArg.{ClosedArg, TheVariants.{Slot, Core as core_arg, Plain}}, ClosedNode.{ClosedNode}}
use Rattle.pc_syntax.specs.declared.{closed_term.ClosedEdge.{ClosedEdge}, pred.Takes.{Takes}}
use Rattle.pc_syntax.specs.{declared.pred.Takes.TheVariants.{Op as takes_op, Core as takes_core, Plain as takes_plain}, Predicates.{takes_of}}
use Rattle.pc_syntax.specs.Closed.{PlainClosed, closed_not, closed_and, closed_or, closed_implies, closed_forall, closed_exists, closed_static, closed_nodes, closed_edges, closed_bind}

-- the slot is bound with this sort
abbrev pub IsBound : List Sort → ℕ → Sort → Type 0
IsBound scope k sort = slice_get scope k ≡ Some sort

-- the argument is of the kind that is taken
abbrev pub FitsArg : List Sort → Takes → ClosedArg → Type 0
FitsArg scope takes_op (Slot k) = IsBound scope k Microop
FitsArg scope takes_core (Slot k) = IsBound scope k Core
FitsArg scope takes_core (core_arg n) = n < MAX_CORE + 1
FitsArg scope takes_plain (Plain name) = Unit {0}
FitsArg scope _ _ = ⊥

-- as many arguments as are taken, each of its kind
abbrev pub FitArgs : List Sort → List Takes → List ClosedArg → Type 0
FitArgs scope [] [] = Unit {0}
FitArgs scope (t ∷ ts) (a ∷ as_) = FitsArg scope t a × FitArgs scope ts as_
FitArgs scope _ _ = ⊥

abbrev pub FitsCore : List Sort → Option ClosedArg → Type 0
FitsCore scope None = Unit {0}
FitsCore scope (Some a) = FitsArg scope takes_core a

abbrev pub FitsNode : List Sort → ClosedNode → Type 0
FitsNode scope t = IsBound scope t.op Microop × FitsCore scope t.core × (t.stage < MAX_STAGE + 1)

abbrev pub FitNodes : List Sort → List ClosedNode → Type 0
FitNodes scope [] = Unit {0}
FitNodes scope (t ∷ ts) = FitsNode scope t × FitNodes scope ts

abbrev pub FitEdges : List Sort → List ClosedEdge → Type 0
FitEdges scope [] = Unit {0}
FitEdges scope (t ∷ ts) = FitsNode scope t.from × FitsNode scope t.to × FitEdges scope ts

-- the argument has a value: it is a bound slot or a core number
abbrev pub HasValue : List Sort → ClosedArg → Type 0
HasValue scope (Slot k) = k < length scope
HasValue scope (core_arg n) = n < MAX_CORE + 1
HasValue scope (Plain name) = ⊥

abbrev pub HaveValues : List Sort → List ClosedArg → Type 0
HaveValues scope [] = Unit {0}
HaveValues scope (a ∷ as_) = HasValue scope a × HaveValues scope as_

-- the sort of an argument that has a value
abbrev pub sort_of : List Sort → ClosedArg → Sort
sort_of scope (Slot k) = unwrap_or (slice_get scope k) Core
sort_of scope (core_arg n) = Core
sort_of scope (Plain name) = Core

-- the scope with one variable more
abbrev pub with_sort : List Sort → Sort → List Sort
with_sort scope sort = scope ++ sort ∷ []

-- the scope in which these arguments are bound
abbrev pub with_sorts : List Sort → List ClosedArg → List Sort
with_sorts scope args = scope ++ map (sort_of scope) args

abbrev pub IsClosed : List Sort → PlainClosed → Type 0
IsClosed scope (closed_not p) = IsClosed scope p
IsClosed scope (closed_and p q) = IsClosed scope p × IsClosed scope q
IsClosed scope (closed_or p q) = IsClosed scope p × IsClosed scope q
IsClosed scope (closed_implies p q) = IsClosed scope p × IsClosed scope q
IsClosed scope (closed_forall sort p) = (length scope < MAX_VARIABLES) × IsClosed (with_sort scope sort) p
IsClosed scope (closed_exists sort p) = (length scope < MAX_VARIABLES) × IsClosed (with_sort scope sort) p
IsClosed scope (closed_static pred args) = FitArgs scope (takes_of pred) args
IsClosed scope (closed_nodes ts) = FitNodes scope ts
IsClosed scope (closed_edges ts) = FitEdges scope ts
IsClosed scope (closed_bind args p) =
    HaveValues scope args × (length scope + length args ≤ MAX_VARIABLES) × IsClosed (with_sorts scope args) p
