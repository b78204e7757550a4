-- What the types of formulas promise has one proof: that a formula is expanded, closed and names stages of a model.
use Rattle.std.specs.{Prelude.{ℕ, List, [], ◌∷◌, Option, Some, None, slice_get, true, ◌==◌}, Coded.{Coded-set, coded_option, le_prop, coded_bool}}
use Rattle.std.specs.List.{list_any}
use Rattle.pc_syntax.specs.{Written.{Written, not_, and_, or_, implies_, forall_, exists_, static_, nodes_, edges_, expand_, bind_}, Expansion.{IsExpanded}}
use Rattle.pc_syntax.specs.declared.{term.Sort.{Sort, TheVariants.{Microop, Core}}, closed_term.ClosedArg.{ClosedArg}}
use Rattle.pc_syntax.specs.declared.closed_term.{ClosedArg.TheVariants.{Slot, Core as core_arg, Plain}, ClosedNode.{ClosedNode}, ClosedEdge.{ClosedEdge}}
use Rattle.pc_syntax.specs.{declared.pred.Takes.{Takes, TheVariants.{Op as takes_op, Core as takes_core, Plain as takes_plain}}, Predicates.{takes_of}}
use Rattle.pc_syntax.specs.Closed.{PlainClosed, closed_not, closed_and, closed_or, closed_implies, closed_forall, closed_exists, closed_static, closed_nodes, closed_edges, closed_bind}
use Rattle.pc_syntax.specs.IsClosed.{IsBound, FitsArg, FitArgs, FitsCore, FitsNode, FitNodes, FitEdges, HaveValues, with_sort, with_sorts, IsClosed}
use Rattle.pc_syntax.specs.StagesWithin.{IsAmong, NodesWithin, EdgesWithin, StagesWithin}
use Rattle.pc_syntax.specs.contracts.term.Sort as sort_row

pub IsExpanded-prop : (w : Written) → IsProp (IsExpanded w)
IsExpanded-prop (not_ p) = IsExpanded-prop p
IsExpanded-prop (and_ p q) = hlevel (IsExpanded-prop p, IsExpanded-prop q)
IsExpanded-prop (or_ p q) = hlevel (IsExpanded-prop p, IsExpanded-prop q)
IsExpanded-prop (implies_ p q) = hlevel (IsExpanded-prop p, IsExpanded-prop q)
IsExpanded-prop (forall_ at sort name p) = IsExpanded-prop p
IsExpanded-prop (exists_ at sort name p) = IsExpanded-prop p
IsExpanded-prop (static_ pred args) = hlevel
IsExpanded-prop (nodes_ ts) = hlevel
IsExpanded-prop (edges_ ts) = hlevel
IsExpanded-prop (expand_ at name args) = hlevel
IsExpanded-prop (bind_ at names args p) = IsExpanded-prop p

pub IsBound-prop : (scope : List Sort) (k : ℕ) (sort : Sort) → IsProp (IsBound scope k sort)
IsBound-prop scope k sort = Coded-set (coded_option sort_row.the_row.coded) (slice_get scope k) (Some sort)

pub FitsArg-prop : (scope : List Sort) (t : Takes) (a : ClosedArg) → IsProp (FitsArg scope t a)
FitsArg-prop scope takes_op (Slot k) = IsBound-prop scope k Microop
FitsArg-prop scope takes_op (core_arg n) = hlevel
FitsArg-prop scope takes_op (Plain name) = hlevel
FitsArg-prop scope takes_core (Slot k) = IsBound-prop scope k Core
FitsArg-prop scope takes_core (core_arg n) = le_prop
FitsArg-prop scope takes_core (Plain name) = hlevel
FitsArg-prop scope takes_plain (Slot k) = hlevel
FitsArg-prop scope takes_plain (core_arg n) = hlevel
FitsArg-prop scope takes_plain (Plain name) = hlevel

pub FitArgs-prop : (scope : List Sort) (ts : List Takes) (args : List ClosedArg) → IsProp (FitArgs scope ts args)
FitArgs-prop scope [] [] = hlevel
FitArgs-prop scope [] (a ∷ as_) = hlevel
FitArgs-prop scope (t ∷ ts) [] = hlevel
FitArgs-prop scope (t ∷ ts) (a ∷ as_) = hlevel (FitsArg-prop scope t a, FitArgs-prop scope ts as_)

pub FitsCore-prop : (scope : List Sort) (core : Option ClosedArg) → IsProp (FitsCore scope core)
FitsCore-prop scope None = hlevel
FitsCore-prop scope (Some a) = FitsArg-prop scope takes_core a

pub FitsNode-prop : (scope : List Sort) (t : ClosedNode) → IsProp (FitsNode scope t)
FitsNode-prop scope t = hlevel (IsBound-prop scope t.op Microop, FitsCore-prop scope t.core, le_prop)

pub FitNodes-prop : (scope : List Sort) (ts : List ClosedNode) → IsProp (FitNodes scope ts)
FitNodes-prop scope [] = hlevel
FitNodes-prop scope (t ∷ ts) = hlevel (FitsNode-prop scope t, FitNodes-prop scope ts)

pub FitEdges-prop : (scope : List Sort) (ts : List ClosedEdge) → IsProp (FitEdges scope ts)
FitEdges-prop scope [] = hlevel
FitEdges-prop scope (t ∷ ts) =
    hlevel (FitsNode-prop scope t.from, FitsNode-prop scope t.to, FitEdges-prop scope ts)

pub HaveValues-prop : (scope : List Sort) (args : List ClosedArg) → IsProp (HaveValues scope args)
HaveValues-prop scope [] = hlevel
HaveValues-prop scope (Slot k ∷ as_) = hlevel (le_prop, HaveValues-prop scope as_)
HaveValues-prop scope (core_arg n ∷ as_) = hlevel (le_prop, HaveValues-prop scope as_)
HaveValues-prop scope (Plain name ∷ as_) = hlevel (HaveValues-prop scope as_)

pub IsClosed-prop : (scope : List Sort) (p : PlainClosed) → IsProp (IsClosed scope p)
IsClosed-prop scope (closed_not p) = IsClosed-prop scope p
IsClosed-prop scope (closed_and p q) = hlevel (IsClosed-prop scope p, IsClosed-prop scope q)
IsClosed-prop scope (closed_or p q) = hlevel (IsClosed-prop scope p, IsClosed-prop scope q)
IsClosed-prop scope (closed_implies p q) = hlevel (IsClosed-prop scope p, IsClosed-prop scope q)
IsClosed-prop scope (closed_forall sort p) = hlevel (le_prop, IsClosed-prop (with_sort scope sort) p)
IsClosed-prop scope (closed_exists sort p) = hlevel (le_prop, IsClosed-prop (with_sort scope sort) p)
IsClosed-prop scope (closed_static pred args) = FitArgs-prop scope (takes_of pred) args
IsClosed-prop scope (closed_nodes ts) = FitNodes-prop scope ts
IsClosed-prop scope (closed_edges ts) = FitEdges-prop scope ts
IsClosed-prop scope (closed_bind args p) =
    hlevel (HaveValues-prop scope args, le_prop, IsClosed-prop (with_sorts scope args) p)

pub IsAmong-prop : (numbers : List ℕ) (k : ℕ) → IsProp (IsAmong numbers k)
IsAmong-prop numbers k = Coded-set coded_bool (list_any (λ n. n == k) numbers) true

pub NodesWithin-prop : (numbers : List ℕ) (ts : List ClosedNode) → IsProp (NodesWithin numbers ts)
NodesWithin-prop numbers [] = hlevel
NodesWithin-prop numbers (t ∷ ts) = hlevel (IsAmong-prop numbers t.stage, NodesWithin-prop numbers ts)

pub EdgesWithin-prop : (numbers : List ℕ) (ts : List ClosedEdge) → IsProp (EdgesWithin numbers ts)
EdgesWithin-prop numbers [] = hlevel
EdgesWithin-prop numbers (t ∷ ts) =
    hlevel (IsAmong-prop numbers t.from.stage, IsAmong-prop numbers t.to.stage, EdgesWithin-prop numbers ts)

pub StagesWithin-prop : (numbers : List ℕ) (p : PlainClosed) → IsProp (StagesWithin numbers p)
StagesWithin-prop numbers (closed_not p) = StagesWithin-prop numbers p
StagesWithin-prop numbers (closed_and p q) = hlevel (StagesWithin-prop numbers p, StagesWithin-prop numbers q)
StagesWithin-prop numbers (closed_or p q) = hlevel (StagesWithin-prop numbers p, StagesWithin-prop numbers q)
StagesWithin-prop numbers (closed_implies p q) = hlevel (StagesWithin-prop numbers p, StagesWithin-prop numbers q)
StagesWithin-prop numbers (closed_forall sort p) = StagesWithin-prop numbers p
StagesWithin-prop numbers (closed_exists sort p) = StagesWithin-prop numbers p
StagesWithin-prop numbers (closed_static pred args) = hlevel
StagesWithin-prop numbers (closed_nodes ts) = NodesWithin-prop numbers ts
StagesWithin-prop numbers (closed_edges ts) = EdgesWithin-prop numbers ts
StagesWithin-prop numbers (closed_bind args p) = StagesWithin-prop numbers p
