-- What closing makes of a formula without name faults keeps what closed formulas keep.
use Rattle.std.proofs.Common.{◌≡◌, ℕ, ◌+◌, ◌<◌, ◌≤◌, Bool, true, false, List, [], ◌∷◌, ◌++◌, Option, Some, None, length, map, cond, option_map, refl, sym, ap, subst, ◌∙◌, unwrap_or, append_assoc, append-nil, arith, length-append, eqb-true, ltb-false, nat_lt}
use Rattle.std.{proofs.lemmas.{List.{length-map}, Option.{slice_get_within}}, specs.Option.{option_or}}
use Rattle.pc_common.specs.{declared.{place.Place.{Place}, fault.FaultKind.TheVariants.{PredicateUnknown, Unbound, StageUnknown}}, Names.{same_name}}
use Rattle.pc_common.proofs.Places.{slice_get-more}
use Rattle.pc_syntax.specs.declared.term.{Sort.{Sort, TheVariants.{Microop, Core}}, Word.{Word}, Arg.{Arg}}
use Rattle.pc_syntax.specs.declared.term.{Arg.TheVariants.{Word as word_arg, Number as number_arg}, NodeTerm.{NodeTerm}, EdgeTerm.{EdgeTerm}}
use Rattle.pc_syntax.specs.declared.{model.StageItem.{StageItem}, pred.{Pred.{Pred, TheVariants.{True}}, Takes.{Takes}}}
use Rattle.pc_syntax.specs.{declared.pred.Takes.TheVariants.{Op as takes_op, Core as takes_core, Plain as takes_plain}, Predicates.{pred_with_name, takes_of}}
use Rattle.pc_syntax.specs.Written.{Written, not_, and_, or_, implies_, forall_, exists_, static_, nodes_, edges_, expand_, bind_}
use Rattle.pc_syntax.specs.Stages.{stage_with_name, stage_number_of}
use Rattle.pc_syntax.specs.IsClosed.{IsBound, FitsArg, FitArgs, FitsCore, FitsNode, FitNodes, FitEdges, HasValue, HaveValues, sort_of, IsClosed}
use Rattle.pc_syntax.specs.{Scope.{Binding, Scope, binding_of, sort_of_arg, quantified_in, bindings_from, bound_in}, Fault.{Fault, first_fault}}
use Rattle.pc_syntax.specs.StageFaults.{number_fault, number_again, name_again, stage_fault, stages_fault}
use Rattle.pc_syntax.specs.NameFaults.{sort_fault, variable_fault, core_fault, argument_fault, arguments_fault, arity_fault, location_fault, stage_name_fault, node_fault, edge_fault, value_fault, scope_fault, binding_fault, name_fault}
use Rattle.pc_syntax.specs.Closing.{slot_of, closing_of_value, closing_of_bound, closing_of_arg, closing_of_args, closing_of_node, closing_of_edge, closing_of_static, closing_of}
use Rattle.pc_syntax.proofs.{NoFault.{none_first, none_second, none_where, none_unless}, Slots.{slice_get-end}, ClosingTruth.{sorts_equal, bound_length}}

-- each stage's number is below 64
abbrev pub StagesBelow : List StageItem → Type 0
StagesBelow stages = (name : List ℕ) (n : ℕ) → stage_number_of stages name ≡ Some n → n < 64

one_stage : (b : Bool) (s : StageItem) (n : ℕ) (rest : Option StageItem) → s.number < 64
    → (option_map (λ (x : StageItem). x.number) rest ≡ Some n → n < 64)
    → option_map (λ (x : StageItem). x.number) (cond b (Some s) rest) ≡ Some n → n < 64
one_stage true s n rest below later e = let same : s.number ≡ n = cc in omega (arith, same, below)
one_stage false s n rest below later e = later e

stages_below : (earlier stages : List StageItem) → stages_fault earlier stages ≡ None → StagesBelow stages
stages_below earlier [] f name n e = cc
stages_below earlier (s ∷ ss) f name n e =
    let rest = stages_fault (earlier ++ s ∷ []) ss in
    let here = none_first (stage_fault earlier s) rest f in
    let number = none_first (number_fault s) (option_or (number_again earlier s) (name_again earlier s)) here in
    let most = ltb-false 63 s.number (none_where (nat_lt 63 s.number) _ number) in
    one_stage (same_name s.name.name name) s n (stage_with_name ss name) (omega (arith, most))
    (stages_below (earlier ++ s ∷ []) ss (none_second (stage_fault earlier s) rest f) name n) e

-- a model without stage faults has stage numbers below 64
pub no_stage_fault-below : (stages : List StageItem) → stages_fault [] stages ≡ None → StagesBelow stages
no_stage_fault-below stages f = stages_below [] stages f

-- each binding's slot has its sort
abbrev pub SortsFit : List Sort → Scope → Type 0
SortsFit sorts [] = Unit {0}
SortsFit sorts (b ∷ bs) = IsBound sorts b.slot b.sort × SortsFit sorts bs

abbrev BoundAt : List Sort → Option Binding → Type 0
BoundAt sorts None = Unit {0}
BoundAt sorts (Some b) = IsBound sorts b.slot b.sort

first_bound : (sorts : List Sort) (t : Bool) (b : Binding) (o : Option Binding)
    → IsBound sorts b.slot b.sort → BoundAt sorts o → BoundAt sorts (cond t (Some b) o)
first_bound sorts true b o h rest = h
first_bound sorts false b o h rest = rest

bound_at : (sorts : List Sort) (scope : Scope) → SortsFit sorts scope → (name : List ℕ) → BoundAt sorts (binding_of scope name)
bound_at sorts [] h name = tt
bound_at sorts (b ∷ bs) h name =
    first_bound sorts (same_name b.name name) b (binding_of bs name) h.0 (bound_at sorts bs h.1 name)

SortsFit-more : (sorts more : List Sort) (scope : Scope) → SortsFit sorts scope → SortsFit (sorts ++ more) scope
SortsFit-more sorts more [] h = tt
SortsFit-more sorts more (b ∷ bs) h =
    (slice_get-more sorts more b.slot b.sort h.0, SortsFit-more sorts more bs h.1)

variable_bound : (sorts : List Sort) (ob : Option Binding) → BoundAt sorts ob → (wanted : Sort) (w : Word)
    → ◌≡◌ {A = Option Fault} (elim ob [ None ↦ Some (Unbound, w.at) | Some b ↦ sort_fault w.at wanted b.sort ]) None
    → IsBound sorts (elim ob [ None ↦ 0 | Some b ↦ b.slot ]) wanted
variable_bound sorts None h wanted w f = cc
variable_bound sorts (Some b) h wanted w f = h ∙ ap Some (sym (sorts_equal w.at wanted b.sort f))

name_bound : (sorts : List Sort) (ob : Option Binding) → BoundAt sorts ob → (w : Word)
    → ◌≡◌ {A = Option Fault} (elim ob [ None ↦ Some (Unbound, w.at) | Some b ↦ None ]) None
    → IsBound sorts (elim ob [ None ↦ 0 | Some b ↦ b.slot ]) (elim ob [ None ↦ Core | Some b ↦ b.sort ])
name_bound sorts None h w f = cc
name_bound sorts (Some b) h w f = h

core_below : (n : ℕ) (at : Place) → core_fault n at ≡ None → n < 64
core_below n at f = omega (arith, ltb-false 63 n (none_where (nat_lt 63 n) _ f))

within_limit : (at : Place) (scope : Scope) → scope_fault at scope ≡ None → length scope ≤ 32
within_limit at scope f = ltb-false 32 (length scope) (none_where (nat_lt 32 (length scope)) _ f)

module _ (sorts : List Sort) (scope : Scope) (fits : SortsFit sorts scope) where
  variable_closed : (wanted : Sort) (w : Word) → variable_fault scope wanted w ≡ None → IsBound sorts (slot_of scope w) wanted
  variable_closed wanted w f =
      variable_bound sorts (binding_of scope w.name) (bound_at sorts scope fits w.name) wanted w f

  arg_closed : (t : Takes) (a : Arg) → argument_fault scope t a ≡ None → FitsArg sorts t (closing_of_arg scope t a)
  arg_closed takes_op (word_arg w) f = variable_closed Microop w f
  arg_closed takes_op (number_arg n at) f = cc
  arg_closed takes_core (word_arg w) f = variable_closed Core w f
  arg_closed takes_core (number_arg n at) f = core_below n at f
  arg_closed takes_plain (word_arg w) f = tt
  arg_closed takes_plain (number_arg n at) f = cc

  args_closed : (ts : List Takes) (args : List Arg) → length args ≡ length ts → arguments_fault scope ts args ≡ None
      → FitArgs sorts ts (closing_of_args scope ts args)
  args_closed [] [] same f = tt
  args_closed [] (a ∷ as_) same f = absurd (omega arith)
  args_closed (t ∷ ts) [] same f = absurd (omega arith)
  args_closed (t ∷ ts) (a ∷ as_) same f = (
    arg_closed t a (none_first (argument_fault scope t a) (arguments_fault scope ts as_) f),
    args_closed ts as_ (omega arith) (none_second (argument_fault scope t a) (arguments_fault scope ts as_) f),
  )

  static_closed : (pred : Word) (args : List Arg) (o : Option Pred)
      → ◌≡◌ {A = Option Fault}
      (elim o [
        | None ↦ Some (PredicateUnknown, pred.at)
        | Some p ↦ option_or (arity_fault pred args (takes_of p)) (arguments_fault scope (takes_of p) args)
      ])
      None
      → IsClosed sorts (closing_of_static scope (unwrap_or o True) args)
  static_closed pred args None f = cc
  static_closed pred args (Some p) f =
      let arity = none_first (arity_fault pred args (takes_of p)) (arguments_fault scope (takes_of p) args) f in
      let same = eqb-true (length args) (length (takes_of p)) (none_unless _ _ arity) in
      args_closed (takes_of p) args same
      (none_second (arity_fault pred args (takes_of p)) (arguments_fault scope (takes_of p) args) f)

  location_closed : (core : Option Arg) → location_fault scope core ≡ None
      → FitsCore sorts (option_map (closing_of_value scope) core)
  location_closed None f = tt
  location_closed (Some (word_arg w)) f = variable_closed Core w f
  location_closed (Some (number_arg n at)) f = core_below n at f

  stage_closed : (found : Option ℕ) (w : Word) → ((n : ℕ) → found ≡ Some n → n < 64)
      → ◌≡◌ {A = Option Fault} (elim found [ None ↦ Some (StageUnknown, w.at) | Some n ↦ None ]) None
      → unwrap_or found 0 < 64
  stage_closed None w below f = cc
  stage_closed (Some n) w below f = below n refl

  node_closed : (stages : List StageItem) → StagesBelow stages → (t : NodeTerm) → node_fault stages scope t ≡ None
      → FitsNode sorts (closing_of_node stages scope t)
  node_closed stages below t f =
      let op = variable_fault scope Microop t.op in
      let core = location_fault scope t.core in
      let stage = stage_name_fault stages t.stage in
      let rest = none_second op (option_or core stage) f in (
        variable_closed Microop t.op (none_first op (option_or core stage) f),
        location_closed t.core (none_first core stage rest),
        stage_closed (stage_number_of stages t.stage.name) t.stage (below t.stage.name) (none_second core stage rest),
      )

  nodes_closed : (stages : List StageItem) → StagesBelow stages → (ts : List NodeTerm)
      → first_fault (node_fault stages scope) ts ≡ None → FitNodes sorts (map (closing_of_node stages scope) ts)
  nodes_closed stages below [] f = tt
  nodes_closed stages below (t ∷ ts) f =
      let here = node_fault stages scope t in
      let rest = first_fault (node_fault stages scope) ts in
      (node_closed stages below t (none_first here rest f), nodes_closed stages below ts (none_second here rest f))

  edges_closed : (stages : List StageItem) → StagesBelow stages → (ts : List EdgeTerm)
      → first_fault (edge_fault stages scope) ts ≡ None → FitEdges sorts (map (closing_of_edge stages scope) ts)
  edges_closed stages below [] f = tt
  edges_closed stages below (t ∷ ts) f =
      let from = node_fault stages scope t.from in
      let to = node_fault stages scope t.to in
      let rest = first_fault (edge_fault stages scope) ts in
      let here = none_first (edge_fault stages scope t) rest f in (
        node_closed stages below t.from (none_first from to here),
        node_closed stages below t.to (none_second from to here),
        edges_closed stages below ts (none_second (edge_fault stages scope t) rest f),
      )

  value_closed : (a : Arg) → value_fault scope a ≡ None
      → HasValue sorts (closing_of_value scope a) × (sort_of sorts (closing_of_value scope a) ≡ sort_of_arg scope a)
  value_closed (word_arg w) f =
      let h = name_bound sorts (binding_of scope w.name) (bound_at sorts scope fits w.name) w f in
      (slice_get_within sorts (slot_of scope w) _ h, ap (λ o. unwrap_or o Core) h)
  value_closed (number_arg n at) f = (core_below n at f, refl)

  values_closed : (names : List (List ℕ)) (args : List Arg) → first_fault (value_fault scope) args ≡ None
      → HaveValues sorts (closing_of_bound scope names args)
  values_closed [] args f = tt
  values_closed (n ∷ ns) [] f = tt
  values_closed (n ∷ ns) (a ∷ as_) f =
      let rest = first_fault (value_fault scope) as_ in (
        (value_closed a (none_first (value_fault scope a) rest f)).0,
        values_closed ns as_ (none_second (value_fault scope a) rest f),
      )

  -- the names of a binding, with slots from this one on
  bound_sorts : (names : List (List ℕ)) (args : List Arg) (held : List Sort) (k : ℕ)
      → length held ≡ k → first_fault (value_fault scope) args ≡ None → SortsFit held scope
      → SortsFit (held ++ map (sort_of sorts) (closing_of_bound scope names args)) (bindings_from scope k names args ++ scope)
  bound_sorts [] args held k same f h = subst (λ (xs : List Sort). SortsFit xs scope) (sym (append-nil held)) h
  bound_sorts (n ∷ ns) [] held k same f h = subst (λ (xs : List Sort). SortsFit xs scope) (sym (append-nil held)) h
  bound_sorts (n ∷ ns) (a ∷ as_) held k same f h =
      let others = first_fault (value_fault scope) as_ in
      let s = sort_of sorts (closing_of_value scope a) in
      let more = map (sort_of sorts) (closing_of_bound scope ns as_) in
      let is_sort : s ≡ sort_of_arg scope a = (value_closed a (none_first (value_fault scope a) others f)).1 in
      let next : length (held ++ s ∷ []) ≡ k + 1 = omega (arith, length-append held (s ∷ [])) in
      let rest =
      bound_sorts ns as_ (held ++ s ∷ []) (k + 1) next (none_second (value_fault scope a) others f)
      (SortsFit-more held (s ∷ []) scope h) in (
        slice_get-end held s more k same ∙ ap Some is_sort,
        subst
            (λ (xs : List Sort). SortsFit xs (bindings_from scope (k + 1) ns as_ ++ scope))
            (append_assoc held (s ∷ []) more) rest,
      )

-- as many slots as bindings
bound_sorts-length : (sorts : List Sort) (scope : Scope) (names : List (List ℕ)) (args : List Arg) → length sorts ≡ length scope
    → length (sorts ++ map (sort_of sorts) (closing_of_bound scope names args)) ≡ length (bound_in scope names args)
bound_sorts-length sorts scope names args same =
    let more = map (sort_of sorts) (closing_of_bound scope names args) in
    omega (
      arith,
      length-append sorts more,
      length-map (closing_of_bound scope names args) (sort_of sorts),
      bound_length scope names args (length scope),
      length-append (bindings_from scope (length scope) names args) scope,
      same,
    )

bound_limit : (sorts : List Sort) (scope : Scope) (names : List (List ℕ)) (args : List Arg) → length sorts ≡ length scope
    → length (bound_in scope names args) ≤ 32 → length sorts + length (closing_of_bound scope names args) ≤ 32
bound_limit sorts scope names args same limit =
    omega (
      arith,
      bound_length scope names args (length scope),
      length-append (bindings_from scope (length scope) names args) scope,
      same,
      limit,
    )

static_shape : (sorts : List Sort) (scope : Scope) → SortsFit sorts scope → (stages : List StageItem) (pred : Word) (args : List Arg)
    → name_fault stages [] scope (static_ pred args) ≡ None → IsClosed sorts (closing_of stages scope (static_ pred args))
static_shape sorts scope fits stages pred args f =
    static_closed sorts scope fits pred args (pred_with_name pred.name) f

-- closing a formula without name faults gives a closed formula
pub closing_closed : (stages : List StageItem) → StagesBelow stages → (sorts : List Sort) (scope : Scope)
    → length sorts ≡ length scope → SortsFit sorts scope
    → (e : Written) → name_fault stages [] scope e ≡ None → IsClosed sorts (closing_of stages scope e)
closing_closed stages below sorts scope same fits (not_ p) f = closing_closed stages below sorts scope same fits p f
closing_closed stages below sorts scope same fits (and_ p q) f =
    let a = name_fault stages [] scope p in
    let b = name_fault stages [] scope q in (
      closing_closed stages below sorts scope same fits p (none_first a b f),
      closing_closed stages below sorts scope same fits q (none_second a b f),
    )
closing_closed stages below sorts scope same fits (or_ p q) f =
    let a = name_fault stages [] scope p in
    let b = name_fault stages [] scope q in (
      closing_closed stages below sorts scope same fits p (none_first a b f),
      closing_closed stages below sorts scope same fits q (none_second a b f),
    )
closing_closed stages below sorts scope same fits (implies_ p q) f =
    let a = name_fault stages [] scope p in
    let b = name_fault stages [] scope q in (
      closing_closed stages below sorts scope same fits p (none_first a b f),
      closing_closed stages below sorts scope same fits q (none_second a b f),
    )
closing_closed stages below sorts scope same fits (forall_ at sort name p) f =
    let inside = quantified_in scope name sort in
    let limit = within_limit at inside (none_first (scope_fault at inside) (name_fault stages [] inside p) f) in (
      omega (arith, limit, same),
      closing_closed stages below (sorts ++ sort ∷ []) inside (omega (arith, length-append sorts (sort ∷ []), same))
          (slice_get-end sorts sort [] (length scope) same, SortsFit-more sorts (sort ∷ []) scope fits) p
          (none_second (scope_fault at inside) (name_fault stages [] inside p) f),
    )
closing_closed stages below sorts scope same fits (exists_ at sort name p) f =
    let inside = quantified_in scope name sort in
    let limit = within_limit at inside (none_first (scope_fault at inside) (name_fault stages [] inside p) f) in (
      omega (arith, limit, same),
      closing_closed stages below (sorts ++ sort ∷ []) inside (omega (arith, length-append sorts (sort ∷ []), same))
          (slice_get-end sorts sort [] (length scope) same, SortsFit-more sorts (sort ∷ []) scope fits) p
          (none_second (scope_fault at inside) (name_fault stages [] inside p) f),
    )
closing_closed stages below sorts scope same fits (static_ pred args) f = static_shape sorts scope fits stages pred args f
closing_closed stages below sorts scope same fits (nodes_ ts) f = nodes_closed sorts scope fits stages below ts f
closing_closed stages below sorts scope same fits (edges_ ts) f = edges_closed sorts scope fits stages below ts f
closing_closed stages below sorts scope same fits (expand_ at name args) f = tt
closing_closed stages below sorts scope same fits (bind_ at names args p) f =
    let inside = bound_in scope names args in
    let body = name_fault stages [] inside p in
    let binding = none_first (binding_fault scope at names args) body f in
    let values = none_first (first_fault (value_fault scope) args) (scope_fault at inside) binding in
    let limit = within_limit at inside (none_second (first_fault (value_fault scope) args) (scope_fault at inside) binding) in (
      values_closed sorts scope fits names args values,
      bound_limit sorts scope names args same limit,
      closing_closed stages below (sorts ++ map (sort_of sorts) (closing_of_bound scope names args)) inside
          (bound_sorts-length sorts scope names args same)
          (bound_sorts sorts scope fits names args sorts (length scope) same values fits)
          p (none_second (binding_fault scope at names args) body f),
    )

-- a closed axiom keeps what the type of closed axioms keeps
pub closed_axiom_closed : (stages : List StageItem) → stages_fault [] stages ≡ None → (e : Written)
    → name_fault stages [] [] e ≡ None → IsClosed [] (closing_of stages [] e)
closed_axiom_closed stages no_fault e f = closing_closed stages (no_stage_fault-below stages no_fault) [] [] refl tt e f
