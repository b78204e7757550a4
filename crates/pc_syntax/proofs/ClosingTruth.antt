-- Closing keeps the truth of a formula that has no name fault.
use Rattle.std.proofs.Common.{◌≡◌, ℕ, suc, ◌+◌, Bool, false, not, ◌&&◌, ◌||◌, List, [], ◌∷◌, ◌++◌, Option, Some, None, length, map, option_map, refl, sym, ap, subst, ◌∙◌, slice_get, unwrap_or, append_assoc, append-nil, arith, length-append, eqb-true}
use Rattle.std.{proofs.lemmas.List.{length-map}, specs.{List.{list_any, list_all}, Option.{option_or}}}
use Rattle.pc_common.specs.{Case.{MicroOp, Case, cores_of}, World.{Node, World}, declared.place.Place.{Place}}
use Rattle.pc_common.specs.declared.fault.FaultKind.TheVariants.{PredicateUnknown, Unbound, StageUnknown}
use Rattle.pc_syntax.specs.declared.term.{Sort.{Sort, TheVariants.{Microop, Core}}, Word.{Word}, Arg.{Arg}}
use Rattle.pc_syntax.specs.declared.term.{Arg.TheVariants.{Word as word_arg, Number as number_arg}, NodeTerm.{NodeTerm}, EdgeTerm.{EdgeTerm}}
use Rattle.pc_syntax.specs.declared.{model.StageItem.{StageItem}, pred.{Pred.{Pred, TheVariants.{True}}, Takes.{Takes}}}
use Rattle.pc_syntax.specs.{declared.pred.Takes.TheVariants.{Op as takes_op, Core as takes_core, Plain as takes_plain}, Stages.{stage_number_of}}
use Rattle.pc_syntax.specs.{Arguments.{Argument, op_at, core_at}, Predicates.{pred_with_name, takes_of, predicate_holds}}
use Rattle.pc_syntax.specs.Written.{Written, not_, and_, or_, implies_, forall_, exists_, static_, nodes_, edges_, expand_, bind_}
use Rattle.pc_syntax.specs.Truth.{Meaning, an_op, a_core, Environment, Setting, value_of, value_of_arg, bound_to, op_of, core_of, location_core, node_at, core_there, node_of, node_holds, edge_holds, argument_of, put_first, arguments_of, pred_holds, static_holds, below, range_of, is_true}
use Rattle.pc_syntax.specs.Closed.{value_at, closed_value, argument_at, closed_argument, closed_core, core_at_op, closed_node, closed_true}
use Rattle.pc_syntax.specs.{Scope.{Binding, Scope, binding_of, sort_of_arg, quantified_in, bindings_from, bound_in}, Fault.{Fault, first_fault}}
use Rattle.pc_syntax.specs.NameFaults.{sort_fault, variable_fault, argument_fault, arguments_fault, arity_fault, location_fault, stage_name_fault, node_fault, edge_fault, value_fault, scope_fault, binding_fault, name_fault}
use Rattle.pc_syntax.specs.Closing.{slot_of, closing_of_value, closing_of_bound, closing_of_arg, closing_of_args, closing_of_node, closing_of_edge, closing_of_static, closing_of}
use Rattle.pc_syntax.{specs.Fits.{sort_of_meaning, Fits}, proofs.NoFault.{none_first, none_second, none_unless}}
use Rattle.pc_syntax.proofs.Slots.{SameFound, found, slice_get-end, Fits-more, Fits-quantified}

-- a name has a value, which is that of the slot, of the sort
pub record Valued (slots : List Meaning) (o : Option Meaning) (k : ℕ) (sort : Sort) : Type 0 where
  pub value : Meaning
  pub is_value : o ≡ Some value
  pub in_slot : value_at slots k ≡ value
  pub of_sort : sort_of_meaning value ≡ sort

valued : (slots : List Meaning) (o : Option Meaning) (b : Binding) → SameFound slots o (Some b) → Valued slots o b.slot b.sort
valued slots None b h = elim h [ ]
valued slots (Some v) b h =
    record { value = v; is_value = refl; in_slot = ap (λ m. unwrap_or m (a_core 0)) h.0; of_sort = h.1 }

pub sorts_equal : (at : Place) (wanted found : Sort) → sort_fault at wanted found ≡ None → wanted ≡ found
sorts_equal at Microop Microop h = refl
sorts_equal at Microop Core h = cc
sorts_equal at Core Microop h = cc
sorts_equal at Core Core h = refl

variable_valued : (slots : List Meaning) (o : Option Meaning) (ob : Option Binding) → SameFound slots o ob → (wanted : Sort) (w : Word)
    → ◌≡◌ {A = Option Fault} (elim ob [ None ↦ Some (Unbound, w.at) | Some b ↦ sort_fault w.at wanted b.sort ]) None
    → Valued slots o (elim ob [ None ↦ 0 | Some b ↦ b.slot ]) wanted
variable_valued slots o None h wanted w f = cc
variable_valued slots o (Some b) h wanted w f =
    let v = valued slots o b h in
    record { value = v.value; is_value = v.is_value; in_slot = v.in_slot; of_sort = v.of_sort ∙ sym (sorts_equal w.at wanted b.sort f) }

name_valued : (slots : List Meaning) (o : Option Meaning) (ob : Option Binding) → SameFound slots o ob → (w : Word)
    → ◌≡◌ {A = Option Fault} (elim ob [ None ↦ Some (Unbound, w.at) | Some b ↦ None ]) None
    → Valued slots o (elim ob [ None ↦ 0 | Some b ↦ b.slot ]) (elim ob [ None ↦ Core | Some b ↦ b.sort ])
name_valued slots o None h w f = cc
name_valued slots o (Some b) h w f = valued slots o b h

-- an argument where an op or a core is taken
as_op : Option Meaning → Option Argument
as_op o = elim (op_of o) [ None ↦ None | Some i ↦ Some (op_at i) ]

as_core : Option Meaning → Option Argument
as_core o = elim (core_of o) [ None ↦ None | Some k ↦ Some (core_at k) ]

op_argument : (v : Meaning) → sort_of_meaning v ≡ Microop → as_op (Some v) ≡ Some (argument_at v)
unfolding as_op
op_argument (an_op i) h = refl
op_argument (a_core k) h = cc

core_argument : (v : Meaning) → sort_of_meaning v ≡ Core → as_core (Some v) ≡ Some (argument_at v)
unfolding as_core
core_argument (an_op i) h = cc
core_argument (a_core k) h = refl

module _ (slots : List Meaning) (env : Environment) (scope : Scope) (fits : Fits slots env scope) where
  pub variable_value : (wanted : Sort) (w : Word) → variable_fault scope wanted w ≡ None
      → Valued slots (value_of env w.name) (slot_of scope w) wanted
  variable_value wanted w f =
      variable_valued slots (value_of env w.name) (binding_of scope w.name) (found slots env scope fits w.name) wanted w f

  pub argument_law : (t : Takes) (a : Arg) → argument_fault scope t a ≡ None
      → argument_of env t a ≡ Some (closed_argument slots (closing_of_arg scope t a))
  unfolding as_op as_core
  argument_law takes_op (word_arg w) f =
      let v = variable_value Microop w f in
      ap as_op v.is_value ∙ op_argument v.value v.of_sort ∙ ap (λ m. Some (argument_at m)) (sym v.in_slot)
  argument_law takes_op (number_arg n at) f = cc
  argument_law takes_core (word_arg w) f =
      let v = variable_value Core w f in
      ap as_core v.is_value ∙ core_argument v.value v.of_sort ∙ ap (λ m. Some (argument_at m)) (sym v.in_slot)
  argument_law takes_core (number_arg n at) f = refl
  argument_law takes_plain (word_arg w) f = refl
  argument_law takes_plain (number_arg n at) f = cc

  pub arguments_law : (ts : List Takes) (args : List Arg) → length args ≡ length ts → arguments_fault scope ts args ≡ None
      → arguments_of env ts args ≡ Some (map (closed_argument slots) (closing_of_args scope ts args))
  arguments_law [] [] same f = refl
  arguments_law [] (a ∷ as_) same f = absurd (omega arith)
  arguments_law (t ∷ ts) [] same f = absurd (omega arith)
  arguments_law (t ∷ ts) (a ∷ as_) same f =
      λ i. put_first
      (argument_law t a (none_first (argument_fault scope t a) (arguments_fault scope ts as_) f) i)
      (arguments_law ts as_ (omega arith) (none_second (argument_fault scope t a) (arguments_fault scope ts as_) f) i)

  -- a predicate of the table
  static_law : (c : Case) (w : World Node) (pred : Word) (args : List Arg) (o : Option Pred)
      → ◌≡◌ {A = Option Fault}
      (elim o [
        | None ↦ Some (PredicateUnknown, pred.at)
        | Some p ↦ option_or (arity_fault pred args (takes_of p)) (arguments_fault scope (takes_of p) args)
      ])
      None
      → pred_holds c env args o ≡ closed_true c w slots (closing_of_static scope (unwrap_or o True) args)
  static_law c w pred args None f = cc
  static_law c w pred args (Some p) f =
      let arity = none_first (arity_fault pred args (takes_of p)) (arguments_fault scope (takes_of p) args) f in
      let same = eqb-true (length args) (length (takes_of p)) (none_unless _ _ arity) in
      let rest = none_second (arity_fault pred args (takes_of p)) (arguments_fault scope (takes_of p) args) f in
      ap (λ (as_ : Option (List Argument)). elim as_ [ None ↦ false | Some xs ↦ predicate_holds c p xs ])
      (arguments_law (takes_of p) args same rest)

  -- the core of a location
  location_law : (o : MicroOp) (core : Option Arg) → location_fault scope core ≡ None
      → location_core env o core ≡ closed_core slots o (option_map (closing_of_value scope) core)
  location_law o None f = refl
  location_law o (Some (word_arg w)) f =
      let v = variable_value Core w f in ap core_of (v.is_value ∙ ap Some (sym v.in_slot))
  location_law o (Some (number_arg n at)) f = refl

  core_law : (c : Case) (op : Option ℕ) (core : Option Arg) → location_fault scope core ≡ None
      → core_there c env op core ≡ core_at_op c slots op (option_map (closing_of_value scope) core)
  core_law c None core f = refl
  core_law c (Some i) core f = own_law (slice_get c.ops i)
    where
      own_law : (found : Option MicroOp)
          → ◌≡◌ {A = Option ℕ}
          (elim found [ None ↦ None | Some o ↦ location_core env o core ])
          (elim found [ None ↦ None | Some o ↦ closed_core slots o (option_map (closing_of_value scope) core) ])
      own_law None = refl
      own_law (Some o) = location_law o core f

  stage_law : (found : Option ℕ) (w : Word)
      → ◌≡◌ {A = Option Fault} (elim found [ None ↦ Some (StageUnknown, w.at) | Some n ↦ None ]) None
      → found ≡ Some (unwrap_or found 0)
  stage_law None w f = cc
  stage_law (Some n) w f = refl

  pub node_law : (stages : List StageItem) (c : Case) (t : NodeTerm) → node_fault stages scope t ≡ None
      → node_of stages c env t ≡ closed_node c slots (closing_of_node stages scope t)
  node_law stages c t f =
      let rest = none_second (variable_fault scope Microop t.op) (option_or (location_fault scope t.core) (stage_name_fault stages t.stage)) f in
      let core = none_first (location_fault scope t.core) (stage_name_fault stages t.stage) rest in
      let stage = none_second (location_fault scope t.core) (stage_name_fault stages t.stage) rest in
      let v = variable_value Microop t.op
      (none_first (variable_fault scope Microop t.op) (option_or (location_fault scope t.core) (stage_name_fault stages t.stage)) f) in
      let op : op_of (value_of env t.op.name) ≡ op_of (Some (value_at slots (slot_of scope t.op))) =
      ap op_of (v.is_value ∙ ap Some (sym v.in_slot)) in
      (λ i. node_at (op i) (core_there c env (op i) t.core) (stage_number_of stages t.stage.name))
      ∙ (λ i. node_at
      (op_of (Some (value_at slots (slot_of scope t.op))))
      (core_law c (op_of (Some (value_at slots (slot_of scope t.op)))) t.core core i)
      (stage_law (stage_number_of stages t.stage.name) t.stage stage i))

  nodes_law : (stages : List StageItem) (c : Case) (w : World Node) (ts : List NodeTerm)
      → first_fault (node_fault stages scope) ts ≡ None
      → list_all (λ t. node_holds w (node_of stages c env t)) ts
      ≡ list_all (λ t. node_holds w (closed_node c slots t)) (map (closing_of_node stages scope) ts)
  nodes_law stages c w [] f = refl
  nodes_law stages c w (t ∷ ts) f =
      λ i. node_holds w (node_law stages c t (none_first (node_fault stages scope t) (first_fault (node_fault stages scope) ts) f) i)
      && nodes_law stages c w ts (none_second (node_fault stages scope t) (first_fault (node_fault stages scope) ts) f) i

  pub edge_law : (stages : List StageItem) (c : Case) (w : World Node) (t : EdgeTerm) → edge_fault stages scope t ≡ None
      → edge_holds w (node_of stages c env t.from) (node_of stages c env t.to)
      ≡ edge_holds w (closed_node c slots (closing_of_node stages scope t.from)) (closed_node c slots (closing_of_node stages scope t.to))
  edge_law stages c w t f =
      λ i. edge_holds w
      (node_law stages c t.from (none_first (node_fault stages scope t.from) (node_fault stages scope t.to) f) i)
      (node_law stages c t.to (none_second (node_fault stages scope t.from) (node_fault stages scope t.to) f) i)

  edges_law : (stages : List StageItem) (c : Case) (w : World Node) (ts : List EdgeTerm)
      → first_fault (edge_fault stages scope) ts ≡ None
      → list_all (λ t. edge_holds w (node_of stages c env t.from) (node_of stages c env t.to)) ts
      ≡ list_all (λ t. edge_holds w (closed_node c slots t.from) (closed_node c slots t.to)) (map (closing_of_edge stages scope) ts)
  edges_law stages c w [] f = refl
  edges_law stages c w (t ∷ ts) f =
      λ i. edge_law stages c w t (none_first (edge_fault stages scope t) (first_fault (edge_fault stages scope) ts) f) i
      && edges_law stages c w ts (none_second (edge_fault stages scope t) (first_fault (edge_fault stages scope) ts) f) i

  -- an argument of an expansion
  pub value_law : (a : Arg) → value_fault scope a ≡ None
      → (value_of_arg env a ≡ Some (closed_value slots (closing_of_value scope a)))
      × (sort_of_meaning (closed_value slots (closing_of_value scope a)) ≡ sort_of_arg scope a)
  value_law (word_arg w) f =
      let v = name_valued slots (value_of env w.name) (binding_of scope w.name) (found slots env scope fits w.name) w f in
      (v.is_value ∙ ap Some (sym v.in_slot), ap sort_of_meaning v.in_slot ∙ v.of_sort)
  value_law (number_arg n at) f = (refl, refl)

  -- the names of a binding, with slots from this one on
  pub bound_fits : (names : List (List ℕ)) (args : List Arg) (held : List Meaning) (k : ℕ)
      → length held ≡ k → first_fault (value_fault scope) args ≡ None → Fits held env scope
      → Fits (held ++ map (closed_value slots) (closing_of_bound scope names args))
      (bound_to env names args ++ env) (bindings_from scope k names args ++ scope)
  bound_fits [] args held k same f h = subst (λ (xs : List Meaning). Fits xs env scope) (sym (append-nil held)) h
  bound_fits (n ∷ ns) [] held k same f h = subst (λ (xs : List Meaning). Fits xs env scope) (sym (append-nil held)) h
  bound_fits (n ∷ ns) (a ∷ as_) held k same f h =
      let here = value_law a (none_first (value_fault scope a) (first_fault (value_fault scope) as_) f) in
      let v = closed_value slots (closing_of_value scope a) in
      let values = map (closed_value slots) (closing_of_bound scope ns as_) in
      let next : length (held ++ v ∷ []) ≡ k + 1 = omega (arith, length-append held (v ∷ [])) in
      let rest =
      bound_fits ns as_ (held ++ v ∷ []) (k + 1) next
      (none_second (value_fault scope a) (first_fault (value_fault scope) as_) f)
      (Fits-more held (v ∷ []) env scope h) in
      let moved : Fits (held ++ v ∷ values) (bound_to env ns as_ ++ env) (bindings_from scope (k + 1) ns as_ ++ scope) =
      subst
      (λ (xs : List Meaning). Fits xs (bound_to env ns as_ ++ env) (bindings_from scope (k + 1) ns as_ ++ scope))
      (append_assoc held (v ∷ []) values) rest in
      subst
      (λ (o : Option Meaning).
      Fits (held ++ v ∷ values)
      (elim o [ None ↦ bound_to env ns as_ | Some x ↦ (n, x) ∷ bound_to env ns as_ ] ++ env)
      (bindings_from scope k (n ∷ ns) (a ∷ as_) ++ scope))
      (sym here.0)
      (refl, slice_get-end held v values k same, here.1, moved)

-- as many slots as bindings
pub bound_length : (scope : Scope) (names : List (List ℕ)) (args : List Arg) (k : ℕ)
    → length (closing_of_bound scope names args) ≡ length (bindings_from scope k names args)
bound_length scope [] args k = refl
bound_length scope (n ∷ ns) [] k = refl
bound_length scope (n ∷ ns) (a ∷ as_) k = ap (λ m. suc m) (bound_length scope ns as_ (k + 1))

pub bound_slots : (slots : List Meaning) (scope : Scope) (names : List (List ℕ)) (args : List Arg) → length slots ≡ length scope
    → length (slots ++ map (closed_value slots) (closing_of_bound scope names args)) ≡ length (bound_in scope names args)
bound_slots slots scope names args same =
    let values = map (closed_value slots) (closing_of_bound scope names args) in
    let bindings = bindings_from scope (length scope) names args in
    omega (
      arith,
      length-append slots values,
      length-map (closing_of_bound scope names args) (closed_value slots),
      bound_length scope names args (length scope),
      length-append bindings scope,
      same,
    )

-- what holds of all meanings of a sort holds over the sort's range
all_ops : (f g : Meaning → Bool) → ((v : Meaning) → sort_of_meaning v ≡ Microop → f v ≡ g v) → (xs : List ℕ)
    → list_all f (map an_op xs) ≡ list_all g (map an_op xs)
all_ops f g h [] = refl
all_ops f g h (x ∷ xs) = λ i. h (an_op x) refl i && all_ops f g h xs i

all_cores : (f g : Meaning → Bool) → ((v : Meaning) → sort_of_meaning v ≡ Core → f v ≡ g v) → (xs : List ℕ)
    → list_all f (map a_core xs) ≡ list_all g (map a_core xs)
all_cores f g h [] = refl
all_cores f g h (x ∷ xs) = λ i. h (a_core x) refl i && all_cores f g h xs i

any_ops : (f g : Meaning → Bool) → ((v : Meaning) → sort_of_meaning v ≡ Microop → f v ≡ g v) → (xs : List ℕ)
    → list_any f (map an_op xs) ≡ list_any g (map an_op xs)
any_ops f g h [] = refl
any_ops f g h (x ∷ xs) = λ i. h (an_op x) refl i || any_ops f g h xs i

any_cores : (f g : Meaning → Bool) → ((v : Meaning) → sort_of_meaning v ≡ Core → f v ≡ g v) → (xs : List ℕ)
    → list_any f (map a_core xs) ≡ list_any g (map a_core xs)
any_cores f g h [] = refl
any_cores f g h (x ∷ xs) = λ i. h (a_core x) refl i || any_cores f g h xs i

pub all_in_range : (c : Case) (sort : Sort) (f g : Meaning → Bool) → ((v : Meaning) → sort_of_meaning v ≡ sort → f v ≡ g v)
    → list_all f (range_of c sort) ≡ list_all g (range_of c sort)
all_in_range c Microop f g h = all_ops f g h (below (length c.ops))
all_in_range c Core f g h = all_cores f g h (below (cores_of c.ops))

pub any_in_range : (c : Case) (sort : Sort) (f g : Meaning → Bool) → ((v : Meaning) → sort_of_meaning v ≡ sort → f v ≡ g v)
    → list_any f (range_of c sort) ≡ list_any g (range_of c sort)
any_in_range c Microop f g h = any_ops f g h (below (length c.ops))
any_in_range c Core f g h = any_cores f g h (below (cores_of c.ops))

pub one_more : (slots : List Meaning) (v : Meaning) (scope : Scope) (name : List ℕ) (sort : Sort) → length slots ≡ length scope
    → length (slots ++ v ∷ []) ≡ length (quantified_in scope name sort)
one_more slots v scope name sort same = omega (arith, length-append slots (v ∷ []), same)

pub static_true : (slots : List Meaning) (env : Environment) (scope : Scope) → Fits slots env scope
    → (stages : List StageItem) (c : Case) (w : World Node) (pred : Word) (args : List Arg)
    → name_fault stages [] scope (static_ pred args) ≡ None
    → static_holds c env pred.name args ≡ closed_true c w slots (closing_of stages scope (static_ pred args))
static_true slots env scope fits stages c w pred args f =
    static_law slots env scope fits c w pred args (pred_with_name pred.name) f

-- closing keeps truth, in each environment that fits the scope and the slots
pub closing_true : (s : Setting) (slots : List Meaning) (env : Environment) (scope : Scope)
    → length slots ≡ length scope → Fits slots env scope
    → (e : Written) → name_fault s.stages [] scope e ≡ None
    → is_true s [] env e ≡ closed_true s.case s.world slots (closing_of s.stages scope e)
closing_true s slots env scope same fits (not_ p) f = λ i. not (closing_true s slots env scope same fits p f i)
closing_true s slots env scope same fits (and_ p q) f =
    let a = name_fault s.stages [] scope p in
    let b = name_fault s.stages [] scope q in
    λ i. closing_true s slots env scope same fits p (none_first a b f) i
    && closing_true s slots env scope same fits q (none_second a b f) i
closing_true s slots env scope same fits (or_ p q) f =
    let a = name_fault s.stages [] scope p in
    let b = name_fault s.stages [] scope q in
    λ i. closing_true s slots env scope same fits p (none_first a b f) i
    || closing_true s slots env scope same fits q (none_second a b f) i
closing_true s slots env scope same fits (implies_ p q) f =
    let a = name_fault s.stages [] scope p in
    let b = name_fault s.stages [] scope q in
    λ i. not (closing_true s slots env scope same fits p (none_first a b f) i)
    || closing_true s slots env scope same fits q (none_second a b f) i
closing_true s slots env scope same fits (forall_ at sort name p) f =
    let inside = quantified_in scope name sort in
    let rest = none_second (scope_fault at inside) (name_fault s.stages [] inside p) f in
    all_in_range s.case sort _ _
    (λ v of_sort.
    closing_true s (slots ++ v ∷ []) ((name, v) ∷ env) inside (one_more slots v scope name sort same)
    (Fits-quantified slots env scope name v sort same fits of_sort) p rest)
closing_true s slots env scope same fits (exists_ at sort name p) f =
    let inside = quantified_in scope name sort in
    let rest = none_second (scope_fault at inside) (name_fault s.stages [] inside p) f in
    any_in_range s.case sort _ _
    (λ v of_sort.
    closing_true s (slots ++ v ∷ []) ((name, v) ∷ env) inside (one_more slots v scope name sort same)
    (Fits-quantified slots env scope name v sort same fits of_sort) p rest)
closing_true s slots env scope same fits (static_ pred args) f =
    static_true slots env scope fits s.stages s.case s.world pred args f
closing_true s slots env scope same fits (nodes_ ts) f = nodes_law slots env scope fits s.stages s.case s.world ts f
closing_true s slots env scope same fits (edges_ ts) f = edges_law slots env scope fits s.stages s.case s.world ts f
closing_true s slots env scope same fits (expand_ at name args) f = refl
closing_true s slots env scope same fits (bind_ at names args p) f =
    let inside = bound_in scope names args in
    let binding = none_first (binding_fault scope at names args) (name_fault s.stages [] inside p) f in
    let values = none_first (first_fault (value_fault scope) args) (scope_fault at inside) binding in
    closing_true s
    (slots ++ map (closed_value slots) (closing_of_bound scope names args))
    (bound_to env names args ++ env) inside
    (bound_slots slots scope names args same)
    (bound_fits slots env scope fits names args slots (length scope) same values fits)
    p
    (none_second (binding_fault scope at names args) (name_fault s.stages [] inside p) f)
