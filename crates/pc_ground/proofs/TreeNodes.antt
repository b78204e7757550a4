-- Each node of closed axioms' ground tree is of the test and of the stages that the axioms name.
use Rattle.std.proofs.Common.{◌≡◌, ℕ, zero, suc, ◌<◌, ◌≤◌, inl, inr, Bool, true, false, List, [], ◌∷◌, ◌++◌, Option, Some, None, length, map, get_or, refl, sym, ap, subst, arith, slice_get, unwrap_or, eqb, eqb-true}
use Rattle.std.{proofs.lemmas.Option.{slice_get-get_or}, specs.Prelude.{Contains}}
use Rattle.pc_common.specs.{Case.{MicroOp, Case, cores_of}, World.{Node}}
use Rattle.pc_common.proofs.Elements.{In, in_from_contains, contains_from_in, in_either, from_map, from_range, any_holds}
use Rattle.pc_case.specs.MicroOps.{AreMicroOps}
use Rattle.pc_syntax.specs.declared.{term.Sort.{Sort, TheVariants.{Microop, Core}}, closed.Closed.{Closed}, closed_term.ClosedArg.{ClosedArg}}
use Rattle.pc_syntax.specs.declared.closed_term.{ClosedArg.TheVariants.{Slot, Core as core_arg, Plain}, ClosedNode.{ClosedNode}, ClosedEdge.{ClosedEdge}}
use Rattle.pc_syntax.specs.{Truth.{Meaning, an_op, a_core, op_of, core_of, node_at, range_of}, Observable.{IsNodeOf}, Predicates.{predicate_holds}}
use Rattle.pc_syntax.specs.Closed.{PlainClosed, plain_closed, closed_not, closed_and, closed_or, closed_implies, closed_forall, closed_exists, closed_static, closed_nodes, closed_edges, closed_bind, value_at, closed_value, closed_argument, closed_core, core_at_op, closed_node}
use Rattle.pc_syntax.specs.IsClosed.{FitsCore, FitsNode, FitNodes, FitEdges, HasValue, HaveValues, sort_of, IsClosed}
use Rattle.pc_syntax.specs.StagesWithin.{IsAmong, NodesWithin, EdgesWithin, StagesWithin}
use Rattle.pc_ground.specs.declared.literal.Literal.{Literal, TheVariants.{Node as a_node, Edge, NoNode, NoEdge}}
use Rattle.pc_ground.specs.Tree.{Tree, always, never, leaf, both, either, contrary}
use Rattle.pc_ground.specs.PlainGround.{PlainGround, ground_true, ground_false, ground_literal, ground_not, ground_and, ground_or, pushed, conjoined, disjoined, folded}
use Rattle.pc_ground.specs.{Unfolded.{all_of, some_of, decided, node_said, edge_said, closed_unfolded}, GroundTree.{closed_ground_tree}}
use Rattle.pc_ground.specs.{Numbers.{nodes_of_literal, nodes_of_tree}, Stages.{plain_axioms, AxiomsWithin}}

pub cores_few : (ops : List MicroOp) → ((k : ℕ) (o : MicroOp) → slice_get ops k ≡ Some o → o.core < 64) → cores_of ops ≤ 64
cores_few [] h = omega arith
cores_few (o ∷ os) h =
    let here : o.core < 64 = h zero o refl in
    let rest = cores_few os (λ k p at. h (suc k) p at) in
    omega (arith, here, rest)

module _ (numbers : List ℕ) (c : Case) (kept : AreMicroOps c.ops) where
  abbrev IsOf : Node → Type 0
  IsOf a = IsNodeOf numbers c.ops a

  -- a value of a sort
  abbrev IsGood : Sort → Meaning → Type 0
  IsGood Microop (an_op i) = i < length c.ops
  IsGood Microop (a_core k) = ⊥
  IsGood Core (an_op i) = ⊥
  IsGood Core (a_core k) = k < 64

  -- each slot has a value of its sort
  abbrev AreGood : List Sort → List Meaning → Type 0
  AreGood [] [] = Unit {0}
  AreGood [] (v ∷ vs) = ⊥
  AreGood (s ∷ ss) [] = ⊥
  AreGood (s ∷ ss) (v ∷ vs) = IsGood s v × AreGood ss vs

  good_append : (ss ts : List Sort) (vs us : List Meaning) → AreGood ss vs → AreGood ts us → AreGood (ss ++ ts) (vs ++ us)
  good_append [] ts [] us h k = k
  good_append [] ts (v ∷ vs) us h k = absurd h
  good_append (s ∷ ss) ts [] us h k = absurd h
  good_append (s ∷ ss) ts (v ∷ vs) us h k = (h.0, good_append ss ts vs us h.1 k)

  good_at : (ss : List Sort) (vs : List Meaning) (k : ℕ) (s : Sort) → AreGood ss vs → slice_get ss k ≡ Some s → IsGood s (value_at vs k)
  good_at [] vs k s h e = cc
  good_at (t ∷ ts) [] k s h e = absurd h
  good_at (t ∷ ts) (v ∷ vs) zero s h e = (let same : t ≡ s = cc in let P : Sort → Type 0 = λ x. IsGood x v in subst P same h.0)
  good_at (t ∷ ts) (v ∷ vs) (suc k) s h e = good_at ts vs k s h.1 e

  good_value : (scope : List Sort) (slots : List Meaning) (a : ClosedArg) → AreGood scope slots → HasValue scope a
      → IsGood (sort_of scope a) (closed_value slots a)
  good_value scope slots (Slot k) h inside =
      let there = slice_get-get_or scope k Core inside in
      let P : Sort → Type 0 = λ s. IsGood s (value_at slots k) in
      subst P (sym (ap (λ o. unwrap_or o Core) there)) (good_at scope slots k (get_or scope k Core) h there)
  good_value scope slots (core_arg n) h below = below
  good_value scope slots (Plain name) h none = absurd none

  good_values : (scope : List Sort) (slots : List Meaning) (args : List ClosedArg) → AreGood scope slots → HaveValues scope args
      → AreGood (map (sort_of scope) args) (map (closed_value slots) args)
  good_values scope slots [] h values = tt
  good_values scope slots (a ∷ as_) h values = (good_value scope slots a h values.0, good_values scope slots as_ h values.1)

  good_range : (sort : Sort) (v : Meaning) → In v (range_of c sort) → IsGood sort v
  good_range Microop v i =
      let r = from_map an_op v _ i in
      let P : Meaning → Type 0 = λ x. IsGood Microop x in
      let inside : r.0 < length c.ops = omega (arith, (from_range 0 (length c.ops) r.0 r.1).1) in
      subst P r.2 inside
  good_range Core v i =
      let r = from_map a_core v _ i in
      let P : Meaning → Type 0 = λ x. IsGood Core x in
      let below : r.0 < 64 = omega (arith, (from_range 0 (cores_of c.ops) r.0 r.1).1, cores_few c.ops kept.cores) in
      subst P r.2 below

  -- the nodes of a literal, of a formula and of a tree
  abbrev LiteralOf : Literal Node → Type 0
  LiteralOf (a_node a) = IsOf a
  LiteralOf (Edge a b) = IsOf a × IsOf b
  LiteralOf (NoNode a) = IsOf a
  LiteralOf (NoEdge a b) = IsOf a × IsOf b

  abbrev GroundOf : PlainGround → Type 0
  GroundOf ground_true = Unit {0}
  GroundOf ground_false = Unit {0}
  GroundOf (ground_literal l) = LiteralOf l
  GroundOf (ground_not g) = GroundOf g
  GroundOf (ground_and g h) = GroundOf g × GroundOf h
  GroundOf (ground_or g h) = GroundOf g × GroundOf h

  abbrev TreeOf : Tree Node → Type 0
  TreeOf always = Unit {0}
  TreeOf never = Unit {0}
  TreeOf (leaf l) = LiteralOf l
  TreeOf (both a b) = TreeOf a × TreeOf b
  TreeOf (either a b) = TreeOf a × TreeOf b

  contrary_of : (l : Literal Node) → LiteralOf l → LiteralOf (contrary l)
  contrary_of (a_node a) h = h
  contrary_of (Edge a b) h = h
  contrary_of (NoNode a) h = h
  contrary_of (NoEdge a b) h = h

  pushed_of : (b : Bool) (g : PlainGround) → GroundOf g → TreeOf (pushed b g)
  pushed_of true ground_true h = tt
  pushed_of false ground_true h = tt
  pushed_of true ground_false h = tt
  pushed_of false ground_false h = tt
  pushed_of true (ground_literal l) h = h
  pushed_of false (ground_literal l) h = contrary_of l h
  pushed_of true (ground_not g) h = pushed_of false g h
  pushed_of false (ground_not g) h = pushed_of true g h
  pushed_of true (ground_and g k) h = (pushed_of true g h.0, pushed_of true k h.1)
  pushed_of false (ground_and g k) h = (pushed_of false g h.0, pushed_of false k h.1)
  pushed_of true (ground_or g k) h = (pushed_of true g h.0, pushed_of true k h.1)
  pushed_of false (ground_or g k) h = (pushed_of false g h.0, pushed_of false k h.1)

  conjoined_of : (t u : Tree Node) → TreeOf t → TreeOf u → TreeOf (conjoined t u)
  conjoined_of always u h k = k
  conjoined_of never u h k = tt
  conjoined_of (leaf l) always h k = h
  conjoined_of (leaf l) never h k = tt
  conjoined_of (leaf l) (leaf m) h k = (h, k)
  conjoined_of (leaf l) (both d e) h k = (h, k)
  conjoined_of (leaf l) (either d e) h k = (h, k)
  conjoined_of (both a b) always h k = h
  conjoined_of (both a b) never h k = tt
  conjoined_of (both a b) (leaf m) h k = (h, k)
  conjoined_of (both a b) (both d e) h k = (h, k)
  conjoined_of (both a b) (either d e) h k = (h, k)
  conjoined_of (either a b) always h k = h
  conjoined_of (either a b) never h k = tt
  conjoined_of (either a b) (leaf m) h k = (h, k)
  conjoined_of (either a b) (both d e) h k = (h, k)
  conjoined_of (either a b) (either d e) h k = (h, k)

  disjoined_of : (t u : Tree Node) → TreeOf t → TreeOf u → TreeOf (disjoined t u)
  disjoined_of always u h k = tt
  disjoined_of never u h k = k
  disjoined_of (leaf l) always h k = tt
  disjoined_of (leaf l) never h k = h
  disjoined_of (leaf l) (leaf m) h k = (h, k)
  disjoined_of (leaf l) (both d e) h k = (h, k)
  disjoined_of (leaf l) (either d e) h k = (h, k)
  disjoined_of (both a b) always h k = tt
  disjoined_of (both a b) never h k = h
  disjoined_of (both a b) (leaf m) h k = (h, k)
  disjoined_of (both a b) (both d e) h k = (h, k)
  disjoined_of (both a b) (either d e) h k = (h, k)
  disjoined_of (either a b) always h k = tt
  disjoined_of (either a b) never h k = h
  disjoined_of (either a b) (leaf m) h k = (h, k)
  disjoined_of (either a b) (both d e) h k = (h, k)
  disjoined_of (either a b) (either d e) h k = (h, k)

  folded_of : (t : Tree Node) → TreeOf t → TreeOf (folded t)
  folded_of always h = tt
  folded_of never h = tt
  folded_of (leaf l) h = h
  folded_of (both a b) h = conjoined_of (folded a) (folded b) (folded_of a h.0) (folded_of b h.1)
  folded_of (either a b) h = disjoined_of (folded a) (folded b) (folded_of a h.0) (folded_of b h.1)

  all_of_of : {X : Type 0} (f : X → PlainGround) (xs : List X) → ((x : X) → In x xs → GroundOf (f x)) → GroundOf (all_of (map f xs))
  all_of_of f [] h = tt
  all_of_of f (x ∷ xs) h = (h x (inl refl), all_of_of f xs (λ y i. h y (inr i)))

  some_of_of : {X : Type 0} (f : X → PlainGround) (xs : List X) → ((x : X) → In x xs → GroundOf (f x)) → GroundOf (some_of (map f xs))
  some_of_of f [] h = tt
  some_of_of f (x ∷ xs) h = (h x (inl refl), some_of_of f xs (λ y i. h y (inr i)))

  decided_of : (b : Bool) → GroundOf (decided b)
  decided_of true = tt
  decided_of false = tt

  -- a node that a term names
  abbrev OptionOf : Option Node → Type 0
  OptionOf None = Unit {0}
  OptionOf (Some a) = IsOf a

  abbrev IsCore : Option ℕ → Type 0
  IsCore None = Unit {0}
  IsCore (Some k) = k < 64

  good_core : (v : Meaning) → IsGood Core v → IsCore (core_of (Some v))
  good_core (an_op i) h = absurd h
  good_core (a_core k) h = h

  core_is : (scope : List Sort) (slots : List Meaning) (o : MicroOp) (core : Option ClosedArg) → AreGood scope slots → o.core < 64 → FitsCore scope core
      → IsCore (closed_core slots o core)
  core_is scope slots o None h own fits = own
  core_is scope slots o (Some (Slot k)) h own fits = good_core (value_at slots k) (good_at scope slots k Core h fits)
  core_is scope slots o (Some (core_arg n)) h own fits = fits
  core_is scope slots o (Some (Plain name)) h own fits = absurd fits

  among_contains : (k : ℕ) → IsAmong numbers k → Contains numbers k
  among_contains k h =
      let r = any_holds (λ n. eqb n k) numbers h in
      let P : ℕ → Type 0 = λ n. In n numbers in
      contains_from_in k numbers (subst P (eqb-true r.0 k r.2) r.1)

  node_of_parts : (i stage : ℕ) (core : Option ℕ) → i < length c.ops → IsCore core → IsAmong numbers stage → OptionOf (node_at (Some i) core (Some stage))
  node_of_parts i stage None inside fits among = tt
  node_of_parts i stage (Some k) inside fits among = record { op_of_test = inside; core_in_range = fits; stage_of_model = among_contains stage among }

  core_there_is : (scope : List Sort) (slots : List Meaning) (m : Option MicroOp) (core : Option ClosedArg) → AreGood scope slots
      → ((o : MicroOp) → m ≡ Some o → o.core < 64) → FitsCore scope core → IsCore (elim m [ None ↦ None | Some o ↦ closed_core slots o core ])
  core_there_is scope slots None core h own fits = tt
  core_there_is scope slots (Some o) core h own fits = core_is scope slots o core h (own o refl) fits

  op_node : (scope : List Sort) (slots : List Meaning) (v : Meaning) (core : Option ClosedArg) (stage : ℕ) → AreGood scope slots → IsGood Microop v
      → FitsCore scope core
      → IsAmong numbers stage → OptionOf (node_at (op_of (Some v)) (core_at_op c slots (op_of (Some v)) core) (Some stage))
  op_node scope slots (an_op i) core stage h good fits among =
      node_of_parts i stage (core_at_op c slots (Some i) core) good
      (core_there_is scope slots (slice_get c.ops i) core h (λ o at. kept.cores i o at) fits) among
  op_node scope slots (a_core k) core stage h good fits among = absurd good

  node_is : (scope : List Sort) (slots : List Meaning) (t : ClosedNode) → AreGood scope slots → FitsNode scope t → IsAmong numbers t.stage
      → OptionOf (closed_node c slots t)
  node_is scope slots t h fits among = op_node scope slots (value_at slots t.op) t.core t.stage h (good_at scope slots t.op Microop h fits.0) fits.1 among

  node_said_of : (o : Option Node) → OptionOf o → GroundOf (node_said o)
  node_said_of None h = tt
  node_said_of (Some a) h = h

  edge_said_of : (o p : Option Node) → OptionOf o → OptionOf p → GroundOf (edge_said o p)
  edge_said_of None p h k = tt
  edge_said_of (Some a) None h k = tt
  edge_said_of (Some a) (Some b) h k = (h, k)

  nodes_of : (scope : List Sort) (slots : List Meaning) (ts : List ClosedNode) → AreGood scope slots → FitNodes scope ts → NodesWithin numbers ts
      → GroundOf (all_of (map (λ t. node_said (closed_node c slots t)) ts))
  nodes_of scope slots [] h fits within = tt
  nodes_of scope slots (t ∷ ts) h fits within =
      (node_said_of (closed_node c slots t) (node_is scope slots t h fits.0 within.0), nodes_of scope slots ts h fits.1 within.1)

  edges_of : (scope : List Sort) (slots : List Meaning) (ts : List ClosedEdge) → AreGood scope slots → FitEdges scope ts → EdgesWithin numbers ts
      → GroundOf (all_of (map (λ t. edge_said (closed_node c slots t.from) (closed_node c slots t.to)) ts))
  edges_of scope slots [] h fits within = tt
  edges_of scope slots (t ∷ ts) h fits within = (
    edge_said_of (closed_node c slots t.from) (closed_node c slots t.to) (node_is scope slots t.from h fits.0 within.0)
        (node_is scope slots t.to h fits.1 within.1),
    edges_of scope slots ts h fits.2 within.2,
  )

  closed_of : (scope : List Sort) (slots : List Meaning) (p : PlainClosed) → AreGood scope slots → IsClosed scope p → StagesWithin numbers p
      → GroundOf (closed_unfolded c slots p)
  closed_of scope slots (closed_not p) h is within = closed_of scope slots p h is within
  closed_of scope slots (closed_and p q) h is within = (closed_of scope slots p h is.0 within.0, closed_of scope slots q h is.1 within.1)
  closed_of scope slots (closed_or p q) h is within = (closed_of scope slots p h is.0 within.0, closed_of scope slots q h is.1 within.1)
  closed_of scope slots (closed_implies p q) h is within = (closed_of scope slots p h is.0 within.0, closed_of scope slots q h is.1 within.1)
  closed_of scope slots (closed_forall sort p) h is within =
      all_of_of (λ v. closed_unfolded c (slots ++ v ∷ []) p) (range_of c sort)
      (λ v i. closed_of (scope ++ sort ∷ []) (slots ++ v ∷ []) p (good_append scope (sort ∷ []) slots (v ∷ []) h (good_range sort v i, tt)) is.1 within)
  closed_of scope slots (closed_exists sort p) h is within =
      some_of_of (λ v. closed_unfolded c (slots ++ v ∷ []) p) (range_of c sort)
      (λ v i. closed_of (scope ++ sort ∷ []) (slots ++ v ∷ []) p (good_append scope (sort ∷ []) slots (v ∷ []) h (good_range sort v i, tt)) is.1 within)
  closed_of scope slots (closed_static pred args) h is within = decided_of (predicate_holds c pred (map (closed_argument slots) args))
  closed_of scope slots (closed_nodes ts) h is within = nodes_of scope slots ts h is within
  closed_of scope slots (closed_edges ts) h is within = edges_of scope slots ts h is within
  closed_of scope slots (closed_bind args p) h is within =
      closed_of (scope ++ map (sort_of scope) args) (slots ++ map (closed_value slots) args) p
      (good_append scope (map (sort_of scope) args) slots (map (closed_value slots) args) h (good_values scope slots args h is.0)) is.2 within

  axioms_of : (axioms : List Closed) → AxiomsWithin numbers (plain_axioms axioms) → GroundOf (all_of (map (closed_unfolded c []) (plain_axioms axioms)))
  axioms_of [] within = tt
  axioms_of (a ∷ as_) within = (closed_of [] [] (plain_closed a.body) tt a.closed within.0, axioms_of as_ within.1)

  literal_node_of : (l : Literal Node) (a : Node) → LiteralOf l → In a (nodes_of_literal l) → IsOf a
  literal_node_of (a_node b) a h (inl e) = subst IsOf e h
  literal_node_of (a_node b) a h (inr i) = elim i [ ]
  literal_node_of (Edge b d) a h (inl e) = subst IsOf e h.0
  literal_node_of (Edge b d) a h (inr (inl e)) = subst IsOf e h.1
  literal_node_of (Edge b d) a h (inr (inr i)) = elim i [ ]
  literal_node_of (NoNode b) a h (inl e) = subst IsOf e h
  literal_node_of (NoNode b) a h (inr i) = elim i [ ]
  literal_node_of (NoEdge b d) a h (inl e) = subst IsOf e h.0
  literal_node_of (NoEdge b d) a h (inr (inl e)) = subst IsOf e h.1
  literal_node_of (NoEdge b d) a h (inr (inr i)) = elim i [ ]

  tree_node_of : (t : Tree Node) (a : Node) → TreeOf t → In a (nodes_of_tree t) → IsOf a
  tree_node_of always a h i = elim i [ ]
  tree_node_of never a h i = elim i [ ]
  tree_node_of (leaf l) a h i = literal_node_of l a h i
  tree_node_of (both x y) a h i =
      elim (in_either a (nodes_of_tree x) (nodes_of_tree y) i) [ inl j ↦ tree_node_of x a h.0 j | inr j ↦ tree_node_of y a h.1 j ]
  tree_node_of (either x y) a h i =
      elim (in_either a (nodes_of_tree x) (nodes_of_tree y) i) [ inl j ↦ tree_node_of x a h.0 j | inr j ↦ tree_node_of y a h.1 j ]

  tree_nodes_of : (axioms : List Closed) → AxiomsWithin numbers (plain_axioms axioms) → (a : Node)
      → Contains (nodes_of_tree (closed_ground_tree c (plain_axioms axioms))) a → IsOf a
  tree_nodes_of axioms within a has =
      let g = all_of (map (closed_unfolded c []) (plain_axioms axioms)) in
      tree_node_of (closed_ground_tree c (plain_axioms axioms)) a (folded_of (pushed true g) (pushed_of true g (axioms_of axioms within)))
      (in_from_contains a (nodes_of_tree (closed_ground_tree c (plain_axioms axioms))) has)

pub nodes_are_of : (c : Case) (numbers : List ℕ) (axioms : List Closed) → AreMicroOps c.ops → AxiomsWithin numbers (plain_axioms axioms)
    → (a : Node) → Contains (nodes_of_tree (closed_ground_tree c (plain_axioms axioms))) a → IsNodeOf numbers c.ops a
nodes_are_of c numbers axioms kept within a has = tree_nodes_of numbers c kept axioms within a has
