-- From what a search keeps to what it hands out.
use Rattle.std.proofs.Common.{◌≡◌, ◌<◌, inl, inr, ℕ, zero, suc, ◌+◌, ◌-◌, ◌^◌, false, List, [], ◌∷◌, Option, Some, None, reverse, length, refl, sym, ap, ◌∙◌, subst, arith, get_or}
use Rattle.std.proofs.lemmas.{List.{append-nil, Elements.{All-contains}}, Option.{slice_get-get_or, get_or_from_slice_get}}
use Rattle.std.specs.{Prelude.{Contains, All, slice_get, nat_lt}, Option.{option_map}}
use Rattle.pc_common.{specs.{World.{Node}, Steps.{Step, close, false_step}}, proofs.Elements.{In, contains_from_in, in_front, in_back}}
use Rattle.pc_common.proofs.Bools.{true_or_false}
use Rattle.pc_ground.specs.declared.{row.{Row.{Row}, RowKind.TheVariants.{False}}, version.Version.{Version}}
use Rattle.pc_ground.specs.{Rows.{rows_of, root_kind}, Tree.{Tree, always, never, leaf, both, either, turned, size_of}, Literals.{IsConsistent}}
use Rattle.pc_ground.specs.Refutes.{Branch, Signed, signed, all_signed, subtree_at, part_at, literals_of, a_falsity, IsPartial, IsRefutation}
use Rattle.pc_ground.{specs.Folded.{HasNoConstant, IsFolded}, proofs.{FlatRows.{subtree_size, size_pos}, Turned.{size_turned}}}
use Rattle.graph_text.specs.{Graphs.{graph_nodes, graph_edges}, declared.graph.Graph.{Graph as PlainGraph}}
use Rattle.order_graph.{specs.State.{IsGraph}, proofs.GeneratesWorld.{consistent_generate}}
use Rattle.solver.specs.{Spelled.{spelled, IsSpelled}, Numbered.{Numbered, IsNumbered, HasNoFalse}, Renamed.{tree_over, rows_over, node_at, renamed_tree}}
use Rattle.solver.specs.{Below.{IsRowBelow}, Met.{IsMet}, Places.{place_signed, IsCandidate, AreChosen, root_side, side_positions}}
use Rattle.solver.specs.{Opens.{positions, waiting}, Shown.{ArePresent, AreEdges}, Answers.{IsWitness}}
use Rattle.solver.specs.declared.search.branch.Branch.{Branch as OpenBranch}
use Rattle.solver.specs.{declared.tree.place.Place.{Place}, Branches.{branches_of, HasOpenBranch, IsBlank}}
use Rattle.solver.{specs.Searched.{Searched, HasUnmetBranch, HasCandidate}, proofs.RenamedTree.{part_renamed, size_renamed, asserted_renamed, tree_of_names}}
use Rattle.solver.proofs.{IsSpelled.{spelled_is, is_spelled}, IsGrown.{IsGrown, HasParts, grown_first}, IsChosen.{plain_part}, IsMet.{met_at}, ShownWorld.{Shows, AreBelow, shown_world}}
use Rattle.solver.proofs.{IsKnown.{number_named}, HasAsserted.{length_spelled}, AreTruths.{kind_at}}

option_back : {X Y : Type 0} (g : X → Y) (o : Option X) (y : Y) → option_map g o ≡ Some y → (x : X) × (o ≡ Some x) × (g x ≡ y)
option_back g None y e = cc
option_back g (Some x) y e = (x, refl, (let same : g x ≡ y = cc in same))

parts_back : {M N : Type 0} (f : M → N) (ps : Branch) (q : Signed) (s : Tree M) → HasParts ps q (renamed_tree f s) → HasParts ps q s
parts_back f ps q (both a b) h = (let P : ℕ → Type 0 = λ n. In (signed q.negated (q.position + 1 + n)) ps in (h.0, subst P (size_renamed f a) h.1))
parts_back f ps q s h = tt

grown_back : {M N : Type 0} (f : M → N) (t : Tree M) (ps : Branch) → IsGrown (renamed_tree f t) ps → IsGrown t ps
grown_back f t ps g = record {
  root = g.root;
  placed = λ q i.
      let there = g.placed q i in
      let back = option_back (renamed_tree f) (part_at t q) there.0 (sym (part_renamed f t q) ∙ there.1) in
      (back.0, back.1, parts_back f ps q back.0 (rw back.2 there.2));
}

kept_run : (v : Version) (t : Numbered) (b : OpenBranch) → HasOpenBranch v t b []
    → IsPartial v (tree_over t.nodes (spelled t.rows)) b.refutation (branches_of t b)
kept_run v t b kept = rw (append-nil (positions b.asserted)) at kept.partial

kept_grown : (v : Version) (t : Numbered) (b : OpenBranch) → HasOpenBranch v t b [] → IsGrown (spelled t.rows) (positions b.asserted)
kept_grown v t b kept =
    grown_back (node_at t.nodes) (spelled t.rows) (positions b.asserted)
    (grown_first v (tree_over t.nodes (spelled t.rows)) b.refutation (positions b.asserted) _ (kept_run v t b kept))

-- on a branch with no candidate the whole tree is true
kept_met : (v : Version) (t : Numbered) (b : OpenBranch) → HasOpenBranch v t b [] → IsConsistent b.graph.literals
    → AreChosen (spelled t.rows) (positions b.asserted) → HasNoFalse t
    → IsMet b.graph.literals (spelled t.rows)
kept_met v t b kept consistent chosen none =
    let s = spelled t.rows in
    let ps = positions b.asserted in
    let grown = kept_grown v t b kept in
    rw kept.literals (met_at s ps grown (consistent_generate (literals_of s ps) (rw kept.literals at consistent)).met chosen none s 0 grown.root refl)

rows_below : (n : ℕ) (t : Tree ℕ) → ((r : Row ℕ) → In r (rows_of t) → IsRowBelow n r) → AreBelow n t
rows_below n (leaf l) f = f _ (inl refl)
rows_below n (both a b) f =
    (rows_below n a (λ r i. f r (inr (in_front r (rows_of a) (rows_of b) i))), rows_below n b (λ r i. f r (inr (in_back r (rows_of a) (rows_of b) i))))
rows_below n (either a b) f =
    (rows_below n a (λ r i. f r (inr (in_front r (rows_of a) (rows_of b) i))), rows_below n b (λ r i. f r (inr (in_back r (rows_of a) (rows_of b) i))))
rows_below n t f = tt

tree_below : (n : ℕ) (rows : List (Row ℕ)) → IsSpelled rows → All (IsRowBelow n) rows → AreBelow n (spelled rows)
tree_below n rows flat all =
    rows_below n (spelled rows) (λ r i. All-contains (IsRowBelow n) (rows_of (spelled rows)) r (rw flat at all) (contains_from_in r (rows_of (spelled rows)) i))

named_in : (nodes : List Node) (k : ℕ) (a : Node) → k < length nodes → node_at nodes k ≡ a → Contains nodes a
named_in nodes k a inside e =
    let other : Node = record { op = 0; core = 0; stage = 0 } in
    let at = slice_get-get_or nodes k other inside in
    let same : get_or nodes k other ≡ a = sym (number_named nodes k (get_or nodes k other) at) ∙ e in
    (k, inside, get_or_from_slice_get nodes k a a (at ∙ ap Some same))

-- the graph of such a branch shows that the tree is true in its world
pub witness : (v : Version) (t : Numbered) (b : OpenBranch) (shown : PlainGraph) → IsNumbered t → HasNoFalse t → HasOpenBranch v t b [] → IsGraph b.graph
    → AreChosen (spelled t.rows) (positions b.asserted) → ArePresent t.nodes b.graph.literals (length t.nodes) (graph_nodes shown)
    → AreEdges t.nodes b.graph.literals (graph_edges shown) → IsWitness t.nodes (tree_over t.nodes (spelled t.rows)) shown
witness v t b shown numbered none kept graph chosen present edges =
    let nodes = t.nodes in
    let ls = b.graph.literals in
    let shows : Shows nodes ls (graph_nodes shown) (graph_edges shown) =
    record { distinct = numbered.distinct; below = rw kept.all_nodes at graph.below; consistent = graph.consistent; present = present; edges = edges } in
    let met = kept_met v t b kept graph.consistent chosen none in
    let below = tree_below (length nodes) t.rows numbered.tree numbered.below in
    let made = shown_world nodes ls (graph_nodes shown) (graph_edges shown) (spelled t.rows) shows below met in record {
      known = λ a h. (let k = (present a).0 h in named_in nodes k.0 a k.1 k.3);
      ends = made.0;
      world = made.1.0;
      generated = made.1.1;
      is_world = made.1.2;
      satisfied = made.1.3;
    }

-- what the type of a search keeps, as its clauses say it
pub searching : (v : Version) (tree : Numbered) (b : OpenBranch) (first : Place) (s : Searched) → HasCandidate v tree b first
    → record { version = v; nodes = tree.nodes; rows = tree.rows; graph = b.graph; steps = b.refutation; branches = branches_of tree b } ≡ s
    → HasUnmetBranch s
searching v tree b first searched s is =
    let here = b.asserted in
    let t = spelled tree.rows in
    let q = place_signed first in
    let candidate = s.candidate in
    let part = turned q.negated (either candidate.left candidate.right) in
    rw (← is) (record {
      first = positions here;
      others = waiting t (positions here) (reverse b.later.items);
      branches = refl;
      partial = kept_run v tree b s.state;
      nodes = s.state.all_nodes;
      literals = s.state.literals;
      place = q;
      part = part;
      on_branch = candidate.on_branch;
      at_place = plain_part t q.negated q.position (either candidate.left candidate.right) candidate.is_or;
      not_met = λ h. candidate.is_false (rw s.state.literals at h);
    })

pub candidate_small : (rows : List (Row ℕ)) (ps : Branch) (q : Place) → IsSpelled rows → length rows < 2 ^ 63
    → IsCandidate (spelled rows) ps (place_signed q) → q.position < 2 ^ 63
candidate_small rows ps q flat bound c =
    let size = subtree_size (turned q.negated (spelled rows)) q.position (either c.left c.right) c.is_or in
    omega (arith, size, size_pos (either c.left c.right), size_turned q.negated (spelled rows), length_spelled rows flat, bound)

-- rows of numbers that are named as those of a tree
pub names_tree : (nodes : List Node) (rows : List (Row ℕ)) (t : Tree Node) → rows_over nodes rows ≡ rows_of t → IsSpelled rows
    × (tree_over nodes (spelled rows) ≡ t)
names_tree nodes rows t e =
    let back = tree_of_names (node_at nodes) t rows e in
    (is_spelled rows back.0 back.1, ap (tree_over nodes) (spelled_is rows back.0 back.1) ∙ back.2)

some_false : {N : Type 0} (s : Tree N) → HasNoConstant s → (p : ℕ) → subtree_at s p ≡ Some never → ⊥
some_false always h p e = h
some_false never h p e = h
some_false (both a b) h (suc p) e =
    elim (true_or_false (nat_lt p (size_of a))) [
      | inl l ↦ some_false a h.0 p (rw l at e)
      | inr r ↦ some_false b h.1 (p - size_of a) (rw r at e)
    ]
some_false (either a b) h (suc p) e =
    elim (true_or_false (nat_lt p (size_of a))) [
      | inl l ↦ some_false a h.0 p (rw l at e)
      | inr r ↦ some_false b h.1 (p - size_of a) (rw r at e)
    ]
some_false s h zero e = cc
some_false s h (suc p) e = cc

pub no_false : {N : Type 0} (t : Tree N) → IsFolded t → (t ≡ never → ⊥) → (p : ℕ) → subtree_at t p ≡ Some never → ⊥
no_false never h other p e = other refl
no_false (both a b) h other p e = some_false (both a b) h p e
no_false (either a b) h other p e = some_false (either a b) h p e
no_false t h other zero e = cc
no_false t h other (suc p) e = cc

folded_back : {M N : Type 0} (f : M → N) (t : Tree M) → HasNoConstant (renamed_tree f t) → HasNoConstant t
folded_back f (both a b) h = (folded_back f a h.0, folded_back f b h.1)
folded_back f (either a b) h = (folded_back f a h.0, folded_back f b h.1)
folded_back f t h = h

pub folded_numbers : {M N : Type 0} (f : M → N) (t : Tree M) → IsFolded (renamed_tree f t) → IsFolded t
folded_numbers f (both a b) h = folded_back f (both a b) h
folded_numbers f (either a b) h = folded_back f (either a b) h
folded_numbers f t h = tt

never_of : {N : Type 0} (s : Tree N) → root_kind s ≡ False → s ≡ never
never_of never e = refl
never_of s e = cc

-- the first row is False, where the whole tree is
pub whole_false : (rows : List (Row ℕ)) (r : Row ℕ) → IsSpelled rows → slice_get rows 0 ≡ Some r → r.kind ≡ False → spelled rows ≡ never
whole_false rows r flat at kind = never_of (spelled rows) (kind_at rows 0 r (spelled rows) flat at refl ∙ kind)

pub not_false : (rows : List (Row ℕ)) (r : Row ℕ) → IsSpelled rows → slice_get rows 0 ≡ Some r → (r.kind ≡ False → ⊥) → spelled rows ≡ never → ⊥
not_false rows r flat at other e = other (sym (kind_at rows 0 r (spelled rows) flat at refl) ∙ ap root_kind e)

-- what is kept before the root is entered
pub first_kept : (v : Version) (t : Numbered) (b : OpenBranch) → IsBlank t b → HasOpenBranch v t b (side_positions (spelled t.rows) root_side)
first_kept v t b blank =
    let s = spelled t.rows in
    rw (blank.steps, blank.later, blank.asserted) (record {
      literals = blank.literals;
      all_nodes = blank.nodes;
      marks = omega (arith, ap length blank.marks);
      waits = tt;
      partial = ap (λ ps. all_signed false ps ∷ []) (asserted_renamed (node_at t.nodes) s 0);
    })

-- the refutation of False
pub false_refuted : (v : Version) (nodes : List Node) (t : Tree ℕ) (ss : List (Step Node)) → t ≡ never → ss ≡ close false_step ∷ []
    → IsRefutation v (tree_over nodes t) ss
false_refuted v nodes t ss e f =
    let T = tree_over nodes t in
    let is_never : T ≡ never = ap (tree_over nodes) e in
    rw f (a_falsity is_never, refl)
