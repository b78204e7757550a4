-- What the steps of a refutation of the ground tree say of what is known.
use Rattle.std.{proofs.Common.{◌≡◌, inl, inr, ℕ, Bool, true, false, List, [], ◌∷◌, ◌++◌, Option, Some, refl, sym, ap, subst}, specs.Prelude.{Contains}}
use Rattle.pc_common.specs.{World.{Node}, Chain.{Leads}, Steps.{cycle, path, absent, false_step}}
use Rattle.pc_common.proofs.Elements.{In, in_from_contains, in_either, from_flat, from_map}
use Rattle.pc_ground.specs.declared.literal.Literal.{Literal, TheVariants.{Node as a_node, Edge as an_edge, NoNode as not_node, NoEdge as not_edge}}
use Rattle.pc_ground.specs.{declared.row.Row.{Row}, Tree.{Tree, never, leaf, either, turned}, Rows.{rows_of, IsPart}}
use Rattle.pc_ground.specs.Literals.{Joins, IsPresent, as_node, as_start, as_end}
use Rattle.pc_ground.specs.Refutes.{subtree_at, Signed, signed, all_signed, part_at, Branch as TreeBranch, literal_of, literals_of, a_cycle, a_path, an_absence, Closes, a_contradiction, a_falsity, IsSplit}
use Rattle.pc_ground.proofs.FlatRows.{subtree_part}
use Rattle.refutation.specs.BranchFacts.{no_node, present, facts_of_literal}
use Rattle.lifter.specs.KnownFacts.{or_at, Entry, HasKey, HaveKeys, TellsAt, TellsAll, HaveMore, AreEdges, IsCycleKnown, IsPathKnown}
use Rattle.lifter.{specs.States.{IsCovered}, proofs.Tellings.{root_more}}

pub covered_more : (rows : List (Row Node)) (es new : List Entry) (ps : TreeBranch) → HaveMore es new → IsCovered rows es ps → IsCovered rows new ps
covered_more rows es new ps m h q i = (let c = h q i in (c.0, λ s part. root_more es new q.position s m (c.1 s part)))

pub covered_all : (rows : List (Row Node)) (es : List Entry) (ps : List ℕ) → TellsAll rows es ps → IsCovered rows es (all_signed false ps)
covered_all rows es ps h q i =
    let from = from_map (signed false) q ps i in
    let P : ℕ → Type 0 = λ p. TellsAt rows es p in
    (ap (λ (x : Signed). x.negated) (sym from.2), subst P (ap (λ (x : Signed). x.position) from.2) (h from.0 from.1))

pub covered_side : (rows : List (Row Node)) (es : List Entry) (ps : TreeBranch) (more : List ℕ) → IsCovered rows es ps
    → TellsAll rows es more → IsCovered rows es (ps ++ all_signed false more)
covered_side rows es ps more h told q i = elim (in_either q ps (all_signed false more) i) [ inl j ↦ h q j | inr j ↦ covered_all rows es more told q j ]

module _ (t : Tree Node) (es : List Entry) (ps : TreeBranch) (covered : IsCovered (rows_of t) es ps) where
  is_leaf : (o : Option (Tree Node)) (l : Literal Node) → In l (literal_of o) → o ≡ Some (leaf l)
  is_leaf (Some (leaf m)) l (inl e) = ap (λ x. Some (leaf x)) e
  is_leaf (Some (leaf m)) l (inr i) = elim i [ ]
  is_leaf _ l i = elim i [ ]

  -- the part of the tree, or of its negation, under no sign
  plain_part : (n : Bool) (p : ℕ) (s : Tree Node) → n ≡ false → subtree_at (turned n t) p ≡ Some s → IsPart (rows_of t) p s
  plain_part true p s e at = cc
  plain_part false p s e at = subtree_part t p s at

  pub told_literal : (l : Literal Node) → Contains (literals_of t ps) l → HaveKeys es (facts_of_literal l)
  told_literal l has =
      let r = from_flat (λ q. literal_of (part_at t q)) l ps (in_from_contains l (literals_of t ps) has) in
      let q = r.0 in
      let c = covered q r.1 in
      c.1 (leaf l) (plain_part q.negated q.position (leaf l) c.0 (is_leaf (part_at t q) l r.2))

  edges_known : (a : Node) (via : List Node) (b : Node) → Leads (Joins (literals_of t ps)) a via b → AreEdges es a (via ++ b ∷ [])
  edges_known a [] b joins = ((told_literal (an_edge a b) joins).0, tt)
  edges_known a (x ∷ xs) b leads = ((told_literal (an_edge a x) leads.0).0, edges_known x xs b leads.1)

  present_known : (a : Node) → IsPresent (literals_of t ps) a → HasKey es (present a)
  present_known a (as_node has) = (told_literal (a_node a) has).0
  present_known a (as_start b has) = (told_literal (an_edge a b) has).1.0
  present_known a (as_end b has) = (told_literal (an_edge b a) has).1.1.0

  pub cycle_known : (nodes : List Node) → Closes t (literals_of t ps) (cycle nodes) → IsCycleKnown es nodes
  cycle_known nodes (a_contradiction (a_cycle a via leads)) = edges_known a via a leads

  pub path_known : (nodes : List Node) → Closes t (literals_of t ps) (path nodes) → IsPathKnown es nodes
  path_known nodes (a_contradiction (a_path a via b leads has)) = record {
    first = a;
    via = via;
    last = b;
    all = refl;
    edges = edges_known a via b leads;
    denied = (told_literal (not_edge a b) has).0;
  }

  pub absent_known : (a : Node) → Closes t (literals_of t ps) (absent a) → HasKey es (no_node a) × HasKey es (present a)
  absent_known a (a_contradiction (an_absence b has is_there)) = ((told_literal (not_node a) has).0, present_known a is_there)

  pub only_false : Closes t (literals_of t ps) false_step → t ≡ never
  only_false (a_contradiction h) = elim h [ ]
  only_false (a_falsity e) = e

  -- an Or that may be split is known, and stands under no sign
  pub split_known : (n : Bool) (p : ℕ) (a b : Tree Node) → IsSplit t ps n p a b → (n ≡ false) × (subtree_at t p ≡ Some (either a b)) × HasKey es (or_at p)
  split_known n p a b s =
      let c = covered (signed n p) (in_from_contains (signed n p) ps s.0) in
      (c.0, plain_at n c.0 s.1, c.1 (either a b) (plain_part n p (either a b) c.0 s.1))
    where
      plain_at : (m : Bool) → m ≡ false → subtree_at (turned m t) p ≡ Some (either a b) → subtree_at t p ≡ Some (either a b)
      plain_at true e at = cc
      plain_at false e at = at
