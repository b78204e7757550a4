-- What stands at the positions that a tree asserts is known.
use Rattle.std.proofs.Common.{◌≡◌, inl, inr, ℕ, ◌+◌, List, [], ◌∷◌, subst}
use Rattle.pc_common.{specs.World.{Node}, proofs.Elements.{in_either}}
use Rattle.pc_ground.specs.declared.literal.Literal.{Literal}
use Rattle.pc_ground.{specs.{declared.row.Row.{Row}, Rows.{IsPart}, Tree.{Tree, leaf, both, either, size_of}, Refutes.{asserted}}, proofs.FlatRows.{one_part}}
use Rattle.refutation.specs.BranchFacts.{PlainBranchFact, facts_of_literal}
use Rattle.lifter.specs.KnownFacts.{or_at, Entry, HasKey, HaveKeys, TellsRoot, TellsAt, TellsAll, HaveMore}

keys_more : (es new : List Entry) (keys : List PlainBranchFact) → HaveMore es new → HaveKeys es keys → HaveKeys new keys
keys_more es new [] m h = tt
keys_more es new (key ∷ keys) m h = (m key h.0, keys_more es new keys m h.1)

pub root_more : (es new : List Entry) (p : ℕ) (s : Tree Node) → HaveMore es new → TellsRoot es p s → TellsRoot new p s
root_more es new p (leaf l) m h = keys_more es new (facts_of_literal l) m h
root_more es new p (either a b) m h = m (or_at p) h
root_more es new p _ m h = tt

module _ (rows : List (Row Node)) where
  pub tells_more : (es new : List Entry) (ps : List ℕ) → HaveMore es new → TellsAll rows es ps → TellsAll rows new ps
  tells_more es new ps m h p i s part = root_more es new p s m (h p i s part)

  -- at a position where this tree stands
  pub tells_there : (es : List Entry) (p : ℕ) (t : Tree Node) → IsPart rows p t → TellsRoot es p t → TellsAt rows es p
  tells_there es p t here h s part = (let P : Tree Node → Type 0 = λ u. TellsRoot es p u in subst P (one_part rows p t s here part) h)

  at_root : (es : List Entry) (p q : ℕ) (t : Tree Node) → IsPart rows p t → TellsRoot es p t → (p ≡ q) → TellsAt rows es q
  at_root es p q t here h e = (let P : ℕ → Type 0 = λ n. TellsAt rows es n in subst P e (tells_there es p t here h))

  pub tells_leaf : (es : List Entry) (p : ℕ) (l : Literal Node) → IsPart rows p (leaf l) → HaveKeys es (facts_of_literal l) → TellsAll rows es (asserted (leaf l) p)
  tells_leaf es p l here h q (inl e) = at_root es p q (leaf l) here h e
  tells_leaf es p l here h q (inr i) = elim i [ ]

  pub tells_either : (es : List Entry) (p : ℕ) (a b : Tree Node) → IsPart rows p (either a b) → HasKey es (or_at p)
      → TellsAll rows es (asserted (either a b) p)
  tells_either es p a b here h q (inl e) = at_root es p q (either a b) here h e
  tells_either es p a b here h q (inr i) = elim i [ ]

  pub tells_both : (es : List Entry) (p : ℕ) (a b : Tree Node) → IsPart rows p (both a b) → TellsAll rows es (asserted a (p + 1))
      → TellsAll rows es (asserted b (p + 1 + size_of a))
      → TellsAll rows es (asserted (both a b) p)
  tells_both es p a b here left right q (inl e) = at_root es p q (both a b) here tt e
  tells_both es p a b here left right q (inr i) = elim (in_either q (asserted a (p + 1)) (asserted b (p + 1 + size_of a)) i)
      [ inl j ↦ left q j | inr j ↦ right q j ]
