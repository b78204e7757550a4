-- A branch on which nothing is left to choose meets its tree.
use Rattle.std.{proofs.Common.{◌≡◌, inl, inr, ℕ, ◌+◌, false, List, Some, refl, sym, ap, subst}, specs.Prelude.{Contains}}
use Rattle.pc_common.proofs.Elements.{In, in_from_contains, contains_from_in, in_flat}
use Rattle.pc_ground.specs.{declared.literal.Literal.{Literal}, Tree.{Tree, always, never, leaf, both, either, size_of}, Literals.{AreMet}}
use Rattle.pc_ground.{specs.Refutes.{Branch, Signed, signed, subtree_at, part_at, literal_of, literals_of}, proofs.FlatRows.{children_both, children_either}}
use Rattle.solver.{specs.{Met.{IsMet}, Places.{AreChosen}}, proofs.IsGrown.{IsGrown, both_parts}}

-- no False stands in the tree
abbrev pub NoFalse : {N : Type 0} → Tree N → Type 0
NoFalse t = (p : ℕ) → subtree_at t p ≡ Some never → ⊥

pub literal_on : {N : Type 0} (t : Tree N) (ps : Branch) (q : Signed) (l : Literal N) → In q ps → part_at t q ≡ Some (leaf l) → Contains (literals_of t ps) l
literal_on {N} t ps q l i e =
    contains_from_in l (literals_of t ps) (in_flat (λ x. literal_of (part_at t x)) q l ps i
    (let P : List (Literal N) → Type 0 = λ ls. In l ls in subst P (sym (ap literal_of e)) (inl refl)))

pub met_at : {N : Type 0} (t : Tree N) (ps : Branch) → IsGrown t ps → AreMet (literals_of t ps) → AreChosen t ps → NoFalse t
    → (s : Tree N) (p : ℕ) → In (signed false p) ps → subtree_at t p ≡ Some s → IsMet (literals_of t ps) s
met_at t ps grown met chosen none always p i e = tt
met_at t ps grown met chosen none never p i e = none p e
met_at t ps grown met chosen none (leaf l) p i e = met l (literal_on t ps (signed false p) l i e)
met_at t ps grown met chosen none (both a b) p i e =
    let on = both_parts t ps (signed false p) a b grown i e in
    let children = children_both t p a b e in (
      met_at t ps grown met chosen none a (p + 1) on.0 children.0,
      met_at t ps grown met chosen none b (p + 1 + size_of a) on.1 children.1,
    )
met_at t ps grown met chosen none (either a b) p i e =
    let children = children_either t p a b e in
    elim (chosen (signed false p) a b (contains_from_in (signed false p) ps i) e) [
      | inl h ↦ h
      | inr side ↦ elim side [
        | inl left ↦ inl (met_at t ps grown met chosen none a (p + 1) (in_from_contains (signed false (p + 1)) ps left) children.0)
        | inr right ↦ inr (met_at t ps grown met chosen none b (p + 1 + size_of a) (in_from_contains (signed false (p + 1 + size_of a)) ps right) children.1)
      ]
    ]
