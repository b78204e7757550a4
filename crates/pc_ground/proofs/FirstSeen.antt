-- The numbered nodes of a tree are the nodes of its literals, each once.
use Rattle.std.{proofs.Common.{◌≡◌, zero, suc, inl, inr, Bool, true, false, ◌||◌, List, [], ◌∷◌, refl, sym, ◌∙◌, ap, subst}, specs.Prelude.{◌↔◌, Contains}}
use Rattle.std.specs.List.{list_any}
use Rattle.pc_common.{specs.World.{Node, same_node}, proofs.{Elements.{In, in_from_contains, contains_from_in}, Bools.{true_or_false, or_none, not_both}}}
use Rattle.pc_common.proofs.{Nodes.{same_node-true, same_node-self}, Places.{in_at}}
use Rattle.pc_ground.specs.{Tree.{Tree}, Numbers.{nodes_of_tree, first_seen, numbered, AreDistinct}}

-- what is seen first is there
from_first : (seen xs : List Node) (a : Node) → In a (first_seen seen xs) → In a xs
from_first seen [] a i = i
from_first seen (x ∷ xs) a i =
    elim (true_or_false (list_any (same_node x) seen)) [
      | inl h ↦ inr (from_first seen xs a (rw h at i))
      | inr h ↦ later x a xs (first_seen (x ∷ seen) xs) (from_first (x ∷ seen) xs a) (rw h at i)
    ]
  where
    later : (x a : Node) (xs ys : List Node) → (In a ys → In a xs) → In a (x ∷ ys) → In a (x ∷ xs)
    later x a xs ys rest (inl e) = inl e
    later x a xs ys rest (inr j) = inr (rest j)

-- and it was not seen before
first_is_new : (seen xs : List Node) (a : Node) → In a (first_seen seen xs) → list_any (same_node a) seen ≡ false
first_is_new seen [] a i = elim i [ ]
first_is_new seen (x ∷ xs) a i =
    elim (true_or_false (list_any (same_node x) seen)) [
      | inl h ↦ first_is_new seen xs a (rw h at i)
      | inr h ↦ new x a seen (first_seen (x ∷ seen) xs) h (first_is_new (x ∷ seen) xs a) (rw h at i)
    ]
  where
    new : (x a : Node) (seen ys : List Node) → list_any (same_node x) seen ≡ false → (In a ys → list_any (same_node a) (x ∷ seen) ≡ false)
        → In a (x ∷ ys) → list_any (same_node a) seen ≡ false
    new x a seen ys h rest (inl e) = (let P : Node → Type 0 = λ b. list_any (same_node b) seen ≡ false in subst P e h)
    new x a seen ys h rest (inr j) = or_none (same_node a x) (list_any (same_node a) seen) (rest j)

-- what is there and was not seen is seen first somewhere
in_first : (seen xs : List Node) (a : Node) → In a xs → list_any (same_node a) seen ≡ false → In a (first_seen seen xs)
in_first seen [] a i new = i
in_first seen (x ∷ xs) a i new =
    elim (true_or_false (list_any (same_node x) seen)) [
      | inl h ↦ rw h (in_first seen xs a (passed x a xs seen h new i) new)
      | inr h ↦ rw h
          (elim (true_or_false (same_node a x)) [
            | inl same ↦ inl (sym (same_node-true a x same))
            | inr other ↦ inr (in_first (x ∷ seen) xs a (beside x a xs other i) (both_false (same_node a x) (list_any (same_node a) seen) other new))
          ])
    ]
  where
    passed : (x a : Node) (xs seen : List Node) → list_any (same_node x) seen ≡ true → list_any (same_node a) seen ≡ false → In a (x ∷ xs) → In a xs
    passed x a xs seen h new (inl e) = absurd
        (not_both (list_any (same_node a) seen) (let P : Node → Type 0 = λ b. list_any (same_node b) seen ≡ true in subst P e h) new)
    passed x a xs seen h new (inr j) = j

    beside : (x a : Node) (xs : List Node) → same_node a x ≡ false → In a (x ∷ xs) → In a xs
    beside x a xs other (inl e) = absurd (not_both (same_node a x) (ap (same_node a) e ∙ same_node-self a) other)
    beside x a xs other (inr j) = j

    both_false : (p q : Bool) → p ≡ false → q ≡ false → (p || q) ≡ false
    both_false true q e f = cc
    both_false false q e f = f

-- no node is seen first twice
first_distinct : (seen xs : List Node) → AreDistinct (first_seen seen xs)
first_distinct seen [] = λ j k a e f. cc
first_distinct seen (x ∷ xs) =
    elim (true_or_false (list_any (same_node x) seen)) [
      | inl h ↦ rw h (first_distinct seen xs)
      | inr h ↦ rw h (added x (first_seen (x ∷ seen) xs) (first_distinct (x ∷ seen) xs) (λ i. not_both (same_node x x) (same_node-self x)
          (or_left (same_node x x) (list_any (same_node x) seen) (first_is_new (x ∷ seen) xs x i))))
    ]
  where
    or_left : (p q : Bool) → (p || q) ≡ false → p ≡ false
    or_left true q e = cc
    or_left false q e = refl

    added : (x : Node) (ys : List Node) → AreDistinct ys → (In x ys → ⊥) → AreDistinct (x ∷ ys)
    added x ys d new zero zero a e f = refl
    added x ys d new zero (suc k) a e f = (let same : a ≡ x = cc in absurd (new (let P : Node → Type 0 = λ b. In b ys in subst P same (in_at ys k a f))))
    added x ys d new (suc j) zero a e f = (let same : a ≡ x = cc in absurd (new (let P : Node → Type 0 = λ b. In b ys in subst P same (in_at ys j a e))))
    added x ys d new (suc j) (suc k) a e f = ap suc (d j k a e f)

pub numbered_distinct : (t : Tree Node) → AreDistinct (numbered t)
numbered_distinct t = first_distinct [] (nodes_of_tree t)

pub numbered_has : (t : Tree Node) (a : Node) → Contains (nodes_of_tree t) a → Contains (numbered t) a
numbered_has t a h = contains_from_in a (numbered t) (in_first [] (nodes_of_tree t) a (in_from_contains a (nodes_of_tree t) h) refl)

pub numbered_only : (t : Tree Node) (a : Node) → Contains (numbered t) a → Contains (nodes_of_tree t) a
numbered_only t a h = contains_from_in a (nodes_of_tree t) (from_first [] (nodes_of_tree t) a (in_from_contains a (numbered t) h))

-- the law whole
pub numbered_lists : (t : Tree Node) → AreDistinct (numbered t) × ((a : Node) → Contains (nodes_of_tree t) a ↔ Contains (numbered t) a)
numbered_lists t = (numbered_distinct t, λ a. (numbered_has t a, numbered_only t a))
