-- The numbers of nodes, and lists of nodes with one node more.
use Rattle.std.proofs.Common.{◌≡◌, ℕ, ◌+◌, ◌⊎◌, inl, inr, List, [], ◌∷◌, ◌++◌, Some, map, take, slice_get, sym, ◌∙◌, ap, subst}
use Rattle.std.{proofs.lemmas.Option.{slice_get_within, slice_get-get_or, get_or_from_slice_get}, specs.{Prelude.{Contains, ◌↔◌}, List.{list_any}}}
use Rattle.pc_common.{specs.World.{Node, same_node}, proofs.Elements.{In, in_from_contains, contains_from_in, in_front, in_back, in_either, any_holds}}
use Rattle.pc_common.proofs.{Nodes.{same_node-true}, Bools.{true_or_false}}
use Rattle.pc_ground.specs.{declared.node_key.NodeKey.{NodeKey}, Keys.{key_node}, Numbers.{seen, IsNumberOf}}
use Rattle.static_preds.proofs.Walked.{map_take}

-- what has a number is there
pub numbered_there : (nodes : List Node) (k : ℕ) (a : Node) → IsNumberOf nodes k a → Contains nodes a
numbered_there nodes k a is = (k, slice_get_within nodes k a is, get_or_from_slice_get nodes k a a is)

-- what is there has a number
pub number_of : (nodes : List Node) (a : Node) → Contains nodes a → (k : ℕ) × IsNumberOf nodes k a
number_of nodes a h = (h.0, slice_get-get_or nodes h.0 a h.1 ∙ ap Some h.2)

-- a list with one thing more
pub one_more : {X : Type 0} (xs : List X) (x y : X) → Contains (xs ++ x ∷ []) y ↔ (Contains xs y ⊎ (x ≡ y))
one_more xs x y = ((λ h. from (in_either y xs (x ∷ []) (in_from_contains y (xs ++ x ∷ []) h))), to)
  where
    from : In y xs ⊎ In y (x ∷ []) → Contains xs y ⊎ (x ≡ y)
    from (inl i) = inl (contains_from_in y xs i)
    from (inr (inl e)) = inr e
    from (inr (inr i)) = absurd i

    to : Contains xs y ⊎ (x ≡ y) → Contains (xs ++ x ∷ []) y
    to (inl h) = contains_from_in y (xs ++ x ∷ []) (in_front y xs (x ∷ []) (in_from_contains y xs h))
    to (inr e) = contains_from_in y (xs ++ x ∷ []) (in_back y xs (x ∷ []) (inl e))

-- numbered nodes with one seen more
seen_more : (nodes : List Node) (x y : Node) → Contains (seen nodes x) y ↔ (Contains nodes y ⊎ (x ≡ y))
seen_more nodes x y = elim (true_or_false (list_any (same_node x) nodes)) [
  | inl there ↦ rw there (
    (λ h. inl h),
    (λ h. elim h [
      | inl old ↦ old
      | inr e ↦ (let r = any_holds (same_node x) nodes there in
          let P : Node → Type 0 = λ n. In n nodes in
          contains_from_in y nodes (subst P (sym (same_node-true x r.0 r.2) ∙ e) r.1))
    ]),
  )
  | inr new ↦ rw new (one_more nodes x y)
]

-- the nodes seen so far are the first k keys, and then one more
pub seen_first : (nodes after : List Node) (keys : List NodeKey) (k : ℕ) (key : NodeKey) → slice_get keys k ≡ Some key
    → after ≡ seen nodes (key_node key)
    → ((a : Node) → Contains nodes a ↔ Contains (map key_node (take k keys)) a)
    → (a : Node) → Contains after a ↔ Contains (map key_node (take (k + 1) keys)) a
seen_first nodes after keys k key there is sofar a =
    rw (is, map_take key_node keys k key there) (
      (λ h. (one_more (map key_node (take k keys)) (key_node key) a).1 (elim ((seen_more nodes (key_node key) a).0 h) [
        | inl old ↦ inl ((sofar a).0 old)
        | inr e ↦ inr e
      ])),
      (λ h. (seen_more nodes (key_node key) a).1 (elim ((one_more (map key_node (take k keys)) (key_node key) a).0 h) [
        | inl old ↦ inl ((sofar a).1 old)
        | inr e ↦ inr e
      ])),
    )
