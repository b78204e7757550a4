-- Numbers for nodes, and lists that are copied one by one.
use Rattle.std.proofs.Common.{◌≡◌, inl, inr, ℕ, ◌+◌, List, [], ◌∷◌, ◌++◌, Option, Some, map, take, refl, sym, ap, ◌∙◌, subst}
use Rattle.std.proofs.lemmas.{List.{take_more, map_push}, Option.{slice_get_within, get_or_from_slice_get, slice_get-get_or}}
use Rattle.std.specs.{Prelude.{slice_get, Contains}, Option.{unwrap_or}}
use Rattle.pc_common.{specs.World.{Node}, proofs.Elements.{In, in_from_contains, contains_from_in, in_either, in_front, in_back}}
use Rattle.pc_ground.specs.declared.{literal.Literal.{Literal, TheVariants.{Node as a_node, Edge, NoNode, NoEdge}}, row.Row.{Row}}
use Rattle.pc_ground.specs.{Tree.{Tree, always, never, leaf, both, either}, Rows.{rows_of}, Numbers.{nodes_of_literal, nodes_of_tree, numbered}}
use Rattle.pc_ground.proofs.FirstSeen.{numbered_has}
use Rattle.solver.specs.{Renamed.{node_at}, Known.{IsNumbered, IsLiteralKnown, IsRowKnown}}

pub number_named : (nodes : List Node) (k : ℕ) (a : Node) → slice_get nodes k ≡ Some a → node_at nodes k ≡ a
unfolding node_at
number_named nodes k a at = (let other : Node = record { op = 0; core = 0; stage = 0 } in ap (λ (o : Option Node). unwrap_or o other) at)

pub map_one_more : {X Y : Type 0} (f : X → Y) (old new : List X) (x : X) (ys : List Y) (k : ℕ) → new ≡ old ++ x ∷ []
    → map f old ≡ take k ys → slice_get ys k ≡ Some (f x)
    → map f new ≡ take (k + 1) ys
map_one_more f old new x ys k e h at =
    ap (map f) e ∙ map_push f old x ∙ ap (λ zs. zs ++ f x ∷ []) h
    ∙ ap (λ y. take k ys ++ y ∷ []) (sym (get_or_from_slice_get ys k (f x) (f x) at)) ∙ sym (take_more ys k (f x) (slice_get_within ys k (f x) at))

-- each node of a tree's rows has a number in the tree's numbering
in_known : (nodes : List Node) (a : Node) → Contains nodes a → IsNumbered nodes a
in_known nodes a (k, inside, is) = (k, slice_get-get_or nodes k a inside ∙ ap Some is)

literal_known : (nodes : List Node) (l : Literal Node) → ((a : Node) → In a (nodes_of_literal l) → Contains nodes a) → IsLiteralKnown nodes l
literal_known nodes (a_node a) f = in_known nodes a (f a (inl refl))
literal_known nodes (Edge a b) f = (in_known nodes a (f a (inl refl)), in_known nodes b (f b (inr (inl refl))))
literal_known nodes (NoNode a) f = in_known nodes a (f a (inl refl))
literal_known nodes (NoEdge a b) f = (in_known nodes a (f a (inl refl)), in_known nodes b (f b (inr (inl refl))))

in_rows : (nodes : List Node) (t : Tree Node) → ((a : Node) → In a (nodes_of_tree t) → Contains nodes a) → (r : Row Node)
    → In r (rows_of t) → IsRowKnown nodes r
in_rows nodes always f r (inl e) = (let P : Row Node → Type 0 = IsRowKnown nodes in subst P e tt)
in_rows nodes always f r (inr i) = absurd i
in_rows nodes never f r (inl e) = (let P : Row Node → Type 0 = IsRowKnown nodes in subst P e tt)
in_rows nodes never f r (inr i) = absurd i
in_rows nodes (leaf l) f r (inl e) = (let P : Row Node → Type 0 = IsRowKnown nodes in subst P e (literal_known nodes l f))
in_rows nodes (leaf l) f r (inr i) = absurd i
in_rows nodes (both a b) f r (inl e) = (let P : Row Node → Type 0 = IsRowKnown nodes in subst P e tt)
in_rows nodes (both a b) f r (inr i) =
    elim (in_either r (rows_of a) (rows_of b) i) [
      | inl h ↦ in_rows nodes a (λ x j. f x (in_front x (nodes_of_tree a) (nodes_of_tree b) j)) r h
      | inr h ↦ in_rows nodes b (λ x j. f x (in_back x (nodes_of_tree a) (nodes_of_tree b) j)) r h
    ]
in_rows nodes (either a b) f r (inl e) = (let P : Row Node → Type 0 = IsRowKnown nodes in subst P e tt)
in_rows nodes (either a b) f r (inr i) =
    elim (in_either r (rows_of a) (rows_of b) i) [
      | inl h ↦ in_rows nodes a (λ x j. f x (in_front x (nodes_of_tree a) (nodes_of_tree b) j)) r h
      | inr h ↦ in_rows nodes b (λ x j. f x (in_back x (nodes_of_tree a) (nodes_of_tree b) j)) r h
    ]

pub rows_known : (nodes : List Node) (t : Tree Node) (rows : List (Row Node)) → rows ≡ rows_of t → nodes ≡ numbered t
    → (p : ℕ) (r : Row Node) → slice_get rows p ≡ Some r → IsRowKnown nodes r
rows_known nodes t rows e n p r at =
    let here : Contains (rows_of t) r = rw (← e) (p, slice_get_within rows p r at, get_or_from_slice_get rows p r r at) in
    rw n (in_rows (numbered t) t (λ a i. numbered_has t a (contains_from_in a (nodes_of_tree t) i)) r (in_from_contains r (rows_of t) here))
