-- Numbering the nodes of one row after the other numbers the nodes of the tree.
use Rattle.std.proofs.Common.{◌≡◌, ◌<◌, ℕ, ◌+◌, Bool, true, false, ◌||◌, List, [], ◌∷◌, ◌++◌, length, drop, slice_get, Some, refl, ap, sym, ◌∙◌, append_assoc}
use Rattle.std.proofs.lemmas.{List.{append-nil, drop_more, Folds.{list_any-append}}, Option.{get_or_from_slice_get}, Grind.{flat_map-append}}
use Rattle.std.specs.List.{flat_map, list_any}
use Rattle.pc_common.specs.World.{Node, same_node}
use Rattle.pc_ground.specs.{Tree.{Tree, always, never, leaf, both, either}, Rows.{rows_of}, declared.row.Row.{Row}}
use Rattle.pc_ground.specs.Numbers.{nodes_of_literal, nodes_of_tree, first_seen, numbered, seen}
use Rattle.normal_form.specs.RowNodes.{nodes_of_row, numbering_after}

pub nodes_of-rows : {N : Type 0} (t : Tree N) → flat_map nodes_of_row (rows_of t) ≡ nodes_of_tree t
nodes_of-rows always = refl
nodes_of-rows never = refl
nodes_of-rows (leaf l) = append-nil (nodes_of_literal l)
nodes_of-rows (both a b) = flat_map-append nodes_of_row (rows_of a) (rows_of b) ∙ cc (nodes_of-rows a, nodes_of-rows b)
nodes_of-rows (either a b) = flat_map-append nodes_of_row (rows_of a) (rows_of b) ∙ cc (nodes_of-rows a, nodes_of-rows b)

numbering_after-append : (nodes xs ys : List Node) → numbering_after nodes (xs ++ ys) ≡ numbering_after (numbering_after nodes xs) ys
numbering_after-append nodes [] ys = refl
numbering_after-append nodes (x ∷ xs) ys = numbering_after-append (seen nodes x) xs ys

-- one more row
pub see_more : (old new : List Node) (rows : List (Row Node)) (k : ℕ) (r : Row Node) → k < length rows → slice_get rows k ≡ Some r
    → new ≡ numbering_after old (nodes_of_row r)
    → numbering_after new (flat_map nodes_of_row (drop (k + 1) rows)) ≡ numbering_after old (flat_map nodes_of_row (drop k rows))
see_more old new rows k r lt here e =
    let rest = drop (k + 1) rows in
    ap (λ nodes. numbering_after nodes (flat_map nodes_of_row rest)) e
    ∙ sym (numbering_after-append old (nodes_of_row r) (flat_map nodes_of_row rest))
    ∙ ap (λ (x : Row Node). numbering_after old (flat_map nodes_of_row (x ∷ rest))) (sym (get_or_from_slice_get rows k r r here))
    ∙ ap (λ xs. numbering_after old (flat_map nodes_of_row xs)) (sym (drop_more rows k r lt))

-- both lists have the same nodes
abbrev HaveSame : List Node → List Node → Type 0
HaveSame xs ys = (a : Node) → list_any (same_node a) xs ≡ list_any (same_node a) ys

or_swapped : (a b c : Bool) → a ≡ c → (a || (b || false)) ≡ (b || c)
or_swapped true true c e = refl
or_swapped true false c e = e
or_swapped false true c e = refl
or_swapped false false c e = e

same_with : (nodes before : List Node) (x : Node) → HaveSame nodes before → HaveSame (nodes ++ x ∷ []) (x ∷ before)
same_with nodes before x h = λ a.
    list_any-append (same_node a) nodes (x ∷ []) ∙ or_swapped (list_any (same_node a) nodes) (same_node a x) (list_any (same_node a) before) (h a)

first_or_again : (nodes before : List Node) (x : Node) (xs : List Node) (again : Bool)
    → list_any (same_node x) nodes ≡ again → list_any (same_node x) before ≡ again
    → numbering_after nodes xs ≡ nodes ++ first_seen before xs → numbering_after (nodes ++ x ∷ []) xs ≡ nodes ++ x ∷ [] ++ first_seen (x ∷ before) xs
    → numbering_after nodes (x ∷ xs) ≡ nodes ++ first_seen before (x ∷ xs)
first_or_again nodes before x xs true e f old new = rw (e, f) old
first_or_again nodes before x xs false e f old new = rw (e, f) (new ∙ append_assoc nodes (x ∷ []) (first_seen (x ∷ before) xs))

numbering_after-first : (nodes before xs : List Node) → HaveSame nodes before → numbering_after nodes xs ≡ nodes ++ first_seen before xs
numbering_after-first nodes before [] h = sym (append-nil nodes)
numbering_after-first nodes before (x ∷ xs) h =
    first_or_again nodes before x xs (list_any (same_node x) before) (h x) refl (numbering_after-first nodes before xs h)
    (numbering_after-first (nodes ++ x ∷ []) (x ∷ before) xs (same_with nodes before x h))

pub numbering_after-numbered : (t : Tree Node) → numbering_after [] (flat_map nodes_of_row (rows_of t)) ≡ numbered t
numbering_after-numbered t = ap (numbering_after []) (nodes_of-rows t) ∙ numbering_after-first [] [] (nodes_of_tree t) (λ a. refl)
