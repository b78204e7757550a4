-- A search along the edges of numbered nodes, depth first, and the order in which it is done with them.
use Rattle.std.specs.{Prelude.{ℕ, ◌≡◌, ◌<◌, ◌⊎◌, ◌+◌, List, [], ◌∷◌, ◌++◌, length, map, take, Some, slice_get, slice_index_or}, List.{sum_by}}
use Rattle.pc_common.specs.{Chain.{Chain}, Elements.{In}}
use Rattle.graph_check.specs.{Arcs.{Arcs, Joins, IsWalk, ComesTo}, declared.search.{Mark.{Mark, TheVariants.{New, Open, Done}}, Visit.{Visit}, Search.{Search}}}

pub record Progress : Type 0 where
  pub marks : List Mark
  -- the nodes whose edges are being followed, each with the place of its walk
  pub path : List Visit
  -- the nodes that are done, in the order in which they were
  pub order : List ℕ

abbrev pub progress : Search → Progress
progress s = record { marks = s.marks.items; path = s.path.items; order = s.order.items }

-- with one visit more at the end of the path
abbrev pub with_visit : Progress → Visit → Progress
with_visit p x = record { marks = p.marks; path = p.path ++ x ∷ []; order = p.order }

abbrev pub mark_of : List Mark → ℕ → Mark
mark_of marks b = slice_index_or marks b New

abbrev pub nodes_of : List Visit → List ℕ
nodes_of path = map (λ x. x.node) path

-- each node leads to all after it
abbrev pub IsPath : Arcs → List ℕ → Type 0
IsPath v [] = Unit {0}
IsPath v (x ∷ xs) = ((y : ℕ) → In y xs → Chain (Joins v) x y) × IsPath v xs

-- each node stands after those that its edges lead to
abbrev pub IsSorted : Arcs → List ℕ → Type 0
IsSorted v order = (k a b : ℕ) → slice_get order k ≡ Some a → Joins v a b → In b (take k order)

-- all nodes, each after those that its edges lead to
pub record IsTopological (v : Arcs) (order : List ℕ) : Type 0 where
  pub all : (a : ℕ) → a < length v.heads → In a order
  pub known : (a : ℕ) → In a order → a < length v.heads
  pub sorted : IsSorted v order

pub record IsSearching (v : Arcs) (p : Progress) : Type 0 where
  pub sized : length p.marks ≡ length v.heads
  pub walks : (x : Visit) → In x p.path → (x.node < length v.heads) × IsWalk v x.node x.at
  -- what a node's edges lead to is still ahead of its walk, or done
  pub passed : (x : Visit) (b : ℕ) → In x p.path → Joins v x.node b → ComesTo v x.at b ⊎ (mark_of p.marks b ≡ Done)
  pub on_path : (b : ℕ) → mark_of p.marks b ≡ Open → In b (nodes_of p.path)
  pub done : (b : ℕ) → mark_of p.marks b ≡ Done → In b p.order
  pub known : (a : ℕ) → In a p.order → a < length v.heads
  pub sorted : IsSorted v p.order
  pub is_path : IsPath v (nodes_of p.path)

-- what a mark costs at most: a walk over all edges, where it is new
abbrev pub steps_of : ℕ → Mark → ℕ
steps_of edges New = edges + 2
steps_of edges Open = 0
steps_of edges Done = 0

-- it falls with each step of the search
abbrev pub steps_left : Arcs → Progress → ℕ
steps_left v p = sum_by (steps_of (length v.arcs)) p.marks + sum_by (λ x. x.at + 1) p.path

-- no node is new again
abbrev pub IsFurther : List Mark → List Mark → Type 0
IsFurther old new = (b : ℕ) → (mark_of old b ≡ New → ⊥) → mark_of new b ≡ New → ⊥
