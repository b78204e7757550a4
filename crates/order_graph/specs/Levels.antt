-- Levels of nodes: how many edges away a target is, found backwards from it.
use Rattle.std.specs.Prelude.{ℕ, ◌≡◌, ◌≢◌, ◌+◌, ◌<◌, ◌≤◌, ◌⊎◌, List, [], ◌∷◌, ◌++◌, length, slice_index, slice_index_or, slice_set, Contains, sum_by, ◌==◌, if◌then◌else◌}
use Rattle.pc_ground.specs.declared.literal.Literal.{Literal, TheVariants.{Node, Edge, NoNode, NoEdge}}

-- the level of a node from which the target was not reached
abbrev pub far : ℕ
far = 4294967295

-- 1 for a node with no level
abbrev pub one_if_far : ℕ → ℕ
one_if_far d = if d == far then 1 else 0

-- how many nodes have no level
abbrev pub far_count : List ℕ → ℕ
far_count levels = sum_by one_if_far levels

-- literal k is on the linked list that begins with the literal of this number, literal j being j + 1 there
pub data OnList (links : List ℕ) : ℕ → ℕ → Type 0 where
  here : (k : ℕ) → OnList links (k + 1) k
  later : (e k : ℕ) → OnList links (slice_index links e) k → OnList links (e + 1) k

-- the edges among the first k literals are on the lists of the nodes that they lead to
pub record AreLists (ls : List (Literal ℕ)) (nodes k : ℕ) (heads links : List ℕ) : Type 0 where
  pub heads_all : length heads ≡ nodes
  pub links_all : length links ≡ k
  pub low : (b : ℕ) → slice_index heads b ≤ k
  pub falling : (j : ℕ) → slice_index links j ≤ j
  pub all : (j a b : ℕ) → j < k → slice_index_or ls j (Edge a b) ≡ Edge a b → OnList links (slice_index heads b) j

-- a literal that asserts an edge is the first on the list of the node that it leads to, and another is on none
abbrev pub HasListed : Literal ℕ → List ℕ → List ℕ → List ℕ → List ℕ → Type 0
HasListed (Edge a b) heads links now link_now = (now ≡ slice_set heads b (length links + 1)) × (link_now ≡ links ++ slice_index heads b ∷ [])
HasListed (Node a) heads links now link_now = (now ≡ heads) × (link_now ≡ links ++ 0 ∷ [])
HasListed (NoNode a) heads links now link_now = (now ≡ heads) × (link_now ≡ links ++ 0 ∷ [])
HasListed (NoEdge a b) heads links now link_now = (now ≡ heads) × (link_now ≡ links ++ 0 ∷ [])

-- what a search backwards has: the level and the next node of each node, and the nodes with a level as they were found
pub record Found : Type 0 where
  pub levels : List ℕ
  pub nexts : List ℕ
  pub queue : List ℕ

abbrev pub found : List ℕ → List ℕ → List ℕ → Found
found levels nexts queue = record { levels = levels; nexts = nexts; queue = queue }

-- what an edge changes: its first node gets the level after that of its second, or the second as a lower next node
pub data HasRaised (old : Found) (from to : ℕ) (new : Found) : Type 0 where
  fresh : slice_index old.levels from ≡ far → new.levels ≡ slice_set old.levels from (slice_index old.levels to + 1)
      → new.nexts ≡ slice_set old.nexts from to
      → new.queue ≡ old.queue ++ from ∷ [] → HasRaised old from to new
  nearer : slice_index old.levels from ≡ slice_index old.levels to + 1 → new.levels ≡ old.levels
      → new.nexts ≡ slice_set old.nexts from to
      → new.queue ≡ old.queue → HasRaised old from to new
  known : slice_index old.levels from ≢ far → new.levels ≡ old.levels → new.nexts ≡ old.nexts → new.queue ≡ old.queue
      → HasRaised old from to new

abbrev pub HasSame : Found → Found → Type 0
HasSame old new = (new.levels ≡ old.levels) × (new.nexts ≡ old.nexts) × (new.queue ≡ old.queue)

-- a literal that asserts an edge to the node changes that, and another nothing
abbrev pub HasFollowed : Literal ℕ → ℕ → Found → Found → Type 0
HasFollowed (Edge a b) node old new = ((b ≡ node) × HasRaised old a node new) ⊎ ((b ≢ node) × HasSame old new)
HasFollowed (Node a) node old new = HasSame old new
HasFollowed (NoNode a) node old new = HasSame old new
HasFollowed (NoEdge a b) node old new = HasSame old new

-- only the target is at level 0, and a node further away has a next node one level nearer
abbrev pub HasNext : ℕ → List ℕ → List ℕ → Type 0
HasNext target levels nexts = (a : ℕ) → a < length levels → slice_index levels a ≢ far
    → ((slice_index levels a ≡ 0) × (a ≡ target))
    ⊎ ((slice_index nexts a < length levels) × (slice_index levels (slice_index nexts a) + 1 ≡ slice_index levels a))

-- b is the next node of a, which has a level
abbrev pub IsNext : List ℕ → List ℕ → ℕ → ℕ → Type 0
IsNext levels nexts a b = (a < length levels) × (slice_index levels a ≢ far) × (slice_index levels a ≢ 0)
    × (slice_index nexts a ≡ b)

-- the nodes in the queue are those with a level, and from the first h of them all edges backwards were followed
pub record IsSearched (ls : List (Literal ℕ)) (target nodes h : ℕ) (levels nexts queue : List ℕ) : Type 0 where
  pub levels_all : length levels ≡ nodes
  pub nexts_all : length nexts ≡ nodes
  pub home : slice_index levels target ≡ 0
  pub next : HasNext target levels nexts
  pub steps : (a b : ℕ) → IsNext levels nexts a b → Contains ls (Edge a b)
  pub bounded : (a : ℕ) → a < nodes → slice_index levels a ≢ far → slice_index levels a < length queue
  pub queued : (a : ℕ) → a < nodes → slice_index levels a ≢ far → Contains queue a
  pub reached : (j : ℕ) → j < length queue
      → (slice_index queue j < nodes) × (slice_index levels (slice_index queue j) ≢ far)
  pub count : far_count levels + length queue ≡ nodes
  pub low : h ≤ length queue
  pub closed : (j a : ℕ) → j < h → Contains ls (Edge a (slice_index queue j)) → slice_index levels a ≢ far
