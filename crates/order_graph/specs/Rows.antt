-- The bit rows of a list of literals over n nodes: what each node reaches, the pairs denied from each node, the present
-- nodes, the denied nodes, and the nodes from which a pair is denied.
use Rattle.std.specs.Prelude.{ℕ, Bool, true, false, ◌≡◌, ◌↔◌, ◌<◌, ◌≤◌, ◌+◌, ◌*◌, ◌&&◌, ◌||◌, ◌==◌, not, zero, suc, if◌then◌else◌, List, Contains, All}
use Rattle.pc_common.specs.{Chain.{Chain}, declared.limits.TheConstants.{MAX_NODES}}
use Rattle.pc_ground.specs.{declared.literal.Literal.{Literal, TheVariants.{Node, Edge, NoNode, NoEdge}}, Literals.{Joins, IsPresent, IsConsistent, Holds}}
use Rattle.undo_trail.specs.{Bits.{has}, BitTable.{BitTable, bit_now}}
use Rattle.order_graph.specs.Ways.{IsBelow}

-- row n + x: the nodes that x is denied to come before
abbrev pub pair_row : ℕ → ℕ → ℕ
pair_row n x = n + x

abbrev pub present_row : ℕ → ℕ
present_row n = 2 * n

abbrev pub missing_row : ℕ → ℕ
missing_row n = 2 * n + 1

-- the nodes that are denied to come before some node
abbrev pub denier_row : ℕ → ℕ
denier_row n = 2 * n + 2

-- the table represents the literals, which are consistent
pub record Represents (n words : ℕ) (ls : List (Literal ℕ)) (t : List ℕ) : Type 0 where
  pub reach : (x y : ℕ) → x < n → y < 64 * words → (has words t x y ≡ true) ↔ Chain (Joins ls) x y
  pub pairs : (x y : ℕ) → x < n → y < 64 * words → (has words t (pair_row n x) y ≡ true) ↔ Contains ls (NoEdge x y)
  pub present : (x : ℕ) → x < n → (has words t (present_row n) x ≡ true) ↔ IsPresent ls x
  pub missing : (x : ℕ) → x < n → (has words t (missing_row n) x ≡ true) ↔ Contains ls (NoNode x)
  pub denying : (x y : ℕ) → x < n → Contains ls (NoEdge x y) → has words t (denier_row n) x ≡ true
  pub below : All (IsBelow n) ls
  pub consistent : IsConsistent ls

-- the answer tells whether the literal is true of those that the table represents, whichever they are: where just the
-- nodes that they assert are there, in the order of the chains of their edges
abbrev pub TellsTruth : ℕ → BitTable → Literal ℕ → Bool → Type 0
TellsTruth n v l answer = (ls : List (Literal ℕ)) → Represents n v.words ls v.now
    → (answer ≡ true) ↔ Holds (IsPresent ls) (Chain (Joins ls)) l

-- b is a, or the table has a chain from a to b
abbrev pub leads_to : BitTable → ℕ → ℕ → Bool
leads_to v a b = (a == b) || bit_now v a b

-- the table with an edge from a to b has a chain from x to y
abbrev pub with_edge : BitTable → ℕ → ℕ → ℕ → ℕ → Bool
with_edge v a b x y = bit_now v x y || (leads_to v x a && leads_to v b y)

-- each row's bits once the literal is entered
abbrev pub reach_with : Literal ℕ → BitTable → ℕ → ℕ → Bool
reach_with (Node a) v x y = bit_now v x y
reach_with (Edge a b) v x y = with_edge v a b x y
reach_with (NoNode a) v x y = bit_now v x y
reach_with (NoEdge a b) v x y = bit_now v x y

abbrev pub pair_with : ℕ → Literal ℕ → BitTable → ℕ → ℕ → Bool
pair_with n (Node a) v x y = bit_now v (pair_row n x) y
pair_with n (Edge a b) v x y = bit_now v (pair_row n x) y
pair_with n (NoNode a) v x y = bit_now v (pair_row n x) y
pair_with n (NoEdge a b) v x y = bit_now v (pair_row n x) y || ((x == a) && (y == b))

abbrev pub present_with : ℕ → Literal ℕ → BitTable → ℕ → Bool
present_with n (Node a) v x = bit_now v (present_row n) x || (x == a)
present_with n (Edge a b) v x = bit_now v (present_row n) x || (x == a) || (x == b)
present_with n (NoNode a) v x = bit_now v (present_row n) x
present_with n (NoEdge a b) v x = bit_now v (present_row n) x

abbrev pub missing_with : ℕ → Literal ℕ → BitTable → ℕ → Bool
missing_with n (Node a) v x = bit_now v (missing_row n) x
missing_with n (Edge a b) v x = bit_now v (missing_row n) x
missing_with n (NoNode a) v x = bit_now v (missing_row n) x || (x == a)
missing_with n (NoEdge a b) v x = bit_now v (missing_row n) x

abbrev pub denier_with : ℕ → Literal ℕ → BitTable → ℕ → Bool
denier_with n (Node a) v x = bit_now v (denier_row n) x
denier_with n (Edge a b) v x = bit_now v (denier_row n) x
denier_with n (NoNode a) v x = bit_now v (denier_row n) x
denier_with n (NoEdge a b) v x = bit_now v (denier_row n) x || (x == a)

pub record Enters (n : ℕ) (l : Literal ℕ) (old new : BitTable) : Type 0 where
  pub reach : (x y : ℕ) → x < n → y < 64 * old.words → bit_now new x y ≡ reach_with l old x y
  pub pairs : (x y : ℕ) → x < n → y < 64 * old.words → bit_now new (pair_row n x) y ≡ pair_with n l old x y
  pub present : (x : ℕ) → x < n → bit_now new (present_row n) x ≡ present_with n l old x
  pub missing : (x : ℕ) → x < n → bit_now new (missing_row n) x ≡ missing_with n l old x
  pub denying : (x : ℕ) → x < n → bit_now new (denier_row n) x ≡ denier_with n l old x

-- the table has the rows of n nodes, and a column for each
abbrev pub IsSized : ℕ → BitTable → Type 0
IsSized n v = (v.rows ≡ 2 * n + 3) × (n ≤ 64 * v.words) × (n ≤ MAX_NODES)

-- an edge from a to b closes no cycle of the rows, which have each chain that two of theirs make, and its ends where it
-- is one
pub record TakesEdge (n : ℕ) (v : BitTable) (a b : ℕ) : Type 0 where
  pub no_cycle : leads_to v b a ≡ false
  pub transitive : (x z y : ℕ) → x < n → z < n → y < 64 * v.words
      → bit_now v x z ≡ true → leads_to v z y ≡ true → bit_now v x y ≡ true
  pub ends : bit_now v a b ≡ true → (bit_now v (present_row n) a ≡ true) × (bit_now v (present_row n) b ≡ true)

-- the rows can take the literal
abbrev pub Takes : ℕ → Literal ℕ → BitTable → Type 0
Takes n (Node a) v = Unit {0}
Takes n (Edge a b) v = TakesEdge n v a b
Takes n (NoNode a) v = Unit {0}
Takes n (NoEdge a b) v = Unit {0}

-- row x gains by an edge from a to b: x comes to a, and not yet to b
abbrev pub gains : BitTable → ℕ → ℕ → ℕ → Bool
gains v a b x = leads_to v x a && not (bit_now v x b)

-- how many words the rows below k can change, where each that gains changes at most so many
abbrev pub words_gained : BitTable → ℕ → ℕ → ℕ → ℕ → ℕ
words_gained v a b each zero = 0
words_gained v a b each (suc k) = words_gained v a b each k + (if gains v a b k then each else 0)

-- a row takes the bit of a node that reaches nothing, or that of one with all that it reaches
abbrev pub row_words : BitTable → Bool → ℕ
row_words v is_sink = if is_sink then 1 else v.words + 1

-- x comes to the start of the edge from a to b, or is it, and y comes from its end, or is it
abbrev pub IsOver : BitTable → ℕ → ℕ → ℕ → ℕ → Type 0
IsOver v a b x y = (leads_to v x a ≡ true) × (leads_to v b y ≡ true)

-- x is denied to come before b, or before a node that b reaches
abbrev pub IsDeniedPast : ℕ → BitTable → ℕ → ℕ → Type 0
IsDeniedPast n v x b = (y : ℕ) × (y < 64 * v.words) × (leads_to v b y ≡ true) × (bit_now v (pair_row n x) y ≡ true)

abbrev pub IsDeniedNowherePast : ℕ → BitTable → ℕ → ℕ → Type 0
IsDeniedNowherePast n v x b = (y : ℕ) → y < 64 * v.words → leads_to v b y ≡ true → bit_now v (pair_row n x) y ≡ false

-- the edge from a to b joins a pair that the rows deny
abbrev pub JoinsDenied : ℕ → BitTable → ℕ → ℕ → Type 0
JoinsDenied n v a b =
    (x : ℕ) × (y : ℕ) × (x < n) × (y < 64 * v.words) × IsOver v a b x y × (bit_now v (pair_row n x) y ≡ true)

-- of the nodes from i on to below j, from which a pair is denied by their bit, it joins none
abbrev pub JoinsNoneFrom : ℕ → BitTable → ℕ → ℕ → ℕ → ℕ → Type 0
JoinsNoneFrom n v a b i j = (x y : ℕ) → i ≤ x → x < j → x < n → y < 64 * v.words → bit_now v (denier_row n) x ≡ true
    → IsOver v a b x y → bit_now v (pair_row n x) y ≡ false
