-- The nodes that a refutation's steps name are nodes of its tree; and the text of steps and lines, part by part.
use Rattle.std.proofs.Common.{◌≡◌, ℕ, zero, suc, ◌-◌, ◌⊎◌, inl, inr, Bool, true, false, List, [], ◌∷◌, ◌++◌, Option, map, refl, sym, ◌∙◌, ap, subst}
use Rattle.std.{proofs.lemmas.List.{Elements.{All-nil, All-cons}, Concat.{flat_map-append}}, specs.Prelude.{All, Contains, nat_lt, if◌then◌else◌}}
use Rattle.std.specs.List.{flat_map}
use Rattle.pc_common.specs.{World.{Node}, Chain.{Leads}, Steps.{Leaf, cycle, path, absent, false_step, Step, split, close}}
use Rattle.pc_common.specs.Lines.{Names, Line, step as step_line, line_text, lines_text}
use Rattle.pc_common.proofs.Elements.{In, in_from_contains, contains_from_in, in_front, in_back, in_either, from_flat}
use Rattle.pc_ground.specs.declared.{literal.Literal.{Literal, TheVariants.{Node as a_node, Edge, NoNode, NoEdge}}, version.Version.{Version}}
use Rattle.pc_ground.specs.{Tree.{Tree, always, never, leaf, both, either, contrary, negation, turned, size_of}, Literals.{Joins}}
use Rattle.pc_ground.specs.{Numbers.{nodes_of_literal, nodes_of_tree}, NodeForm.{IsNodeIn}}
use Rattle.pc_ground.specs.Refutes.{subtree_at, all_signed, part_at, Branch, literal_of, literals_of, IsContradiction, a_cycle, a_path, an_absence, Closes, a_contradiction, a_falsity, Runs, asserted, IsRefutation}
use Rattle.refutation.specs.Steps.{step_text, IsLeafIn, IsStepIn}

-- each node that the leaf names has P
abbrev pub LeafHas : {N : Type 0} → (N → Type 0) → Leaf N → Type 0
LeafHas P (cycle nodes) = All P nodes
LeafHas P (path nodes) = All P nodes
LeafHas P (absent a) = P a
LeafHas P false_step = Unit {0}

-- each node that the step names has P
abbrev pub StepHas : {N : Type 0} → (N → Type 0) → Step N → Type 0
StepHas P (split negated p) = Unit {0}
StepHas P (close l) = LeafHas P l

contrary_nodes : {N : Type 0} (l : Literal N) → nodes_of_literal (contrary l) ≡ nodes_of_literal l
contrary_nodes (a_node a) = refl
contrary_nodes (Edge a b) = refl
contrary_nodes (NoNode a) = refl
contrary_nodes (NoEdge a b) = refl

-- a tree and its negation have one list of nodes
negation_nodes : {N : Type 0} (t : Tree N) → nodes_of_tree (negation t) ≡ nodes_of_tree t
negation_nodes always = refl
negation_nodes never = refl
negation_nodes (leaf l) = contrary_nodes l
negation_nodes (both a b) = ap (λ xs. xs ++ nodes_of_tree (negation b)) (negation_nodes a) ∙ ap (λ ys. nodes_of_tree a ++ ys) (negation_nodes b)
negation_nodes (either a b) = ap (λ xs. xs ++ nodes_of_tree (negation b)) (negation_nodes a) ∙ ap (λ ys. nodes_of_tree a ++ ys) (negation_nodes b)

turned_nodes : {N : Type 0} (n : Bool) (t : Tree N) → nodes_of_tree (turned n t) ≡ nodes_of_tree t
turned_nodes false t = refl
turned_nodes true t = negation_nodes t

-- the literal at one of two positions
literal_either : {N : Type 0} (b : Bool) (o q : Option (Tree N)) (l : Literal N) → In l (literal_of (if b then o else q))
    → In l (literal_of o) ⊎ In l (literal_of q)
literal_either true o q l i = inl i
literal_either false o q l i = inr i

-- a node of a literal that stands in the tree is a node of the tree
node_at : {N : Type 0} (t : Tree N) (p : ℕ) (l : Literal N) → In l (literal_of (subtree_at t p)) → (a : N) → In a (nodes_of_literal l) → In a (nodes_of_tree t)
node_at always zero l i a j = elim i [ ]
node_at never zero l i a j = elim i [ ]
node_at {N} (leaf m) zero l (inl same) a j = (let P : Literal N → Type 0 = λ k. In a (nodes_of_literal k) in subst P (sym same) j)
node_at (leaf m) zero l (inr i) a j = elim i [ ]
node_at (both x y) zero l i a j = elim i [ ]
node_at (either x y) zero l i a j = elim i [ ]
node_at always (suc p) l i a j = elim i [ ]
node_at never (suc p) l i a j = elim i [ ]
node_at (leaf m) (suc p) l i a j = elim i [ ]
node_at (both x y) (suc p) l i a j =
    elim (literal_either (nat_lt p (size_of x)) (subtree_at x p) (subtree_at y (p - size_of x)) l i) [
      | inl k ↦ in_front a (nodes_of_tree x) (nodes_of_tree y) (node_at x p l k a j)
      | inr k ↦ in_back a (nodes_of_tree x) (nodes_of_tree y) (node_at y (p - size_of x) l k a j)
    ]
node_at (either x y) (suc p) l i a j =
    elim (literal_either (nat_lt p (size_of x)) (subtree_at x p) (subtree_at y (p - size_of x)) l i) [
      | inl k ↦ in_front a (nodes_of_tree x) (nodes_of_tree y) (node_at x p l k a j)
      | inr k ↦ in_back a (nodes_of_tree x) (nodes_of_tree y) (node_at y (p - size_of x) l k a j)
    ]

-- so is a node of a literal that is asserted on a branch
node_on : {N : Type 0} (t : Tree N) (ps : Branch) (l : Literal N) → Contains (literals_of t ps) l → (a : N) → In a (nodes_of_literal l) → In a (nodes_of_tree t)
node_on {N} t ps l has a j =
    let r = from_flat (λ q. literal_of (part_at t q)) l ps (in_from_contains l (literals_of t ps) has) in
    let P : List N → Type 0 = λ ns. In a ns in
    subst P (turned_nodes r.0.negated t) (node_at (turned r.0.negated t) r.0.position l r.2 a j)

all_in : {X : Type 0} (P : X → Type 0) (xs : List X) → ((x : X) → In x xs → P x) → All P xs
all_in P [] each = All-nil P
all_in P (x ∷ xs) each = All-cons P x xs (each x (inl refl)) (all_in P xs (λ y i. each y (inr i)))

-- each node of the literals has P
abbrev AllHave : {N : Type 0} → (N → Type 0) → List (Literal N) → Type 0
AllHave {N} P ls = (l : Literal N) → Contains ls l → (a : N) → In a (nodes_of_literal l) → P a

-- the nodes of a chain of asserted edges, but for its last
chain_has : {N : Type 0} (P : N → Type 0) (ls : List (Literal N)) → AllHave P ls → (a : N) (via : List N) (b : N) → Leads (Joins ls) a via b → (x : N)
    → In x (a ∷ via) → P x
chain_has P ls h a [] b joins x (inl e) = subst P e (h (Edge a b) joins a (inl refl))
chain_has P ls h a [] b joins x (inr i) = elim i [ ]
chain_has P ls h a (y ∷ ys) b leads x (inl e) = subst P e (h (Edge a y) leads.0 a (inl refl))
chain_has P ls h a (y ∷ ys) b leads x (inr i) = chain_has P ls h y ys b leads.1 x i

-- a chain with its last node, which a denied edge names
path_has : {N : Type 0} (P : N → Type 0) (ls : List (Literal N)) → AllHave P ls → (a : N) (via : List N) (b : N) → Leads (Joins ls) a via b
    → Contains ls (NoEdge a b)
    → (x : N) → In x (a ∷ (via ++ b ∷ [])) → P x
path_has P ls h a via b leads has x (inl e) = chain_has P ls h a via b leads x (inl e)
path_has P ls h a via b leads has x (inr i) =
    elim (in_either x via (b ∷ []) i) [
      | inl j ↦ chain_has P ls h a via b leads x (inr j)
      | inr j ↦ elim j [ inl e ↦ subst P e (h (NoEdge a b) has b (inr (inl refl))) | inr none ↦ absurd none ]
    ]

-- a leaf that closes a branch
contradicts_has : {N : Type 0} (P : N → Type 0) (ls : List (Literal N)) → AllHave P ls → (s : Leaf N) → IsContradiction ls s → LeafHas P s
contradicts_has P ls h s (a_cycle a via leads) = all_in P (a ∷ via) (chain_has P ls h a via a leads)
contradicts_has P ls h s (a_path a via b leads has) = all_in P (a ∷ (via ++ b ∷ [])) (path_has P ls h a via b leads has)
contradicts_has P ls h s (an_absence a has present) = h (NoNode a) has a (inl refl)

closes_has : {N : Type 0} (P : N → Type 0) (t : Tree N) (ls : List (Literal N)) → AllHave P ls → (s : Leaf N) → Closes t ls s → LeafHas P s
closes_has P t ls h s (a_contradiction c) = contradicts_has P ls h s c
closes_has P t ls h s (a_falsity same) = tt

pub runs_have : {N : Type 0} (P : N → Type 0) (v : Version) (t : Tree N) → ((a : N) → In a (nodes_of_tree t) → P a)
    → (steps : List (Step N)) (opens rest : List Branch)
    → Runs v t steps opens rest → All (StepHas P) steps
runs_have P v t each [] opens rest r = All-nil (StepHas P)
runs_have P v t each (s ∷ ss) [] rest r = absurd r
runs_have P v t each (split n p ∷ ss) (ps ∷ opens) rest r = All-cons (StepHas P) (split n p) ss tt (runs_have P v t each ss _ rest r.3)
runs_have P v t each (close l ∷ ss) (ps ∷ opens) rest r =
    All-cons (StepHas P) (close l) ss (closes_has P t (literals_of t ps) (λ m has a i. each a (node_on t ps m has a i)) l r.0)
    (runs_have P v t each ss opens rest r.1)

-- what each node of the tree has, each node has that a refutation's steps name
pub refutation_nodes : {N : Type 0} (v : Version) (t : Tree N) (steps : List (Step N)) → IsRefutation v t steps → (P : N → Type 0)
    → ((a : N) → Contains (nodes_of_tree t) a → P a) → All (StepHas P) steps
refutation_nodes v t steps r P each =
    runs_have P v t (λ a i. each a (contains_from_in a (nodes_of_tree t) i)) steps (all_signed false (asserted t 0) ∷ []) [] r

leaf_in : (names : Names) (l : Leaf Node) → LeafHas (IsNodeIn names) l → IsLeafIn names l
leaf_in names (cycle nodes) h = h
leaf_in names (path nodes) h = h
leaf_in names (absent a) h = h
leaf_in names false_step h = tt

pub step_in : (names : Names) (s : Step Node) → StepHas (IsNodeIn names) s → IsStepIn names s
step_in names (split n p) h = tt
step_in names (close l) h = leaf_in names l h

pub refutation_in : (names : Names) (v : Version) (t : Tree Node) (steps : List (Step Node)) → IsRefutation v t steps
    → ((a : Node) → Contains (nodes_of_tree t) a → IsNodeIn names a) → All (IsStepIn names) steps
refutation_in names v t steps r each k d inside = step_in names _ (refutation_nodes v t steps r (IsNodeIn names) each k d inside)

-- the text of steps is the text of their lines
pub steps_text : (names : Names) (steps : List (Step Node)) → flat_map (step_text names) steps ≡ lines_text names (map step_line steps)
steps_text names [] = refl
steps_text names (s ∷ ss) = ap (λ text. line_text names (step_line s) ++ text) (steps_text names ss)

pub lines_append : (names : Names) (xs ys : List Line) → lines_text names (xs ++ ys) ≡ lines_text names xs ++ lines_text names ys
lines_append names xs ys = flat_map-append (line_text names) xs ys
