-- One turn of a descent, and its end.
use Rattle.std.proofs.Common.{◌≡◌, ◌≤◌, ◌<◌, ℕ, ◌+◌, List, [], ◌∷◌, ◌++◌, reverse, length, ap, ◌∙◌, arith, append_assoc}
use Rattle.std.{proofs.lemmas.List.{reverse-append}, specs.Prelude.{All}}
use Rattle.pc_common.{specs.{World.{Node}, Steps.{Step, split}}, proofs.Elements.{contains_from_in}}
use Rattle.pc_ground.specs.{declared.{row.Row.{Row}, version.Version.{Version}}, Tree.{Tree, size_of}}
use Rattle.pc_ground.specs.Refutes.{Branch, Signed, signed, literals_of, left_branch, right_branch}
use Rattle.refutation.specs.Steps.{open_branches}
use Rattle.order_graph.specs.{State.{Graph}, Clashes.{leaf_of, IsClash}, declared.clash.Clash.{Clash}}
use Rattle.solver.specs.{Spelled.{spelled, IsSpelled}, Below.{IsRowBelow}, Renamed.{tree_over}}
use Rattle.solver.specs.{Places.{side_positions, IsCandidate, AreSides}, Leaves.{IsClashBelow}}
use Rattle.solver.specs.{Opens.{positions, waiting, IsLater, opens, KeepsState, state_of, IsSame}, Numbered.{Numbered}}
use Rattle.solver.specs.{Branches.{branches_with, HasOpenBranch}, declared.{search.branch.Branch.{Branch as OpenBranch}, tree.place.Place.{Place}, tree.side.Side.{Side}}}
use Rattle.solver.{specs.{declared.search.later.Later.{Later}, Weights.{weight}, Descents.{IsLonger, HasMore}}, proofs.Runs.{open_partial}}
use Rattle.solver.proofs.{ClashLeaf.{leaf_below, literals_below}, KeepsState.{split_kept, opens_split}, Weight.{weight_more, weight_split}}

pub clash_in : (n : ℕ) (rows : List (Row ℕ)) (ps : Branch) (k : Clash) → IsSpelled rows → All (IsRowBelow n) rows
    → IsClash (literals_of (spelled rows) ps) k → IsClashBelow n k
clash_in n rows ps k flat all c = leaf_below n (literals_of (spelled rows) ps) (leaf_of k) (literals_below n rows ps flat all) c

pub one_open : (v : Version) (t : Numbered) (b : OpenBranch) (more : Branch) → HasOpenBranch v t b more → 0 < open_branches b.refutation
one_open v t b more kept = omega (arith, open_partial v (tree_over t.nodes (spelled t.rows)) b.refutation (branches_with t b more) kept.partial)

pub longer_push : (old mid new : List (Step Node)) (s : Step Node) → IsLonger old mid → new ≡ mid ++ s ∷ [] → IsLonger old new
longer_push old mid new s (more, e) f = (more ++ s ∷ [], f ∙ ap (λ xs. xs ++ s ∷ []) e ∙ append_assoc old more (s ∷ []))

pub more_longer : (old mid new : List (Step Node)) (s : Step Node) → mid ≡ old ++ s ∷ [] → IsLonger mid new → HasMore old new
more_longer old mid new s e (more, f) = (s, more, f ∙ ap (λ xs. xs ++ more) e ∙ append_assoc old (s ∷ []) more)

-- what the branches weigh once the first is closed
pub lighter_closed : (t : Tree ℕ) (all rest : List Branch) (ps : Branch) (most : ℕ) → all ≡ ps ∷ rest → weight t all ≤ most → weight t rest ≤ most
lighter_closed t all rest ps most e h = (let less = weight_more t ps rest in omega (arith, less, ap (weight t) e, h))

-- the waiting side's root is inside, and its mark is live
pub next_inside : (v : Version) (t : Numbered) (b : OpenBranch) (more : Branch) (ms : List Later) (l : Later)
    → HasOpenBranch v t b more → b.later.items ≡ ms ++ l ∷ []
    → IsLater (spelled t.rows) (positions b.asserted) b.graph.marks l
next_inside v t b more ms l kept popped =
    (rw (ap reverse popped ∙ reverse-append ms (l ∷ [])) at kept.waits).0

-- the branches weigh less once the candidate is split
pub lighter_split : (v : Version) (t : Tree ℕ) (here there : List Place) (ls ms : List Later) (l : Later) (q : Signed) (c : Side × Side)
    → (candidate : IsCandidate t (positions here) q) → there ≡ here
    → AreSides v t q c → l.count ≡ length here → l.side ≡ c.1 → ms ≡ ls ++ l ∷ []
    → weight t (opens t (positions there ++ side_positions t c.0) there ms) < weight t (opens t (positions here) here ls)
lighter_split v t here there ls ms l q c candidate same are count side pushed =
    let ps = positions here in
    let n = q.negated in
    let p = q.position in
    let a = candidate.left in
    let b = candidate.right in
    let sides = are a b candidate.is_or in
    let less = weight_split v t ps (waiting t ps (reverse ls)) n p a b candidate.is_or
    (λ i. candidate.no_left (contains_from_in (signed n (p + 1)) ps i)) (λ i. candidate.no_right (contains_from_in (signed n (p + 1 + size_of a)) ps i)) in
    let all : opens t (positions there ++ side_positions t c.0) there ms ≡ left_branch ps n p a ∷ right_branch v ps n p a b ∷ waiting t ps (reverse ls) =
    ap (λ xs. opens t (positions xs ++ side_positions t c.0) xs ms) same ∙ ap (λ z. opens t (ps ++ side_positions t z) here ms) sides.0
    ∙ opens_split v t here ls ms l n p a b candidate.is_or count (side ∙ sides.1) pushed in
    omega (arith, less, ap (weight t) all)

-- the mark is made, the trials are over, and the candidate is split
pub advanced : (v : Version) (nodes : List Node) (t : Tree ℕ) (g h i : Graph) (here there : List Place) (ls ms : List Later)
    (ss us : List (Step Node)) (l : Later) (q : Signed) (c : Side × Side)
    → KeepsState v (state_of nodes t g here ls ss) [] → IsCandidate t (positions here) q → h ≡ record g { marks = g.marks ++ length g.literals ∷ [] }
    → IsSame h i → there ≡ here
    → AreSides v t q c → l.count ≡ length here → l.mark ≡ length g.marks → l.side ≡ c.1 → ms ≡ ls ++ l ∷ [] → us ≡ ss ++ split q.negated q.position ∷ []
    → KeepsState v (state_of nodes t i there ms us) (side_positions t c.0)
advanced v nodes t g h i here there ls ms ss us l q c kept candidate e same e_there are count mark side pushed steps =
    let sides = are candidate.left candidate.right candidate.is_or in
    let next = split_kept v nodes t g i here ls ms ss us l q.negated q.position candidate.left candidate.right kept candidate.on_branch candidate.is_or
    (same.same_literals ∙ ap (λ (x : Graph). x.literals) e) (same.same_nodes ∙ ap (λ (x : Graph). x.nodes) e)
    (same.same_marks ∙ ap (λ (x : Graph). x.marks) e) count mark (side ∙ sides.1) pushed steps in
    rw (e_there, sides.0) next
