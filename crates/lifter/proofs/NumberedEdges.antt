-- Numbers of edges that are known lead along their nodes.
use Rattle.std.{proofs.Common.{◌≡◌, ℕ, List, [], ◌∷◌, ◌++◌, refl}, specs.Prelude.{Result, Ok, Err, OnOk, is_ok, if◌then◌else◌}}
use Rattle.pc_common.{specs.{Case.{Case}, World.{Node}}, proofs.Elements.{In}}
use Rattle.pc_ground.specs.declared.row.Row.{Row}
use Rattle.lifted_facts.specs.{PlainFacts.{Branch}, Lifted.{LiftedLeaf, close, cycle, path, absent, Follows, Closes}}
use Rattle.refutation.specs.BranchFacts.{edge, no_edge, no_node, present}
use Rattle.lifter.specs.{declared.state.State.{State}, KnownFacts.{Entry, entry, AreKnown, AreNumbers}, States.{branch_of}}
use Rattle.lifter.specs.Progress.{HasClosedBy}

module _ (c : Case) (rows : List (Row Node)) (b : Branch) (es : List Entry) (known : AreKnown c rows b es) where
  pub follows_along : (x : Node) (via : List Node) (y : Node) (ks : List ℕ) → AreNumbers es x (via ++ y ∷ []) ks → Follows b x ks y
  follows_along x [] y [] h = elim h [ ]
  follows_along x [] y (k ∷ []) h = (y, known (edge x y) k h.0, refl)
  follows_along x [] y (k ∷ j ∷ ks) h = elim h.1 [ ]
  follows_along x (v ∷ via) y [] h = elim h [ ]
  follows_along x (v ∷ via) y (k ∷ ks) h = (v, known (edge x v) k h.0, follows_along v via y ks h.1)

  pub cycle_closes : (x : Node) (via : List Node) (k : ℕ) (ks : List ℕ) → AreNumbers es x (via ++ x ∷ []) (k ∷ ks) → Closes c b (cycle k ks)
  cycle_closes x via k ks h = (x, follows_along x via x (k ∷ ks) h)

  pub path_closes : (x : Node) (via : List Node) (y : Node) (k : ℕ) (ks : List ℕ) (denial : ℕ) → AreNumbers es x (via ++ y ∷ []) (k ∷ ks)
      → In (entry (no_edge x y) denial) es
      → Closes c b (path k ks denial)
  path_closes x via y k ks denial h d = (x, y, follows_along x via y (k ∷ ks) h, known (no_edge x y) denial d)

  pub absent_closes : (a : Node) (denial k : ℕ) → In (entry (no_node a) denial) es → In (entry (present a) k) es → Closes c b (absent denial k)
  absent_closes a denial k d p = (let f = known (present a) k p in (a, f.0, known (no_node a) denial d, f.1, f.2))

-- the state with a leaf more
pub added_leaf : {T E : Type 0} (r : Result T E) (old new : State) (l : LiftedLeaf) → new.facts.items ≡ old.facts.items
    → new.known ≡ old.known → new.later.items ≡ old.later.items
    → new.steps ≡ (if is_ok r then old.steps ++ close l ∷ [] else old.steps)
    → ((c : Case) (rows : List (Row Node)) → AreKnown c rows (branch_of old) old.known → Closes c (branch_of old) l) → OnOk r (HasClosedBy old new)
added_leaf (Ok x) old new l facts known later is closes = record { facts = facts; known = known; later = later; closes = λ c rows h. (l, closes c rows h, is) }
added_leaf (Err e) old new l facts known later is closes = tt
