-- The steps that a judge has followed, with the branches that it stands for.
use Rattle.std.proofs.Common.{◌≡◌, Bool, true, false, List, [], ◌∷◌, ◌++◌, refl, subst}
use Rattle.pc_common.specs.{World.{Node}, Steps.{Step}}
use Rattle.pc_ground.specs.{declared.version.Version.{Version}, Tree.{Tree}, Refutes.{Branch, all_signed, asserted, IsPartial, IsRefutation}}
use Rattle.tree_check.{specs.OpenBranches.{OpenBranches, Stands, HasStepped}, proofs.Runs.{runs_then}}

abbrev root : Tree Node → List Branch
root t = all_signed false (asserted t 0) ∷ []

pub record AreFollowed (v : Version) (t : Tree Node) (steps : List (Step Node)) (o : OpenBranches) : Type 0 where
  pub opens : List Branch
  pub partial : IsPartial v t steps opens
  pub stands : Stands o v t opens

pub none_followed : (v : Version) (t : Tree Node) (o : OpenBranches) → Stands o v t (all_signed false (asserted t 0) ∷ []) → AreFollowed v t [] o
none_followed v t o st = record { opens = root t; partial = refl; stands = st }

pub next_followed : (v : Version) (t : Tree Node) (steps : List (Step Node)) (s : Step Node) (old new : OpenBranches) (good : Bool)
    → AreFollowed v t steps old → good ≡ true → ((opens : List Branch) → Stands old v t opens → HasStepped v t s opens new good)
    → AreFollowed v t (steps ++ s ∷ []) new
next_followed v t steps s old new good before is step =
    let P : Bool → Type 0 = λ b. HasStepped v t s before.opens new b in
    let next = subst P is (step before.opens before.stands) in
    record { opens = next.0; partial = runs_then v t steps (s ∷ []) (root t) before.opens next.0 before.partial next.1; stands = next.2 }

-- they leave no branch open
pub all_followed : (v : Version) (t : Tree Node) (steps : List (Step Node)) (o : OpenBranches) → AreFollowed v t steps o
    → ((opens : List Branch) → Stands o v t opens → opens ≡ []) → IsRefutation v t steps
all_followed v t steps o all closed =
    let Q : List Branch → Type 0 = λ opens. IsPartial v t steps opens in
    subst Q (closed all.opens all.stands) all.partial
