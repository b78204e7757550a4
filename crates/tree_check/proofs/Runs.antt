-- Steps that lead from branches to branches: in two parts, and to one list.
use Rattle.std.proofs.Common.{◌≡◌, ℕ, List, [], ◌∷◌, ◌++◌, Some, refl, sym, ◌∙◌, subst}
use Rattle.pc_common.specs.{World.{Node}, Steps.{Step, split, close}}
use Rattle.pc_ground.specs.{declared.version.Version.{Version}, Tree.{Tree, either, turned}, Refutes.{Branch, subtree_at, left_branch, right_branch, Runs}}
use Rattle.pc_ground.proofs.StageWalks.{some_same}

pub runs_then : (v : Version) (t : Tree Node) (xs ys : List (Step Node)) (a b c : List Branch) → Runs v t xs a b → Runs v t ys b c → Runs v t (xs ++ ys) a c
runs_then v t [] ys a b c e r = (let P : List Branch → Type 0 = λ o. Runs v t ys o c in subst P (sym e) r)
runs_then v t (split n p ∷ xs) ys [] b c e r = absurd e
runs_then v t (close l ∷ xs) ys [] b c e r = absurd e
runs_then v t (split n p ∷ xs) ys (ps ∷ opens) b c e r =
    (e.0, e.1, e.2, runs_then v t xs ys (left_branch ps n p e.0 ∷ right_branch v ps n p e.0 e.1 ∷ opens) b c e.3 r)
runs_then v t (close l ∷ xs) ys (ps ∷ opens) b c e r = (e.0, runs_then v t xs ys opens b c e.1 r)

pub runs_cut : (v : Version) (t : Tree Node) (xs ys : List (Step Node)) (a c : List Branch) → Runs v t (xs ++ ys) a c
    → (b : List Branch) × Runs v t xs a b × Runs v t ys b c
runs_cut v t [] ys a c r = (a, refl, r)
runs_cut v t (split n p ∷ xs) ys [] c r = absurd r
runs_cut v t (close l ∷ xs) ys [] c r = absurd r
runs_cut v t (split n p ∷ xs) ys (ps ∷ opens) c r =
    let rest = runs_cut v t xs ys (left_branch ps n p r.0 ∷ right_branch v ps n p r.0 r.1 ∷ opens) c r.3 in
    (rest.0, (r.0, r.1, r.2, rest.1), rest.2)
runs_cut v t (close l ∷ xs) ys (ps ∷ opens) c r = (let rest = runs_cut v t xs ys opens c r.1 in (rest.0, (r.0, rest.1), rest.2))

-- an Or has one pair of sides
sides_one : (t : Tree Node) (p : ℕ) (a b c d : Tree Node) → subtree_at t p ≡ Some (either a b) → subtree_at t p ≡ Some (either c d) → (a ≡ c) × (b ≡ d)
sides_one t p a b c d e f =
    let same : either a b ≡ either c d = some_same (sym e ∙ f) in
    ((let left : a ≡ c = cc in left), (let right : b ≡ d = cc in right))

pub runs_one : (v : Version) (t : Tree Node) (ss : List (Step Node)) (a b c : List Branch) → Runs v t ss a b → Runs v t ss a c → b ≡ c
runs_one v t [] a b c e f = sym e ∙ f
runs_one v t (split n p ∷ ss) [] b c e f = absurd e
runs_one v t (close l ∷ ss) [] b c e f = absurd e
runs_one v t (split n p ∷ ss) (ps ∷ opens) b c e f =
    let sides = sides_one (turned n t) p f.0 f.1 e.0 e.1 f.2.1 e.2.1 in
    let P : Tree Node → Tree Node → Type 0 = λ x y. Runs v t ss (left_branch ps n p x ∷ right_branch v ps n p x y ∷ opens) c in
    let same : P e.0 e.1 = subst (P e.0) sides.1 (subst (λ x. P x f.1) sides.0 f.3) in
    runs_one v t ss (left_branch ps n p e.0 ∷ right_branch v ps n p e.0 e.1 ∷ opens) b c e.3 same
runs_one v t (close l ∷ ss) (ps ∷ opens) b c e f = runs_one v t ss opens b c e.1 f.1
