-- The steps of a refutation so far, with a split or a leaf put last.
use Rattle.std.proofs.Common.{◌≡◌, ℕ, ◌+◌, ◌-◌, Bool, false, List, [], ◌∷◌, ◌++◌, Some, length, refl, sym, ap, ◌∙◌, subst, arith}
use Rattle.std.specs.Prelude.{Contains, fold}
use Rattle.pc_common.specs.{World.{Node}, Steps.{Leaf, Step, split, close}}
use Rattle.pc_ground.specs.{Tree.{Tree, either, turned}, declared.version.Version.{Version}}
use Rattle.pc_ground.specs.Refutes.{Branch, signed, all_signed, subtree_at, asserted, literals_of, Closes, left_branch, right_branch, Runs, IsPartial}
use Rattle.refutation.specs.Steps.{open_after, open_branches}

pub runs_append : {N : Type 0} (v : Version) (t : Tree N) (ss us : List (Step N)) (opens mid rest : List Branch) → Runs v t ss opens mid → Runs v t us mid rest
    → Runs v t (ss ++ us) opens rest
runs_append {N} v t [] us opens mid rest e r = let P : List Branch → Type 0 = λ o. Runs v t us o rest in subst P (sym e) r
runs_append v t (s ∷ ss) us [] mid rest e r = absurd e
runs_append v t (split n p ∷ ss) us (ps ∷ opens) mid rest e r =
    (e.0, e.1, e.2, runs_append v t ss us (left_branch ps n p e.0 ∷ right_branch v ps n p e.0 e.1 ∷ opens) mid rest e.3 r)
runs_append v t (close l ∷ ss) us (ps ∷ opens) mid rest e r = (e.0, runs_append v t ss us opens mid rest e.1 r)

-- how many branches the steps leave open
pub open_run : (v : Version) (t : Tree Node) (ss : List (Step Node)) (opens rest : List Branch) → Runs v t ss opens rest
    → fold open_after (length opens) ss ≡ length rest
open_run v t [] opens rest e = ap length e
open_run v t (s ∷ ss) [] rest e = absurd e
open_run v t (split n p ∷ ss) (ps ∷ opens) rest e =
    let more : length (ps ∷ opens) + 1 ≡ length (left_branch ps n p e.0 ∷ right_branch v ps n p e.0 e.1 ∷ opens) = omega arith in
    ap (λ k. fold open_after k ss) more ∙ open_run v t ss (left_branch ps n p e.0 ∷ right_branch v ps n p e.0 e.1 ∷ opens) rest e.3
open_run v t (close l ∷ ss) (ps ∷ opens) rest e =
    let less : length (ps ∷ opens) - 1 ≡ length opens = omega arith in
    ap (λ k. fold open_after k ss) less ∙ open_run v t ss opens rest e.1

pub open_partial : (v : Version) (t : Tree Node) (ss : List (Step Node)) (opens : List Branch) → IsPartial v t ss opens → open_branches ss ≡ length opens
open_partial v t ss opens run = open_run v t ss (all_signed false (asserted t 0) ∷ []) opens run

-- a split of the first open branch
pub runs_split : {N : Type 0} (v : Version) (t : Tree N) (ss : List (Step N)) (ps : Branch) (opens : List Branch) (n : Bool) (p : ℕ) (a b : Tree N)
    → IsPartial v t ss (ps ∷ opens) → Contains ps (signed n p) → subtree_at (turned n t) p ≡ Some (either a b)
    → IsPartial v t (ss ++ split n p ∷ []) (left_branch ps n p a ∷ right_branch v ps n p a b ∷ opens)
runs_split v t ss ps opens n p a b run on at =
    runs_append v t ss (split n p ∷ []) (all_signed false (asserted t 0) ∷ []) (ps ∷ opens) (left_branch ps n p a ∷ right_branch v ps n p a b ∷ opens)
    run (a, b, (on, at), refl)

-- a leaf that closes the first open branch
pub runs_close : {N : Type 0} (v : Version) (t : Tree N) (ss : List (Step N)) (ps : Branch) (opens : List Branch) (l : Leaf N)
    → IsPartial v t ss (ps ∷ opens) → Closes t (literals_of t ps) l → IsPartial v t (ss ++ close l ∷ []) opens
runs_close v t ss ps opens l run c =
    runs_append v t ss (close l ∷ []) (all_signed false (asserted t 0) ∷ []) (ps ∷ opens) opens run (c, refl)
