-- Runs of step lines: one after another, cut in two, and that they lead to one list of branches.
use Rattle.std.proofs.Common.{◌≡◌, ℕ, List, [], ◌∷◌, ◌++◌, refl, sym, ◌∙◌, subst}
use Rattle.pc_common.specs.Case.{Case}
use Rattle.lifted_facts.{specs.{PlainFacts.{Branch}, Lifted.{LiftedStep, Advances, Runs}}, proofs.RunLaws.{advances_one}}
use Rattle.lifted_check.{specs.{LiftedTexts.{LineAdvances, LinesRun}, Stages.{IsCase}}, proofs.OneStep.{one_step}}

pub lines_then : (c : Case) (xs ys : List (List ℕ)) (opens mid rest : List Branch) → LinesRun c xs opens mid
    → LinesRun c ys mid rest → LinesRun c (xs ++ ys) opens rest
lines_then c [] ys opens mid rest r q = (let P : List Branch → Type 0 = λ bs. LinesRun c ys bs rest in subst P (sym r) q)
lines_then c (x ∷ xs) ys opens mid rest r q = (r.0, r.1, lines_then c xs ys r.0 mid rest r.2 q)

pub lines_cut : (c : Case) (xs ys : List (List ℕ)) (opens rest : List Branch) → LinesRun c (xs ++ ys) opens rest
    → (mid : List Branch) × LinesRun c xs opens mid × LinesRun c ys mid rest
lines_cut c [] ys opens rest r = (opens, refl, r)
lines_cut c (x ∷ xs) ys opens rest r = (let q = lines_cut c xs ys r.0 rest r.2 in (q.0, (r.0, r.1, q.1), q.2))

pub line_one : (c : Case) → IsCase c → (line : List ℕ) (opens one other : List Branch) → LineAdvances c line opens one
    → LineAdvances c line opens other → one ≡ other
line_one c kept line opens one other x y =
    let same : y.0 ≡ x.0 = one_step c.ops kept line y.0 x.0 y.1 x.1 in
    let P : LiftedStep → Type 0 = λ s. Advances c s opens other in
    advances_one c x.0 opens one other x.2 (subst P same y.2)

pub lines_one : (c : Case) → IsCase c → (lines : List (List ℕ)) (opens one other : List Branch) → LinesRun c lines opens one
    → LinesRun c lines opens other → one ≡ other
lines_one c kept [] opens one other x y = sym x ∙ y
lines_one c kept (l ∷ ls) opens one other x y =
    lines_one c kept ls x.0 one other x.2 (let P : List Branch → Type 0 = λ bs. LinesRun c ls bs other in subst P (line_one c kept l opens y.0 x.0 y.1 x.1) y.2)

-- the steps of lines
pub steps_of : (c : Case) (lines : List (List ℕ)) (opens rest : List Branch) → LinesRun c lines opens rest → (ss : List LiftedStep) × Runs c ss opens rest
steps_of c [] opens rest r = ([], r)
steps_of c (l ∷ ls) opens rest r = (let q = steps_of c ls r.0 rest r.2 in (r.1.0 ∷ q.0, (r.0, r.1.2, q.1)))
