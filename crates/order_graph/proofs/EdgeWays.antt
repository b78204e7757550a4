-- Ways a node at a time, and what levels say of them.
use Rattle.std.proofs.Common.{◌≡◌, ◌≢◌, ℕ, ◌+◌, ◌<◌, inl, inr, List, [], ◌∷◌, ◌++◌, length, get_or, refl, sym, ◌∙◌, ap, subst, arith}
use Rattle.std.specs.Prelude.{slice_index, Contains}
use Rattle.pc_ground.specs.{declared.literal.Literal.{Literal, TheVariants.{Edge}}, Literals.{Joins}}
use Rattle.order_graph.specs.{Ways.{Follows, IsWay}, Levels.{HasNext, far}}

follows_more : (R : ℕ → ℕ → Type 0) (a : ℕ) (via : List ℕ) (b c : ℕ) → Follows R a via b → R b c → Follows R a (via ++ c ∷ []) c
follows_more R a [] b c e r = (let P : ℕ → Type 0 = λ x. R x c in subst P (sym e) r, refl)
follows_more R a (x ∷ xs) b c f r = (f.0, follows_more R x xs b c f.1 r)

pub way_more : (R : ℕ → ℕ → Type 0) (a : ℕ) (way : List ℕ) (b c : ℕ) → IsWay R a way b → R b c → IsWay R a (way ++ c ∷ []) c
way_more R a [] b c w r = absurd w
way_more R a (x ∷ via) b c w r = (w.0, follows_more R a via b c w.1 r)

-- a node further away than 0 has a next node
pub next_step : (target : ℕ) (levels nexts : List ℕ) (a : ℕ) → HasNext target levels nexts → a < length levels → get_or levels a 0 ≢ far
    → 0 < get_or levels a 0 → (get_or nexts a 0 < length levels) × (get_or levels (get_or nexts a 0) 0 + 1 ≡ get_or levels a 0)
next_step target levels nexts a next inside near further =
    elim (next a inside near) [ inl home ↦ (let z = home.0 in absurd (omega arith)) | inr step ↦ step ]

-- no edge leads from a node with no level to one with a level
abbrev pub IsClosed : List (Literal ℕ) → List ℕ → Type 0
IsClosed ls levels = (a b : ℕ) → Contains ls (Edge a b) → slice_index levels b ≢ far → slice_index levels a ≢ far

-- a node from which edges lead to one with a level has a level
pub reaches_near : (ls : List (Literal ℕ)) (levels : List ℕ) (a : ℕ) (via : List ℕ) (b : ℕ)
    → IsClosed ls levels → Follows (Joins ls) a via b → get_or levels b 0 ≢ far → get_or levels a 0 ≢ far
reaches_near ls levels a [] b closed e near = λ f. near (ap (λ x. get_or levels x 0) (sym e) ∙ f)
reaches_near ls levels a (x ∷ xs) b closed f near = closed a x f.0 (reaches_near ls levels x xs b closed f.1 near)
