-- Chains as ways, a node at a time.
use Rattle.std.proofs.Common.{◌≡◌, ℕ, inl, inr, List, [], ◌∷◌, ◌++◌, refl, sym, ap, subst}
use Rattle.pc_common.specs.Chain.{Leads, Reach}
use Rattle.order_graph.specs.Ways.{Follows, IsWay}

pub follows_join : (R : ℕ → ℕ → Type 0) (a : ℕ) (xs : List ℕ) (b : ℕ) (ys : List ℕ) (c : ℕ) → Follows R a xs b → Follows R b ys c → Follows R a (xs ++ ys) c
follows_join R a [] b ys c e f = let P : ℕ → Type 0 = λ x. Follows R x ys c in subst P (sym e) f
follows_join R a (x ∷ xs) b ys c e f = (e.0, follows_join R x xs b ys c e.1 f)

pub follows_leads : (R : ℕ → ℕ → Type 0) (a : ℕ) (via : List ℕ) (b c : ℕ) → Follows R a via b → R b c → Leads R a via c
follows_leads R a [] b c e r = let P : ℕ → Type 0 = λ x. R x c in subst P (sym e) r
follows_leads R a (x ∷ xs) b c f r = (f.0, follows_leads R x xs b c f.1 r)

pub follows_map : (R S : ℕ → ℕ → Type 0) → ((a b : ℕ) → R a b → S a b) → (a : ℕ) (via : List ℕ) (b : ℕ) → Follows R a via b → Follows S a via b
follows_map R S g a [] b e = e
follows_map R S g a (x ∷ xs) b f = (g a x f.0, follows_map R S g x xs b f.1)

pub way_map : (R S : ℕ → ℕ → Type 0) → ((a b : ℕ) → R a b → S a b) → (a : ℕ) (nodes : List ℕ) (b : ℕ) → IsWay R a nodes b → IsWay S a nodes b
way_map R S g a [] b w = absurd w
way_map R S g a (x ∷ via) b w = (w.0, follows_map R S g a via b w.1)

leads_follows : (R : ℕ → ℕ → Type 0) (a : ℕ) (via : List ℕ) (b : ℕ) → Leads R a via b → Follows R a (via ++ b ∷ []) b
leads_follows R a [] b r = (r, refl)
leads_follows R a (x ∷ xs) b r = (r.0, leads_follows R x xs b r.1)

-- the steps to what is reached
pub reach_follows : (R : ℕ → ℕ → Type 0) (a b : ℕ) → Reach R a b → (via : List ℕ) × Follows R a via b
reach_follows R a b (inl e) = ([], e)
reach_follows R a b (inr c) = (c.0 ++ b ∷ [], leads_follows R a c.0 b c.1)

-- a way with a step is a chain whose last node stands at its end
pub step_chain : (R : ℕ → ℕ → Type 0) (a x : ℕ) (xs : List ℕ) (b : ℕ) → Follows R a (x ∷ xs) b
    → (via : List ℕ) × (x ∷ xs ≡ via ++ b ∷ []) × Leads R a via b
step_chain R a x [] b f = ([], ap (λ y. y ∷ []) f.1, let P : ℕ → Type 0 = R a in subst P f.1 f.0)
step_chain R a x (y ∷ ys) b f = let c = step_chain R x y ys b f.1 in (x ∷ c.0, ap (λ zs. x ∷ zs) c.1, (f.0, c.2))
