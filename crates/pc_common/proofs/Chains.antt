-- Chains joined end to end, chains of a wider relation, and chains once a step is added.
use Rattle.std.{proofs.Common.{◌≡◌, ◌⊎◌, inl, inr, List, [], ◌∷◌, ◌++◌, refl, sym, subst}, specs.Prelude.{◌↔◌}}
use Rattle.pc_common.specs.Chain.{Leads, Chain, Reach}

-- of a wider relation
pub chain_more : {N : Type 0} (R S : N → N → Type 0) → ((a b : N) → R a b → S a b) → (a b : N) → Chain R a b → Chain S a b
chain_more {N} R S f a b chain = (chain.0, go a chain.0 b chain.1)
  where
    go : (a : N) (via : List N) (b : N) → Leads R a via b → Leads S a via b
    go a [] b l = f a b l
    go a (x ∷ xs) b l = (f a x l.0, go x xs b l.1)

pub chain_join : {N : Type 0} (R : N → N → Type 0) (a b c : N) → Chain R a b → Chain R b c → Chain R a c
chain_join {N} R a b c f g = (f.0 ++ b ∷ g.0, go a f.0 f.1)
  where
    go : (a : N) (via : List N) → Leads R a via b → Leads R a (via ++ b ∷ g.0) c
    go a [] l = (l, g.1)
    go a (x ∷ xs) l = (l.0, go x xs l.1)

-- what a chain leads to, and what is reached from there
pub chain_reach : {N : Type 0} (R : N → N → Type 0) (a b c : N) → Chain R a b → Reach R b c → Chain R a c
chain_reach {N} R a b c f (inl e) = let P : N → Type 0 = λ x. Chain R a x in subst P e f
chain_reach R a b c f (inr g) = chain_join R a b c f g

-- what is reached, and what a chain leads to from there
pub reach_chain : {N : Type 0} (R : N → N → Type 0) (a b c : N) → Reach R a b → Chain R b c → Chain R a c
reach_chain {N} R a b c (inl e) g = let P : N → Type 0 = λ x. Chain R x c in subst P (sym e) g
reach_chain R a b c (inr f) g = chain_join R a b c f g

pub reach_more : {N : Type 0} (R S : N → N → Type 0) → ((a b : N) → R a b → S a b) → (a b : N) → Reach R a b → Reach S a b
reach_more R S f a b (inl e) = inl e
reach_more R S f a b (inr c) = inr (chain_more R S f a b c)

-- S has the steps of R, and the one from a to b
abbrev pub IsWithStep : {N : Type 0} → (N → N → Type 0) → (N → N → Type 0) → N → N → Type 0
IsWithStep {N} R S a b = (x y : N) → S x y ↔ (R x y ⊎ ((x ≡ a) × (y ≡ b)))

-- a chain of S is one of R, or goes over the new step
pub chain_with : {N : Type 0} (R S : N → N → Type 0) (a b : N) → IsWithStep R S a b
    → (x y : N) → Chain S x y ↔ (Chain R x y ⊎ (Reach R x a × Reach R b y))
chain_with {N} R S a b adds x y = ((λ chain. parts x chain.0 chain.1), whole)
  where
    old : (x y : N) → R x y → S x y
    old x y r = (adds x y).1 (inl r)

    -- the step from x to z, before what follows it
    before : (x z : N) → R x z ⊎ ((x ≡ a) × (z ≡ b)) → Chain R z y ⊎ (Reach R z a × Reach R b y)
        → Chain R x y ⊎ (Reach R x a × Reach R b y)
    before x z (inl r) (inl c) = inl (chain_join R x z y ([], r) c)
    before x z (inl r) (inr over) = inr (inr (chain_reach R x z a ([], r) over.0), over.1)
    before x z (inr new) (inl c) = let P : N → Type 0 = λ n. Chain R n y in inr (inl new.0, inr (subst P new.1 c))
    before x z (inr new) (inr over) = inr (inl new.0, over.1)

    last : (x : N) → R x y ⊎ ((x ≡ a) × (y ≡ b)) → Chain R x y ⊎ (Reach R x a × Reach R b y)
    last x (inl r) = inl ([], r)
    last x (inr new) = inr (inl new.0, inl (sym new.1))

    parts : (x : N) (via : List N) → Leads S x via y → Chain R x y ⊎ (Reach R x a × Reach R b y)
    parts x [] l = last x ((adds x y).0 l)
    parts x (z ∷ zs) l = before x z ((adds x z).0 l.0) (parts z zs l.1)

    whole : Chain R x y ⊎ (Reach R x a × Reach R b y) → Chain S x y
    whole (inl c) = chain_more R S old x y c
    whole (inr over) =
        let step : Chain S a b = ([], (adds a b).1 (inr (refl, refl))) in
        reach_chain S x a y (reach_more R S old x a over.0) (chain_reach S a b y step (reach_more R S old b y over.1))
