-- Ways over the asserted edges of a list of literals, which may have no step.
use Rattle.std.specs.Prelude.{ℕ, ◌≡◌, ◌<◌, List, [], ◌∷◌}
use Rattle.pc_ground.specs.declared.literal.Literal.{Literal, TheVariants.{Node, Edge, NoNode, NoEdge}}

-- the nodes of the literal are below n
abbrev pub IsBelow : ℕ → Literal ℕ → Type 0
IsBelow n (Node a) = a < n
IsBelow n (Edge a b) = (a < n) × (b < n)
IsBelow n (NoNode a) = a < n
IsBelow n (NoEdge a b) = (a < n) × (b < n)

-- from a by no step or more over the listed nodes, the last of which is b
abbrev pub Follows : (ℕ → ℕ → Type 0) → ℕ → List ℕ → ℕ → Type 0
Follows R a [] b = a ≡ b
Follows R a (x ∷ xs) b = R a x × Follows R x xs b

-- the listed nodes lead from a, the first of them, to b, the last
abbrev pub IsWay : (ℕ → ℕ → Type 0) → ℕ → List ℕ → ℕ → Type 0
IsWay R a [] b = ⊥
IsWay R a (x ∷ via) b = (x ≡ a) × Follows R a via b
