-- What the recogniser makes of its stack at one token; the stack's top is the last symbol of the list.
use Rattle.std.specs.Prelude.{◌≡◌, Bool, true, false, List, ◌∷◌, ◌++◌, Option, Some, None, reverse}
use Rattle.ll_grammar.specs.{Rules.{Rules, Yields}, Predictable.{IsReady}, declared.grammar.{Symbol.{Symbol}, Prediction.{Prediction, TheVariants.{Absent, Pushed, Deep}}}}

-- The prediction of a part at a token: what stands after it is on the stack, the next symbol on top.
abbrev pub IsPredicted : {C N : Type 0} → Option (List (Symbol C N)) → Bool → List (Symbol C N) → Prediction
    → List (Symbol C N) → Type 0
IsPredicted None deep old Absent new = new ≡ old
IsPredicted None deep old Pushed new = ⊥
IsPredicted None deep old Deep new = ⊥
IsPredicted (Some body) deep old Absent new = ⊥
IsPredicted (Some body) deep old Pushed new = (deep ≡ false) × (new ≡ old ++ reverse body)
IsPredicted (Some body) deep old Deep new = deep ≡ true

-- The same of the rules for a part and a class: what the part makes of the stack.
abbrev pub IsPush : {C N : Type 0} → Rules C N → N → C → List (Symbol C N) → List (Symbol C N) → Prediction → Type 0
IsPush g n c old new prediction = IsPredicted (g.production n c) (g.deep n c) old prediction new

-- What the symbols `before` read after a token that is not too deep, the symbols `after` read.
pub record Passes {C N : Type 0} (g : Rules C N) (follow : N → C → Bool)
    (before : List (Symbol C N)) (c : C) (after : List (Symbol C N)) : Type 0 where
  pub only : (rest : List C) (marks : List Bool) → Yields g before (c ∷ rest) marks
      → (others : List Bool) × (marks ≡ false ∷ others) × Yields g after rest others
  pub each : (rest : List C) (others : List Bool) → Yields g after rest others
      → Yields g before (c ∷ rest) (false ∷ others)
  pub ready : IsReady g follow after

-- The prediction of a stack at a token, its symbols from the top down.
abbrev pub IsRead : {C N : Type 0} → Rules C N → (N → C → Bool) → List (Symbol C N) → C → Prediction → List (Symbol C N)
    → Type 0
IsRead {C} g follow before c Absent after = (rest : List C) (marks : List Bool) → Yields g before (c ∷ rest) marks → ⊥
IsRead g follow before c Pushed after = Passes g follow before c after
IsRead {C} g follow before c Deep after =
    (rest : List C) × (marks : List Bool) × Yields g before (c ∷ rest) (true ∷ marks)
