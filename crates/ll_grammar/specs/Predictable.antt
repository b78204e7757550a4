-- The condition under which one token in view decides: LL(1).
use Rattle.std.specs.Prelude.{◌≡◌, Bool, List, [], ◌∷◌, Some, None, IsTrue, IsSome}
use Rattle.ll_grammar.specs.{Rules.{Rules, Yields}, declared.grammar.Symbol.{Symbol, TheVariants.{Terminal as a_terminal, Nonterminal as a_nonterminal}}}

-- Whatever class the symbols can begin with may follow the part `m`; where they can be without tokens, `AtEnd` holds
-- too.
abbrev pub MayFollow : {C N : Type 0} → Rules C N → (N → C → Bool) → N → List (Symbol C N) → Type 0 → Type 0
MayFollow g follow m [] AtEnd = AtEnd
MayFollow g follow m (a_terminal c ∷ rest) AtEnd = IsTrue (follow m c)
MayFollow {C} g follow m (a_nonterminal n ∷ rest) AtEnd =
    ((c : C) → IsSome (g.production n c) → IsTrue (follow m c))
    × (IsTrue (g.is_nullable n) → MayFollow g follow m rest AtEnd)

-- Each part among the symbols has its followers in the table.
-- `AtEnd m` is what a part `m` owes of what comes after all of them.
abbrev pub IsFollowed : {C N : Type 0} → Rules C N → (N → C → Bool) → (N → Type 0) → List (Symbol C N) → Type 0
IsFollowed g follow AtEnd [] = Unit {0}
IsFollowed g follow AtEnd (a_terminal c ∷ rest) = IsFollowed g follow AtEnd rest
IsFollowed g follow AtEnd (a_nonterminal m ∷ rest) = MayFollow g follow m rest (AtEnd m) × IsFollowed g follow AtEnd rest

pub record IsPredictable {C N : Type 0} (g : Rules C N) (follow : N → C → Bool) : Type 0 where
  -- the table of followers is closed under the rules: what follows a part follows the last parts of its bodies
  pub closed : (n : N) (c : C) (body : List (Symbol C N)) → g.production n c ≡ Some body
      → IsFollowed g follow (λ m. (d : C) → IsTrue (follow n d) → IsTrue (follow m d)) body
  -- a part that may be without tokens begins with no class that may follow it
  pub apart : (n : N) (c : C) → IsTrue (g.is_nullable n) → IsTrue (follow n c) → g.production n c ≡ None

-- The same of the symbols on the stack, after which the text ends.
abbrev pub IsReady : {C N : Type 0} → Rules C N → (N → C → Bool) → List (Symbol C N) → Type 0
IsReady g follow symbols = IsFollowed g follow (λ m. Unit {0}) symbols

-- Each part has a text.
abbrev pub HasTexts : {C N : Type 0} → Rules C N → Type 0
HasTexts {C} {N} g = (n : N) → (cs : List C) × (marks : List Bool) × Yields g (a_nonterminal n ∷ []) cs marks
