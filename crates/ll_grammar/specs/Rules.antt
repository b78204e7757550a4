-- A context-free grammar by what one token in view decides, and what it reads.
use Rattle.std.specs.Prelude.{◌≡◌, Bool, false, List, [], ◌∷◌, ◌++◌, Option, Some, IsTrue}
use Rattle.ll_grammar.specs.declared.grammar.Symbol.{Symbol, TheVariants.{Terminal as a_terminal, Nonterminal as a_nonterminal}}

-- `C` are the terminals, which are the classes of tokens; `N` are the nonterminals.
pub record Rules (C N : Type 0) : Type 0 where
  -- what stands after a token of this class where the nonterminal begins with it; None where it does not
  pub production : N → C → Option (List (Symbol C N))
  -- whether the nonterminal is nullable: may have no token at all
  pub is_nullable : N → Bool
  -- whether a token of this class, where it begins the part, stands too deep
  pub deep : N → C → Bool

-- The symbols read as these tokens. For each token a mark says whether it stands too deep.
pub data Yields {C N : Type 0} (g : Rules C N) : List (Symbol C N) → List C → List Bool → Type 0 where
  done : Yields g [] [] []
  class : {c : C} {rest : List (Symbol C N)} {cs : List C} {marks : List Bool}
      → Yields g rest cs marks → Yields g (a_terminal c ∷ rest) (c ∷ cs) (false ∷ marks)
  ends : {n : N} {rest : List (Symbol C N)} {cs : List C} {marks : List Bool}
      → IsTrue (g.is_nullable n) → Yields g rest cs marks → Yields g (a_nonterminal n ∷ rest) cs marks
  begins : {n : N} {c : C} {rest : List (Symbol C N)} {cs : List C} {marks : List Bool} (body : List (Symbol C N))
      → g.production n c ≡ Some body → Yields g (body ++ rest) cs marks
      → Yields g (a_nonterminal n ∷ rest) (c ∷ cs) (g.deep n c ∷ marks)

-- Whether the symbol may have no token at all.
abbrev pub is_nullable_symbol : {C N : Type 0} → Rules C N → Symbol C N → Bool
is_nullable_symbol g (a_terminal c) = false
is_nullable_symbol g (a_nonterminal n) = g.is_nullable n

-- What the start part reads, with its marks.
abbrev pub Derives : {C N : Type 0} → Rules C N → N → List C → List Bool → Type 0
Derives g start cs marks = Yields g (a_nonterminal start ∷ []) cs marks

-- What begins a text, by cases on the rules, with no word of what follows.
pub data Begins {C N : Type 0} (g : Rules C N) : List (Symbol C N) → List C → Type 0 where
  nothing : {symbols : List (Symbol C N)} → Begins g symbols []
  class : {c : C} {rest : List (Symbol C N)} {cs : List C}
      → Begins g rest cs → Begins g (a_terminal c ∷ rest) (c ∷ cs)
  ends : {n : N} {rest : List (Symbol C N)} {cs : List C}
      → IsTrue (g.is_nullable n) → Begins g rest cs → Begins g (a_nonterminal n ∷ rest) cs
  begins : {n : N} {c : C} {rest : List (Symbol C N)} {cs : List C} (body : List (Symbol C N))
      → g.production n c ≡ Some body → Begins g (body ++ rest) cs → Begins g (a_nonterminal n ∷ rest) (c ∷ cs)

-- The tokens begin a text of the start part.
abbrev pub BeginsText : {C N : Type 0} → Rules C N → N → List C → Type 0
BeginsText g start cs = Begins g (a_nonterminal start ∷ []) cs
