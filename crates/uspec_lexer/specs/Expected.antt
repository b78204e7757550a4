-- What a production has at the place of one token, and the tokens that spell a production.
use Rattle.std.specs.Prelude.{◌≡◌, ℕ, ⊤, List, [], ◌∷◌}
use Rattle.uspec_lexer.specs.Token.{Token, name, number, text, symbol}

pub data Expected : Type 0 where
  -- a name with this spelling
  a_word : List ℕ → Expected
  -- such a name at this place
  placed_word : List ℕ → ℕ → Expected
  -- a number of this value
  a_number : ℕ → Expected
  -- such a number at this place
  placed_number : ℕ → ℕ → Expected
  -- any text
  a_text : Expected
  a_symbol : List ℕ → Expected
  -- a symbol at this place
  placed_symbol : List ℕ → ℕ → Expected

-- the token is what is expected
abbrev pub Is : Expected → Token → Type 0
Is (a_word w) t = (t.kind ≡ name) × (t.piece ≡ w)
Is (placed_word w at) t = (t.kind ≡ name) × (t.piece ≡ w) × (t.at ≡ at)
Is (a_number n) t = t.kind ≡ number n
Is (placed_number n at) t = (t.kind ≡ number n) × (t.at ≡ at)
Is a_text t = t.kind ≡ text
Is (a_symbol s) t = (t.kind ≡ symbol) × (t.piece ≡ s)
Is (placed_symbol s at) t = (t.kind ≡ symbol) × (t.piece ≡ s) × (t.at ≡ at)

-- the tokens are what is expected, one for one
abbrev pub Spell : List Expected → List Token → Type 0
Spell [] [] = ⊤
Spell (e ∷ es) (t ∷ ts) = Is e t × Spell es ts
Spell [] (t ∷ ts) = ⊥
Spell (e ∷ es) [] = ⊥
