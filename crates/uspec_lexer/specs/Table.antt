-- What a lexical grammar chooses for itself.
use Rattle.std.specs.Prelude.{ℕ, Bool}
use Rattle.uspec_lexer.specs.declared.grammar.Opening.{Opening}

pub record Table : Type 0 where
  -- what a byte begins with the one after it, where it is no blank, letter or digit and the two are not (*
  pub opening : ℕ → ℕ → Opening
  -- whether a name goes on with this byte
  pub is_name_byte : ℕ → Bool
