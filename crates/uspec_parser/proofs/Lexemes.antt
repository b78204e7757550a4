-- The lexemes that are left, by the place of the next token.
use Rattle.std.proofs.Common.{◌≡◌, ℕ, zero, suc, ◌<◌, ◌≤◌, List, [], ◌∷◌, Some, length, map, drop, slice_get, slice_index_or, refl, sym, ap, arith}
use Rattle.uspec_lexer.specs.Token.{Token}
use Rattle.uspec_parser.specs.{Terminals.{terminal, terminal_of, lexeme_by, lexeme}, Descent.{next, behind}, declared.terminal.Terminal.{Terminal}}
use Rattle.uspec_parser.specs.declared.terminal.Terminal.TheVariants.{Name}

-- the lexeme by a terminal has it
pub terminal-lexeme_by : (t : Terminal) (token : Token) → terminal (lexeme_by t token) ≡ t
terminal-lexeme_by Name token = refl
terminal-lexeme_by _ token = refl

pub left_suc : (ts : List Token) (at : ℕ) (t : Token) → slice_get ts at ≡ Some t
    → drop at (map lexeme ts) ≡ lexeme t ∷ drop (suc at) (map lexeme ts)
left_suc [] at t e = absurd (cc)
left_suc (x ∷ ts) zero t e = let same : x ≡ t = cc in ap (λ (y : Token). lexeme y ∷ map lexeme ts) same
left_suc (x ∷ ts) (suc at) t e = left_suc ts at t e

pub left_none : (ts : List Token) (at : ℕ) → length ts ≤ at → drop at (map lexeme ts) ≡ []
left_none [] zero h = refl
left_none [] (suc at) h = refl
left_none (x ∷ ts) zero h = absurd (omega arith)
left_none (x ∷ ts) (suc at) h = left_none ts at (omega arith)

pub behind_left : (ts : List Token) (at : ℕ) → at < length ts → drop (suc at) (map lexeme ts) ≡ behind (drop at (map lexeme ts))
behind_left [] at h = absurd (omega arith)
behind_left (x ∷ ts) zero h = refl
behind_left (x ∷ ts) (suc at) h = behind_left ts at (omega arith)

pub behind_none : (ts : List Token) (at : ℕ) → length ts ≤ at → drop at (map lexeme ts) ≡ behind (drop at (map lexeme ts))
behind_none ts at h = let e = left_none ts at h in cc

pub next_left : (ts : List Token) (at : ℕ) (d : Terminal) → at < length ts
    → slice_index_or (map terminal_of ts) at d ≡ next (drop at (map lexeme ts))
next_left [] at d h = absurd (omega arith)
next_left (x ∷ ts) zero d h = sym (terminal-lexeme_by (terminal_of x) x)
next_left (x ∷ ts) (suc at) d h = next_left ts at d (omega arith)
