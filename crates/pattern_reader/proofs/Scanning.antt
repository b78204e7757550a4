-- What is seen of one token more.
use Rattle.std.{proofs.Common.{◌≡◌, ℕ, ◌+◌, true, false, cond, List, ◌++◌, sym, ◌∙◌, ap, arith}, specs.Prelude.{codes}}
use Rattle.uspec_lexer.specs.Token.{Token}
use Rattle.pattern_reader.specs.{Opens.{stands, opens_access, reads, accesses, AreSeen, open_at, opens_among}, declared.opens.Accesses.{Accesses}}
use Rattle.pattern_reader.proofs.Digits.{plus_one}

-- a micro-op opens
pub seen_open : (ts : List Token) (k : ℕ) (a b : Accesses) → opens_access ts k ≡ true → AreSeen ts k a → b.count ≡ a.count + 1
    → b.reading ≡ stands ts (k + 1) (codes "Read") → AreSeen ts (k + 1) b
seen_open ts k a b opens s count reading =
    let few = s.few in record {
      reading = reading ∙ sym (ap (λ x. cond x (stands ts (k + 1) (codes "Read")) (reads ts k)) opens) ∙ sym (ap (reads ts) (plus_one k));
      count = count ∙ ap (λ n. n + 1) s.count ∙ sym (ap (λ x. cond x (accesses ts k + 1) (accesses ts k)) opens) ∙ sym (ap (accesses ts) (plus_one k));
      few = omega (arith, few, count);
    }

-- none does
pub seen_same : (ts : List Token) (k : ℕ) (a : Accesses) → opens_access ts k ≡ false → AreSeen ts k a → AreSeen ts (k + 1) a
seen_same ts k a opens s =
    let few = s.few in record {
      reading = s.reading ∙ sym (ap (λ x. cond x (stands ts (k + 1) (codes "Read")) (reads ts k)) opens) ∙ sym (ap (reads ts) (plus_one k));
      count = s.count ∙ sym (ap (λ x. cond x (accesses ts k + 1) (accesses ts k)) opens) ∙ sym (ap (accesses ts) (plus_one k));
      few = omega (arith, few);
    }

-- the open values of one token more
pub opens_more : (ts : List Token) (k : ℕ) → opens_among ts k ++ open_at ts k ≡ opens_among ts (k + 1)
opens_more ts k = sym (ap (opens_among ts) (plus_one k))
