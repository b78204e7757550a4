use Rattle.std.proofs.Common.{ℕ, subst, sym, arith}
use Rattle.litmus_reader.{specs.{Syntax.{spelled_value}, Reading.{BeginsAt}}, proofs.Lines.{touch-va, touch-pa, touch-value, touch-within, touch-length}}
use Rattle.litmus_reader.proofs.reading.touch_at.Goals as goal

pub page_at-va-requires-clause-page : goal.page_at-va-requires-clause-page
page_at-va-requires-clause-page c = let (t, b) = c.requires.begins in (t.va, touch-va t b)

pub page_at-va-requires-clause-within : goal.page_at-va-requires-clause-within
page_at-va-requires-clause-within c = let (t, b) = c.requires.begins in omega (arith, touch-within t b)

pub address_at-pa-requires-clause-begins : goal.address_at-pa-requires-clause-begins
address_at-pa-requires-clause-begins c = let (t, b) = c.requires.begins in (t.pa, touch-pa t b)

pub value_at-value-requires-clause-begins : goal.value_at-value-requires-clause-begins
value_at-value-requires-clause-begins c =
    let (t, b) = c.requires.begins in
    let pa = c.address_at-pa.ensures t.pa (touch-pa t b) in
    (t.value, subst (λ (n : ℕ). BeginsAt c.args.tokens.now n (spelled_value t.value)) (sym pa.1) (touch-value t b))

pub returns : goal.returns
returns c = λ t b.
    let va = c.page_at-va.ensures t.va (touch-va t b) in
    let pa = c.address_at-pa.ensures t.pa (touch-pa t b) in
    let value = c.value_at-value.ensures t.value (subst (λ (n : ℕ). BeginsAt c.args.tokens.now n (spelled_value t.value)) (sym pa.1) (touch-value t b)) in
    (λ i. record { va = va i; pa = pa.0 i; value = value.0 i }, omega (arith, pa.1, value.1, touch-length t))
