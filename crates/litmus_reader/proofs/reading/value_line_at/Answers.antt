use Rattle.std.proofs.Common.{ℕ, subst, sym, arith}
use Rattle.litmus_reader.{specs.{Syntax.{spelled_stated}, Reading.{BeginsAt}}, proofs.Lines.{statement-pa, statement-value, statement-within, statement-length}}
use Rattle.litmus_reader.proofs.reading.value_line_at.Goals as goal

pub address_at-pa-requires-clause-begins : goal.address_at-pa-requires-clause-begins
address_at-pa-requires-clause-begins c = let (v, b) = c.requires.begins in (v.pa, statement-pa v b)

pub stated_at-value-requires-clause-begins : goal.stated_at-value-requires-clause-begins
stated_at-value-requires-clause-begins c =
    let (v, b) = c.requires.begins in
    let pa = c.address_at-pa.ensures v.pa (statement-pa v b) in
    (v.value, subst (λ (n : ℕ). BeginsAt c.args.tokens.now n (spelled_stated v.value)) (sym pa.1) (statement-value v b))

pub overflow_add-result : goal.overflow_add-result
overflow_add-result c =
    let (v, b) = c.requires.begins in
    let pa = c.address_at-pa.ensures v.pa (statement-pa v b) in
    let value = c.stated_at-value.ensures v.value (subst (λ (n : ℕ). BeginsAt c.args.tokens.now n (spelled_stated v.value)) (sym pa.1) (statement-value v b)) in
    omega (arith, pa.1, value.1, statement-length v, statement-within v b)

pub returns : goal.returns
returns c = λ v at b.
    let pa = c.address_at-pa.ensures v.pa (statement-pa v b) in
    let value = c.stated_at-value.ensures v.value (subst (λ (n : ℕ). BeginsAt c.args.tokens.now n (spelled_stated v.value)) (sym pa.1) (statement-value v b)) in
    (λ i. record { at = at i; pa = pa.0 i; value = value.0 i }, omega (arith, pa.1, value.1, statement-length v))
