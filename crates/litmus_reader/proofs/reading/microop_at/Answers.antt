use Rattle.std.proofs.Common.{arith}
use Rattle.litmus_reader.{specs.declared.item.Item.TheVariants.{Microop as microop}, proofs.Lines.{microop-head, microop-access, microop-length, item-within}}
use Rattle.litmus_reader.proofs.reading.microop_at.Goals as goal

pub head_at-head-requires-clause-within : goal.head_at-head-requires-clause-within
head_at-head-requires-clause-within c =
    let (m, b) = c.requires.begins in omega (arith, item-within (microop m) b)

pub head_at-head-requires-clause-begins : goal.head_at-head-requires-clause-begins
head_at-head-requires-clause-begins c = let (m, b) = c.requires.begins in (m.head, microop-head m b)

pub access_at-requires-clause-begins : goal.access_at-requires-clause-begins
access_at-requires-clause-begins c =
    let (m, b) = c.requires.begins in (m.types, m.action, microop-access m b)

pub overflow_add-result : goal.overflow_add-result
overflow_add-result c =
    let (m, b) = c.requires.begins in
    let said = c.in_ok-types.ensures m.types m.action (microop-access m b) in
    omega (arith, said.2, microop-length m, item-within (microop m) b)

pub returns : goal.returns
returns c = λ m b.
    let head = c.head_at-head.ensures m.head (microop-head m b) in
    let said = c.in_ok-types.ensures m.types m.action (microop-access m b) in
    (λ i. record { head = head i; types = said.0 i; action = said.1 i }, omega (arith, said.2, microop-length m))
