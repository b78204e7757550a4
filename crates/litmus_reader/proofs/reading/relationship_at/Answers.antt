use Rattle.std.proofs.Common.{◌≡◌, ◌+◌, ℕ, List, refl, subst, arith}
use Rattle.uspec_lexer.specs.{Token.{Token}, Expected.{a_word, a_number}}
use Rattle.litmus_reader.specs.{Expected.{number_at}, Syntax.{spelled_item}, Reading.{StandsAt, BeginsAt, IsEndAt}, declared.item.Relationship.{Relationship}}
use Rattle.litmus_reader.{specs.declared.item.Item.TheVariants.{Relationship as relationship}, proofs.Places.{stands}}
use Rattle.litmus_reader.proofs.reading.relationship_at.Goals as goal

source_at : {ts : List Token} {k : ℕ} (r : Relationship) → BeginsAt ts k (spelled_item (relationship r)) → IsEndAt ts (k + 2) r.source
source_at {ts} {k} r b =
    let three : k + 3 ≡ k + 2 + 1 = omega arith in (
      stands (spelled_item (relationship r)) b 2 (number_at r.source.g) refl,
      subst (λ (n : ℕ). StandsAt ts n (a_number r.source.n)) three (stands (spelled_item (relationship r)) b 3 (a_number r.source.n) refl),
    )

target_at : {ts : List Token} {k : ℕ} (r : Relationship) → BeginsAt ts k (spelled_item (relationship r)) → IsEndAt ts (k + 5) r.target
target_at {ts} {k} r b =
    let six : k + 6 ≡ k + 5 + 1 = omega arith in (
      stands (spelled_item (relationship r)) b 5 (number_at r.target.g) refl,
      subst (λ (n : ℕ). StandsAt ts n (a_number r.target.n)) six (stands (spelled_item (relationship r)) b 6 (a_number r.target.n) refl),
    )

pub end_at-requires-clause-end : goal.end_at-requires-clause-end
end_at-requires-clause-end c = let (r, b) = c.requires.begins in (r.source, source_at r b)

pub end_at-requires-2-clause-end : goal.end_at-requires-2-clause-end
end_at-requires-2-clause-end c = let (r, b) = c.requires.begins in (r.target, target_at r b)

pub returns : goal.returns
returns c = λ r b.
    let kind = c.in_ok-name_at.ensures r.kind (stands (spelled_item (relationship r)) b 1 (a_word r.kind) refl) in
    let source = c.end_at.ensures r.source (source_at r b) in
    let target = c.end_at-2.ensures r.target (target_at r b) in
    λ i. record { kind = kind i; source = source i; target = target i }
