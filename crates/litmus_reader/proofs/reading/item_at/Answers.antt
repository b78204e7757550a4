use Rattle.std.proofs.Common.{◌≡◌, ℕ, ap, sym, ◌∙◌, refl, slice_get, Some}
use Rattle.uspec_lexer.specs.View.{plain}
use Rattle.litmus_reader.specs.declared.item.Item.{Item}
use Rattle.litmus_reader.proofs.Lines.{item_word, item-terminal, IsLine, microop-begins, relationship-begins, initial-begins, final-begins, one_of_six, relationship-within, microop-is, relationship-is, initial-is, final-is, permitted-is, forbidden-is}
use Rattle.litmus_reader.proofs.reading.item_at.Goals.{in-Microop+in_ok-microop-in-Microop, in-Relationship+in_ok-relationship_at-in-Relationship, in-Init, in-Final, in-Permitted, in-Forbidden}
use Rattle.litmus_reader.proofs.reading.item_at.Goals as goal

pub microop_at-requires-clause-begins : goal.microop_at-requires-clause-begins
microop_at-requires-clause-begins c =
    let (i, b) = c.requires.begins in
    microop-begins i b (sym (c.from_token.ensures ∙ item-terminal i b (plain c.get-word.result) c.get-word.ensures) ∙ c.in-Microop.is)

pub relationship_at-requires-clause-begins : goal.relationship_at-requires-clause-begins
relationship_at-requires-clause-begins c =
    let (i, b) = c.requires.begins in
    relationship-begins i b (sym (c.from_token.ensures ∙ item-terminal i b (plain c.get-word.result) c.get-word.ensures) ∙ c.in-Relationship.is)

pub relationship_at-requires-clause-within : goal.relationship_at-requires-clause-within
relationship_at-requires-clause-within c =
    let (i, b) = c.requires.begins in
    relationship-within i b (sym (c.from_token.ensures ∙ item-terminal i b (plain c.get-word.result) c.get-word.ensures) ∙ c.in-Relationship.is)

pub value_line_at-next-requires-clause-begins : goal.value_line_at-next-requires-clause-begins
value_line_at-next-requires-clause-begins c =
    let (i, b) = c.requires.begins in
    initial-begins i b (sym (c.from_token.ensures ∙ item-terminal i b (plain c.get-word.result) c.get-word.ensures) ∙ c.in-Init.is)

pub value_line_at-next-requires-in-Final-clause-begins : goal.value_line_at-next-requires-in-Final-clause-begins
value_line_at-next-requires-in-Final-clause-begins c =
    let (i, b) = c.requires.begins in
    final-begins i b (sym (c.from_token.ensures ∙ item-terminal i b (plain c.get-word.result) c.get-word.ensures) ∙ c.in-Final.is)

pub unreachable-requires : goal.unreachable-requires
unreachable-requires c =
    let (i, b) = c.requires.begins in
    let word = c.from_token.ensures ∙ item-terminal i b (plain c.get-word.result) c.get-word.ensures in
    one_of_six i (λ h. c.in_default.not-Microop (word ∙ h)) (λ h. c.in_default.not-Relationship (word ∙ h)) (λ h. c.in_default.not-Init (word ∙ h))
    (λ h. c.in_default.not-Final (word ∙ h)) (λ h. c.in_default.not-Permitted (word ∙ h)) (λ h. c.in_default.not-Forbidden (word ∙ h))

-- the answer of the branch that was taken
joined : (k : ℕ) (i : Item) (result line : Item × ℕ) → result ≡ line → IsLine k i line → IsLine k i result
joined k i result line same is = (ap (λ (p : Item × ℕ). p.0) same ∙ is.0, ap (λ (p : Item × ℕ). p.1) same ∙ is.1)

pub returns : goal.returns
returns c = λ i b.
    let t = plain c.get-word.result in
    let at : slice_get c.args.tokens.now c.args.k ≡ Some t = c.get-word.ensures in
    let word : c.from_token.result ≡ item_word i = c.from_token.ensures ∙ item-terminal i b t at in
    elim c.match-from_token.branch [
      | in-Microop+in_ok-microop-in-Microop w ↦ joined c.args.k i c.match-from_token.result _ w.result-is
          (microop-is i b (sym word ∙ w.in-Microop.is) w.in_ok-microop-in-Microop.microop w.in_ok-microop-in-Microop.next w.in_ok-microop-in-Microop.ensures)
      | in-Relationship+in_ok-relationship_at-in-Relationship w ↦ joined c.args.k i c.match-from_token.result _ w.result-is
          (relationship-is i b (sym word ∙ w.in-Relationship.is) w.in_ok-relationship_at-in-Relationship.field-0
          w.in_ok-relationship_at-in-Relationship.ensures)
      | in-Init w ↦ joined c.args.k i c.match-from_token.result _ w.result-is
          (initial-is i b (sym word ∙ w.in-Init.is) t at c.get-word.result.at refl w.value_line_at-next.result.0
          w.value_line_at-next.result.1 w.value_line_at-next.ensures)
      | in-Final w ↦ joined c.args.k i c.match-from_token.result _ w.result-is
          (final-is i b (sym word ∙ w.in-Final.is) t at c.get-word.result.at refl w.value_line_at-next-in-Final.result.0 w.value_line_at-next-in-Final.result.1
          w.value_line_at-next-in-Final.ensures)
      | in-Permitted w ↦ joined c.args.k i c.match-from_token.result _ w.result-is
          (permitted-is i b (sym word ∙ w.in-Permitted.is) t at c.get-word.result.at refl)
      | in-Forbidden w ↦ joined c.args.k i c.match-from_token.result _ w.result-is
          (forbidden-is i b (sym word ∙ w.in-Forbidden.is) t at c.get-word.result.at refl)
    ]
