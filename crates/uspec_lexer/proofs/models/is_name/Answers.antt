use Rattle.std.proofs.Common.{◌≡◌, sym, ◌∙◌}
use Rattle.uspec_lexer.{specs.Bytes.{is_name}, proofs.Names.{name_is_piece, no_name, name_rest}}
use Rattle.uspec_lexer.proofs.models.is_name.Goals as goal

pub returns-else-is_letter-clause-piece : goal.returns-else-is_letter-clause-piece
returns-else-is_letter-clause-piece c =
    let bytes = c.args.bytes.now in
    let none = no_name bytes (sym c.is_letter.ensures ∙ c.if-is_letter.false) in
    let same : c.is_letter.result ≡ is_name bytes = c.if-is_letter.false ∙ sym none in
    let piece = name_is_piece bytes in
    (λ h. piece.0 (sym same ∙ h), λ p. same ∙ piece.1 p)

pub returns-then-is_letter-clause-piece : goal.returns-then-is_letter-clause-piece
returns-then-is_letter-clause-piece c =
    let bytes = c.args.bytes.now in
    let first = sym c.is_letter.ensures ∙ c.if-is_letter.true in
    let same = name_rest bytes c.are_name_bytes.result c.in-len1-up.len_at_least first c.are_name_bytes.ensures in
    let piece = name_is_piece bytes in
    (λ h. piece.0 (sym same ∙ h), λ p. same ∙ piece.1 p)
