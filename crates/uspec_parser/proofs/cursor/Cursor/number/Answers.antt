use Rattle.std.proofs.Common.{rules, ◌≡◌, sym, ◌∙◌}
use Rattle.uspec_lexer.specs.Span.{kind_of_token}
use Rattle.uspec_parser.{specs.declared.terminal.Terminal.TheVariants.{Number}, proofs.StageNames.{number_only}}
use Rattle.uspec_parser.proofs.cursor.Cursor.number.Goals as goal

pub value-requires : goal.value-requires
value-requires c =
    let same : c.from_token.result ≡ Number = search rules in
    number_only (kind_of_token c.in-Some.token.kind) c.in-Some.token.piece.now (sym c.from_token.ensures ∙ same)
