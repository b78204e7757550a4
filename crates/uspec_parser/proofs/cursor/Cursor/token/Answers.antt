use Rattle.std.proofs.Common.{◌≡◌, ◌<◌, ◌≤◌, ◌∷◌, List, length, map, drop, ap, sym, ◌∙◌, arith}
use Rattle.uspec_lexer.specs.View.{plain as plain_token}
use Rattle.uspec_parser.{specs.{Terminals.{Lexeme, lexeme}, Descent.{behind}}, proofs.Lexemes.{left_suc, left_none, behind_left}}
use Rattle.uspec_parser.proofs.cursor.Cursor.token.Goals as goal

pub returns-then-self-len : goal.returns-then-self-len
returns-then-self-len c =
    let tokens = c.self.inside.tokens.now in
    let at = c.self.inside.at in
    let view : drop at (map lexeme tokens) ≡ c.args.self.now = c.self.view_is in
    let below : at < length tokens = omega arith in
    let found = left_suc tokens at (plain_token c.get.result) c.get.ensures in
    let rest = behind_left tokens at below ∙ ap behind view in
    sym view ∙ found ∙ ap (λ (xs : List Lexeme). lexeme (plain_token c.get.result) ∷ xs) rest

pub returns-else-self-len : goal.returns-else-self-len
returns-else-self-len c =
    let tokens = c.self.inside.tokens.now in
    let at = c.self.inside.at in
    let view : drop at (map lexeme tokens) ≡ c.args.self.now = c.self.view_is in
    let above : length tokens ≤ at = omega arith in
    sym view ∙ left_none tokens at above
