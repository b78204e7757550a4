use Rattle.std.proofs.Common.{◌≡◌, ◌<◌, ◌≤◌, ◌+◌, suc, length, map, drop, ap, sym, ◌∙◌, arith}
use Rattle.uspec_parser.{specs.{Terminals.{lexeme}, Descent.{behind}}, proofs.Lexemes.{behind_left, behind_none}}
use Rattle.uspec_parser.proofs.cursor.Cursor.skip.Goals as goal

pub returns-then-self-len : goal.returns-then-self-len
returns-then-self-len c =
    let tokens = c.self.inside.tokens.now in
    let at = c.self.inside.at in
    let view : drop at (map lexeme tokens) ≡ c.args.self.now = c.self.view_is in
    let below : at < length tokens = omega arith in
    let one : at + 1 ≡ suc at = omega arith in
    ap (λ n. drop n (map lexeme tokens)) one ∙ behind_left tokens at below ∙ ap behind view

pub returns-else-self-len : goal.returns-else-self-len
returns-else-self-len c =
    let tokens = c.self.inside.tokens.now in
    let at = c.self.inside.at in
    let view : drop at (map lexeme tokens) ≡ c.args.self.now = c.self.view_is in
    let above : length tokens ≤ at = omega arith in
    sym view ∙ behind_none tokens at above ∙ ap behind view
