use Rattle.std.proofs.{Common.{◌≡◌, ◌<◌, ◌≤◌, List, length, map, drop, ap, sym, ◌∙◌, slice_index_or, arith}, lemmas.List.{length-map}}
use Rattle.uspec_parser.specs.{Terminals.{lexeme, terminal_of}, Descent.{next}, declared.terminal.Terminal.{Terminal, TheVariants.{StageName}}}
use Rattle.uspec_parser.proofs.Lexemes.{next_left, left_none}
use Rattle.uspec_parser.proofs.cursor.Cursor.next.Goals as goal

pub returns-then-self : goal.returns-then-self
returns-then-self c =
    let tokens = c.self.inside.tokens.now in
    let at = c.self.inside.at in
    let view : drop at (map lexeme tokens) ≡ c.args.self.now = c.self.view_is in
    let same : c.self.inside.terminals.now ≡ map terminal_of tokens = c.self.invariant in
    let many = ap length same ∙ length-map tokens terminal_of in
    let below : at < length tokens = omega arith in
    ap (λ (ts : List Terminal). slice_index_or ts at StageName) same ∙ next_left tokens at StageName below ∙ ap next view

pub returns-else-self : goal.returns-else-self
returns-else-self c =
    let tokens = c.self.inside.tokens.now in
    let at = c.self.inside.at in
    let view : drop at (map lexeme tokens) ≡ c.args.self.now = c.self.view_is in
    let same : c.self.inside.terminals.now ≡ map terminal_of tokens = c.self.invariant in
    let many = ap length same ∙ length-map tokens terminal_of in
    let above : length tokens ≤ at = omega arith in
    ap next (sym (left_none tokens at above)) ∙ ap next view
