use Rattle.std.proofs.Common.{◌∙◌, ℕ, subst, sym, arith}
use Rattle.litmus_reader.specs.{Syntax.{spelled_action}, Reading.{BeginsAt}}
use Rattle.litmus_reader.proofs.Lines.{access-first, access-terminal, access-names, access-action, access-length}
use Rattle.litmus_reader.proofs.reading.access_at.Goals as goal

pub action_at-action-requires-clause-begins : goal.action_at-action-requires-clause-begins
action_at-action-requires-clause-begins c =
    let (types, action, b) = c.requires.begins in
    let s = access-first types action b in
    let word = c.terminal_at-word.ensures s.token s.at ∙ access-terminal types action b s.token s.at in
    let read = c.in_ok-types.ensures.names types (access-names types action b) in
    (action, word, subst (λ (n : ℕ). BeginsAt c.args.tokens.now n (spelled_action action)) (sym read.1) (access-action types action b))

pub returns : goal.returns
returns c = λ types action b.
    let s = access-first types action b in
    let word = c.terminal_at-word.ensures s.token s.at ∙ access-terminal types action b s.token s.at in
    let read = c.in_ok-types.ensures.names types (access-names types action b) in
    let said = c.action_at-action.ensures action word
    (subst (λ (n : ℕ). BeginsAt c.args.tokens.now n (spelled_action action)) (sym read.1) (access-action types action b)) in
    (read.0, said.0, omega (arith, said.1, read.1, access-length types action))
