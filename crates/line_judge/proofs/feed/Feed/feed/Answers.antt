use Rattle.std.proofs.Common.{refl, rules}
use Rattle.line_judge.proofs.Feeds.{settles}
use Rattle.line_judge.proofs.feed.Feed.feed.Goals as goal

pub returns-in_err-self-clause-sure : goal.returns-in_err-self-clause-sure
returns-in_err-self-clause-sure g c = λ start limit text after past_or_refused.
    let settled = c.is_settled.ensures.is.1
    (settles g.J.Judge.view g.met.J.Judge.begins_first g.met.J.Judge.stands_begins start limit text
    c.args.piece.now c.args.self (record c.args.self { bytes = c.saturating_add.result }) refl refl c.saturating_add.ensures after past_or_refused) in
    absurd (search rules)
