use Rattle.std.proofs.Common.{inl, inr, rules}
use Rattle.line_judge.proofs.Feeds.{settled_by_text}
use Rattle.line_judge.proofs.feed.Feed.is_settled.Goals as goal

pub returns-else-self-clause-by_text : goal.returns-else-self-clause-by_text
returns-else-self-clause-by_text g c = λ start limit text after.
    let by_text = settled_by_text g.J.Judge.view g.met.J.Judge.begins_first
    g.met.J.Judge.stands_begins start limit text c.args.self.now after in (
      λ past. by_text.0 (inr (search rules)),
      λ settled. elim (by_text.1 settled) [ inl refused ↦ cc | inr past ↦ search rules ],
    )
