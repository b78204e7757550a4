use Rattle.std.proofs.Common.{◌≤◌, rules}
use Rattle.line_judge.proofs.Feeds.{fits, refused_before, ends, refused_after}
use Rattle.line_judge.proofs.feed.Feed.finish.Goals as goal

pub returns-then-self-2 : goal.returns-then-self-2
returns-then-self-2 g c = λ start limit text after.
    refused_before g.J.Judge.view g.met.J.Judge.begins_first g.met.J.Judge.whole_begins start limit text c.args.self
    c.lines.result (search rules) c.if-self-2.true c.lines.ensures after

pub returns-in-Ok : goal.returns-in-Ok
returns-in-Ok g c = λ start limit text after.
    let few : c.args.self.bytes ≤ c.args.self.limit = search rules in
    let good = ends g.J.Judge.view start limit text c.args.self few c.if-self-2.false after in
    (fits after few, c.in-Ok.ensures start text good)

pub returns-in-Err : goal.returns-in-Err
returns-in-Err g c = λ start limit text after.
    let few : c.args.self.bytes ≤ c.args.self.limit = search rules in
    let good = ends g.J.Judge.view start limit text c.args.self few c.if-self-2.false after in
    refused_after (g.J.Judge.view start).begins (g.J.Judge.view start).whole limit text c.in-Err.line (fits after few) after.short
    (c.in-Err.ensures start text good)
