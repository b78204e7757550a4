use Rattle.pc_syntax.specs.Predicates.{takes_of}
use Rattle.static_preds.{specs.Values.{scope_of}, proofs.GivenLaws.{as_many}}
use Rattle.static_preds.proofs.given.Given.len.Goals as goal

pub returns : goal.returns
returns c =
    let g = c.args.self.now in
    as_many (scope_of g.env.now.items) (takes_of g.pred) g.args.now c.requires.fit
