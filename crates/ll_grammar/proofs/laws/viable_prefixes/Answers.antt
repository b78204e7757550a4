use Rattle.std.proofs.Common.{refl}
use Rattle.ll_grammar.proofs.ViablePrefixes.{begins_of_yields, yields_of_begins}
use Rattle.ll_grammar.proofs.laws.viable_prefixes.Goals as goal

pub returns : goal.returns
returns g c = (
  λ begins. (let (rest, marks, reads) = yields_of_begins g.met.N.Grammar.has_texts begins in (rest, (marks, reads))),
  λ (rest, (marks, reads)). begins_of_yields reads c.args.classes.now rest refl,
)
