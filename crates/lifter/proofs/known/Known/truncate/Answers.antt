use Rattle.std.proofs.{Common.{sym, ap, ◌∙◌, take}, lemmas.List.{take-map}}
use Rattle.lifter.specs.KnownFacts.{entries_of}
use Rattle.lifter.proofs.known.Known.truncate.Goals as goal

pub returns : goal.returns
returns c = ap entries_of c.truncate.ensures.entries ∙ sym (take-map _ c.args.count c.self.inside.map.entries) ∙ ap (take c.args.count) c.self.view_is
