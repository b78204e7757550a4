use Rattle.std.proofs.Common.{sym, ◌∙◌}
use Rattle.lifter.proofs.FoundKeys.{get_found}
use Rattle.lifter.proofs.known.Known.get.Goals as goal

pub returns : goal.returns
returns c = rw (sym c.self.view_is) (get_found c.args.key c.self.inside.map.entries c.copied.result (c.copied.ensures ∙ c.get.ensures.value))
