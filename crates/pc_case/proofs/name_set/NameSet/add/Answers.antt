use Rattle.std.proofs.Common.{◌∙◌, sym, refl}
use Rattle.pc_case.proofs.ShortNames.{keyed, short_added}
use Rattle.pc_case.proofs.name_set.NameSet.add.Goals as goal

pub returns-in_ok-insert-in-Some : goal.returns-in_ok-insert-in-Some
returns-in_ok-insert-in-Some c =
    let name = c.args.name.now in
    let is = keyed name c.in-Some.key (sym c.in-Some.is ∙ c.short_name.ensures) in
    short_added c.args.self.now (record { short = c.insert.new.self; long = c.args.self.now.long }) name c.in-Some.key
    is.0 is.1 refl c.in_ok-insert-in-Some.ensures.updates
