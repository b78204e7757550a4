use Rattle.std.proofs.Common.{◌∙◌, sym}
use Rattle.pc_case.proofs.ShortNames.{keyed, short_known}
use Rattle.pc_case.proofs.name_set.NameSet.has.Goals as goal

pub returns-in-Some : goal.returns-in-Some
returns-in-Some c =
    let name = c.args.name.now in
    let is = keyed name c.in-Some.key (sym c.in-Some.is ∙ c.short_name.ensures) in
    c.contains_key.ensures ∙ short_known c.args.self.now name c.in-Some.key is.0 is.1
