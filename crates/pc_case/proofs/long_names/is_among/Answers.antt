use Rattle.std.proofs.{Common.{◌∙◌}, lemmas.Map.Made.{is_some-lookup}}
use Rattle.pc_common.specs.Names.{same_name}
use Rattle.pc_case.proofs.long_names.is_among.Goals as goal

pub returns-in_default : goal.returns-in_default
returns-in_default c =
    c.contains_key.ensures ∙ is_some-lookup (λ known. same_name c.args.name.now known.items) c.args.known.now.entries
