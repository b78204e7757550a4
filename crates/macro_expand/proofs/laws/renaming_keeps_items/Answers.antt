use Rattle.macro_expand.proofs.RenamedExpansions.{items_renamed}
use Rattle.macro_expand.proofs.laws.renaming_keeps_items.Goals as goal

pub returns : goal.returns
returns c = items_renamed
