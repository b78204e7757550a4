use Rattle.pc_case.proofs.Pieces.{none_held}
use Rattle.pc_case.proofs.type_names.TypeNames.new.Goals as goal

pub invariant_of-result : goal.invariant_of-result
invariant_of-result c =
    let held = none_held c.new.result.items c.new-2.result.items c.new-3.result c.new.ensures.items c.new-2.ensures.items c.new-3.ensures in
    (held.0, held.1)

pub returns : goal.returns
returns c = (none_held c.new.result.items c.new-2.result.items c.new-3.result c.new.ensures.items c.new-2.ensures.items c.new-3.ensures).2
