use Rattle.std.proofs.Common.{◌||◌, sym, ap, ◌∙◌}
use Rattle.pc_common.specs.Names.{same_name}
use Rattle.pc_case.proofs.Lookups.{kind_written, kind_first}
use Rattle.pc_case.proofs.dependency.add.Goals as goal

pub returns-in_ok-add-in-Some : goal.returns-in_ok-add-in-Some
returns-in_ok-add-in-Some c = λ k i j.
    kind_written c.args.table.now.entries _ c.args.ends c.args.kind.now k i j c.in-Some.kinds.now c.add.new.self (c.get_mut.follows.holds c.add.new.self).0
    (sym c.in-Some.ensures.value) (c.in_ok-add-in-Some.ensures k)

pub returns-in_ok-insert-in-None : goal.returns-in_ok-insert-in-None
returns-in_ok-insert-in-None c = λ k i j.
    kind_first c.args.table.now c.insert.new.self c.args.ends c.args.kind.now k i j c.add-in-None.new.self (sym c.in-None.ensures.value)
    (rw (sym c.get_mut.follows.holds-at-none) c.in_ok-insert-in-None.ensures.updates)
    (c.in_ok-add-in-None.ensures k ∙ ap (λ b. b || same_name c.args.kind.now k) (c.new-kinds.ensures k))
