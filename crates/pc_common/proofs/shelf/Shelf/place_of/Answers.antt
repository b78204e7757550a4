use Rattle.std.proofs.{Common.{rules, arith, ◌∙◌, sym}, lemmas.Grind.{common_steps}}
use Rattle.pc_common.proofs.HeldLemmas.{found_at}
use Rattle.pc_common.proofs.shelf.Shelf.place_of.Goals as goal

pub returns-then-eq : goal.returns-then-eq
returns-then-eq c =
    sym c.loop-k.invariant ∙ found_at c.args.self.now.held c.loop-k.k c.args.name.now c.file-item.result (search rules) (search rules) (search rules)

pub loop-k-preserved : goal.loop-k-preserved
loop-k-preserved c = grind (arith, common_steps)

pub returns : goal.returns
returns c = grind (arith, common_steps)
