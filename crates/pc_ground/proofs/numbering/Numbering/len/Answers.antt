use Rattle.std.proofs.{Common.{sym, arith}, lemmas.List.{length-map}}
use Rattle.pc_ground.proofs.KeyNumbers.{few_keys, few_nodes, distinct_nodes}
use Rattle.pc_ground.proofs.numbering.Numbering.len.Goals as goal

pub overflow_cast-result : goal.overflow_cast-result
overflow_cast-result c =
    let few = few_keys _ c.len.ensures.unique in
    omega (arith, c.len.ensures.len, few, length-map c.self.inside.keys.entries (λ e. e.0))

pub returns-clause-bound : goal.returns-clause-bound
returns-clause-bound c = rw (sym c.self.view_is) (few_nodes _ c.len.ensures.unique)

pub returns-clause-distinct : goal.returns-clause-distinct
returns-clause-distinct c = rw (sym c.self.view_is) (distinct_nodes _ c.len.ensures.unique)
