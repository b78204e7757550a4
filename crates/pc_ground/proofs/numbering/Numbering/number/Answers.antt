use Rattle.std.proofs.{Common.{arith, sym}, lemmas.List.{length-map}}
use Rattle.pc_ground.proofs.KeyNumbers.{placed_some, placed_none}
use Rattle.pc_ground.proofs.numbering.Numbering.number.Goals as goal

pub returns-in_err-number : goal.returns-in_err-number
returns-in_err-number c = rw (c.from_residual.ensures, sym c.self.view_is) (placed_none c.args.key _ c.in_err-number.ensures.index)

pub overflow_cast-result : goal.overflow_cast-result
overflow_cast-result c = omega (arith, c.in_ok-number.ensures.within, c.self.invariant, length-map c.self.inside.keys.entries (λ e. e.0))

pub returns : goal.returns
returns c = rw (sym c.self.view_is) (placed_some c.args.key _ c.in_ok-number.number c.in_ok-number.ensures.index)
