use Rattle.pc_ground.proofs.Cuts.{cuts, no_second, no_third, no_g, no_n, no_core}
use Rattle.pc_ground.proofs.node_words.node_words.Goals as goal

pub returns-in_err-n : goal.returns-in_err-n
returns-in_err-n c =
    rw c.from_residual-in_err-n.ensures (no_second c.args.word.now c.in_ok-g.g.now c.in_ok-g.rest.now c.in_ok-g.ensures c.in_err-n.ensures)

pub returns-in_err-core : goal.returns-in_err-core
returns-in_err-core c =
    rw c.from_residual-in_err-core.ensures
    (no_third c.args.word.now c.in_ok-g.g.now c.in_ok-n.n.now c.in_ok-g.rest.now c.in_ok-n.rest.now c.in_ok-g.ensures c.in_ok-n.ensures c.in_err-core.ensures)

pub returns-in_err-decimal_value : goal.returns-in_err-decimal_value
returns-in_err-decimal_value c =
    rw c.from_residual-in_err-decimal_value.ensures
    (no_g (cuts c.args.word.now c.in_ok-g.g.now c.in_ok-n.n.now c.in_ok-core.core.now c.in_ok-core.stage.now c.in_ok-g.rest.now c.in_ok-n.rest.now
    c.in_ok-g.ensures c.in_ok-n.ensures c.in_ok-core.ensures) c.in_err-decimal_value.ensures)

pub returns-in_err-decimal_value-2 : goal.returns-in_err-decimal_value-2
returns-in_err-decimal_value-2 c =
    rw c.from_residual-in_err-decimal_value-2.ensures
    (no_n (cuts c.args.word.now c.in_ok-g.g.now c.in_ok-n.n.now c.in_ok-core.core.now c.in_ok-core.stage.now c.in_ok-g.rest.now c.in_ok-n.rest.now
    c.in_ok-g.ensures c.in_ok-n.ensures c.in_ok-core.ensures) c.in_err-decimal_value-2.ensures)

pub returns-in_err-decimal_value-3 : goal.returns-in_err-decimal_value-3
returns-in_err-decimal_value-3 c =
    rw c.from_residual-in_err-decimal_value-3.ensures
    (no_core (cuts c.args.word.now c.in_ok-g.g.now c.in_ok-n.n.now c.in_ok-core.core.now c.in_ok-core.stage.now c.in_ok-g.rest.now c.in_ok-n.rest.now
    c.in_ok-g.ensures c.in_ok-n.ensures c.in_ok-core.ensures) c.in_err-decimal_value-3.ensures)
