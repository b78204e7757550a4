use Rattle.std.{proofs.Common.{refl, map}, specs.Prelude.{codes}}
use Rattle.pc_common.{specs.Lines.{nodes_text}, proofs.Rooms.{puts_then, puts_stop}}
use Rattle.pc_ground.specs.Keys.{key_node}
use Rattle.refutation.proofs.writing.put_line.Goals as goal

pub returns-in_err-put : goal.returns-in_err-put
returns-in_err-put g c =
    puts_stop (codes "\n") c.from_residual.ensures.0 c.from_residual.ensures.0
    (puts_stop (nodes_text c.args.names.now (map key_node c.args.nodes.now)) refl c.from_residual.ensures.0 c.in_err-put.ensures.puts)

pub returns-in_err-put_nodes : goal.returns-in_err-put_nodes
returns-in_err-put_nodes g c =
    puts_stop (codes "\n") refl c.from_residual-in_err-put_nodes.ensures.0 (puts_then refl c.in_ok-put.ensures.puts c.in_err-put_nodes.ensures)

pub returns : goal.returns
returns g c = puts_then refl (puts_then refl c.in_ok-put.ensures.puts c.in_ok-put_nodes.ensures) c.put-2.ensures.puts
