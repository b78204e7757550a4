use Rattle.std.{proofs.{Common.{refl, ◌++◌, map, List, ℕ, length}, lemmas.Option.{slice_get_within, slice_get_read}}, specs.Prelude.{codes}}
use Rattle.pc_common.{specs.{Lines.{node_text}, World.{Node}}, proofs.{Rooms.{puts_text}, RoomPieces.{puts_next, puts_failed}, Places.{at_map, all_at}}}
use Rattle.pc_ground.specs.{Keys.{key_node}, NodeForm.{IsNodeIn}}
use Rattle.refutation.proofs.Items.{one_text}
use Rattle.refutation.proofs.writing.put_nodes.Goals as goal

pub put_node-requires : goal.put_node-requires
put_node-requires g c =
    let xs = map key_node c.args.nodes.now in
    let own = slice_get_read c.args.nodes.now (length c.args.nodes.now) c.loop-key.key-index c.key-item.result refl c.loop-key-test.true c.key-item.is in
    all_at (IsNodeIn c.args.names.now) xs c.loop-key.key-index (key_node c.key-item.result) c.requires
    (at_map key_node c.args.nodes.now c.loop-key.key-index c.key-item.result own)

pub returns-in_err-put_node : goal.returns-in_err-put_node
returns-in_err-put_node g c =
    let xs = map key_node c.args.nodes.now in
    let f : Node → List ℕ = λ a. codes " " ++ node_text c.args.names.now a in
    let x = key_node c.key-item.result in
    let own = slice_get_read c.args.nodes.now (length c.args.nodes.now) c.loop-key.key-index c.key-item.result refl c.loop-key-test.true c.key-item.is in
    let at = at_map key_node c.args.nodes.now c.loop-key.key-index c.key-item.result own in
    puts_failed f xs c.loop-key.key-index x (slice_get_within xs c.loop-key.key-index x at) refl c.from_residual.ensures.0
    c.loop-key.invariant (puts_text _ (one_text f xs c.loop-key.key-index x at) c.in_err-put_node.ensures)

pub loop-key-preserved : goal.loop-key-preserved
loop-key-preserved g c =
    let xs = map key_node c.args.nodes.now in
    let f : Node → List ℕ = λ a. codes " " ++ node_text c.args.names.now a in
    let x = key_node c.key-item.result in
    let own = slice_get_read c.args.nodes.now (length c.args.nodes.now) c.loop-key.key-index c.key-item.result refl c.loop-key-test.true c.key-item.is in
    let at = at_map key_node c.args.nodes.now c.loop-key.key-index c.key-item.result own in
    puts_next f xs c.loop-key.key-index x (slice_get_within xs c.loop-key.key-index x at) refl c.loop-key.invariant
    (puts_text _ (one_text f xs c.loop-key.key-index x at) c.in_ok-put_node.ensures)
