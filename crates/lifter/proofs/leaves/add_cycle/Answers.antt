use Rattle.std.proofs.Common.{◌≤◌, ◌-◌, length, map, take, drop, refl, arith}
use Rattle.pc_ground.specs.Keys.{key_node}
use Rattle.lifted_facts.specs.Lifted.{cycle}
use Rattle.lifter.{specs.{declared.state.State.{State}, States.{branch_of}}, proofs.KeyedEdges.{first_rest, cycle_edges, no_cycle}}
use Rattle.lifter.proofs.NumberedEdges.{cycle_closes, added_leaf}
use Rattle.lifter.proofs.leaves.add_cycle.Goals as goal

pub unreachable-requires : goal.unreachable-requires
unreachable-requires c =
    let none : length c.args.nodes.now ≤ 0 = omega (arith, c.in-empty.len_below) in
    no_cycle c.args.state.now.known c.args.nodes.now none c.requires

pub numbers_to-requires : goal.numbers_to-requires
numbers_to-requires c =
    let nodes = c.args.nodes.now in
    cycle_edges c.args.state.now.known nodes (take (length nodes - 1) (drop 1 nodes)) c.from-item.result
    (first_rest nodes c.from-item.result c.in-len1-up.len_at_least c.from-item.is) c.requires

pub returns : goal.returns
returns c =
    let s = c.args.state.now in let nodes = c.args.nodes.now in let ns = c.in_ok-numbers-in-len1-up.numbers in
    let new : State = record { facts = s.facts; known = s.known; later = s.later; steps = c.push.new.self } in
    added_leaf c.push.result s new (cycle ns.0 ns.1) refl refl refl c.push.ensures
    (λ case rows known. cycle_closes case rows (branch_of s) s.known known (key_node c.from-item.result)
    (map key_node (take (length nodes - 1) (drop 1 nodes))) ns.0 ns.1
    c.in_ok-numbers-in-len1-up.ensures)
