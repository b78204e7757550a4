use Rattle.std.proofs.Common.{◌-◌, length, map, take, drop, refl}
use Rattle.pc_ground.specs.Keys.{key_node}
use Rattle.lifted_facts.specs.Lifted.{path}
use Rattle.lifter.{specs.{declared.state.State.{State}, States.{branch_of}}, proofs.KeyedEdges.{first_last, path_edges}}
use Rattle.lifter.proofs.NumberedEdges.{path_closes, added_leaf}
use Rattle.lifter.proofs.leaves.add_path.Goals as goal

pub numbers_to-requires : goal.numbers_to-requires
numbers_to-requires c =
    let nodes = c.args.nodes.now in
    let all = first_last nodes c.from-item.result c.to-item.result c.in-len2-up.len_at_least c.from-item.is c.to-item.is in
    (path_edges c.args.state.now.known nodes (take (length nodes - 1 - 1) (drop 1 nodes)) c.from-item.result c.to-item.result all c.requires).0

pub number_of-denial-requires : goal.number_of-denial-requires
number_of-denial-requires c =
    let nodes = c.args.nodes.now in
    let all = first_last nodes c.from-item.result c.to-item.result c.in-len2-up.len_at_least c.from-item.is c.to-item.is in
    (path_edges c.args.state.now.known nodes (take (length nodes - 1 - 1) (drop 1 nodes)) c.from-item.result c.to-item.result all c.requires).1

pub returns : goal.returns
returns c =
    let s = c.args.state.now in let nodes = c.args.nodes.now in let ns = c.in_ok-numbers-in-len2-up.numbers in
    let denial = c.number_of-denial.result in
    let new : State = record { facts = s.facts; known = s.known; later = s.later; steps = c.push.new.self } in
    added_leaf c.push.result s new (path ns.0 ns.1 denial) refl refl refl c.push.ensures
    (λ case rows known. path_closes case rows (branch_of s) s.known known (key_node c.from-item.result)
    (map key_node (take (length nodes - 1 - 1) (drop 1 nodes))) (key_node c.to-item.result) ns.0 ns.1 denial
    c.in_ok-numbers-in-len2-up.ensures c.number_of-denial.ensures)
