use Rattle.std.proofs.Common.{refl}
use Rattle.pc_ground.specs.Keys.{key_node}
use Rattle.lifted_facts.specs.Lifted.{absent}
use Rattle.lifter.{specs.{declared.state.State.{State}, States.{branch_of}}, proofs.NumberedEdges.{absent_closes, added_leaf}}
use Rattle.lifter.proofs.leaves.add_absent.Goals as goal

pub returns : goal.returns
returns c =
    let s = c.args.state.now in let denial = c.number_of-denial.result in let number = c.number_of-number.result in
    let new : State = record { facts = s.facts; known = s.known; later = s.later; steps = c.push.new.self } in
    added_leaf c.push.result s new (absent denial number) refl refl refl c.push.ensures
    (λ case rows known. absent_closes case rows (branch_of s) s.known known (key_node c.args.node) denial number c.number_of-denial.ensures
    c.number_of-number.ensures)
