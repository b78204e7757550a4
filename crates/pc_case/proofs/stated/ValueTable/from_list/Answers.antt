use Rattle.pc_case.{specs.contracts.address.AddressPartialEq.TheImpl.{eq-value as address_eq}, proofs.Values.{values_step, address_eq_flips}}
use Rattle.pc_case.proofs.stated.ValueTable.from_list.Goals as goal

pub loop-line-preserved : goal.loop-line-preserved
loop-line-preserved c =
    values_step address_eq.it address_eq_flips c.loop-line.by_address c.insert.new.self c.as_slice-line-items.result.now c.loop-line.line-index _
    (rw c.as_slice-line-items.ensures.value c.requires) c.loop-line-test.true c.loop-line.invariant c.in_ok-insert.ensures.updates
