use Rattle.x86_litmus.{specs.Plain.{plain_said}, proofs.CaseFacts.{are_micro_ops, initial_once, final_once}}
use Rattle.x86_litmus.proofs.case_of.case_of.Goals as goal

pub new-requires-2-clause-kept : goal.new-requires-2-clause-kept
new-requires-2-clause-kept c =
    rw (c.in_ok-ops.ensures, c.in_ok-locations.ensures) (are_micro_ops (plain_said c.args.said.now) c.requires)

pub new-requires-2-clause-initial_once : goal.new-requires-2-clause-initial_once
new-requires-2-clause-initial_once c =
    rw (c.in_ok-stated_values.ensures, c.in_ok-locations.ensures) (initial_once (plain_said c.args.said.now) c.requires)

pub new-requires-2-clause-final_once : goal.new-requires-2-clause-final_once
new-requires-2-clause-final_once c =
    rw (c.in_ok-stated_values-2.ensures, c.in_ok-locations.ensures) (final_once (plain_said c.args.said.now) c.requires)
