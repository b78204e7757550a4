use Rattle.std.proofs.Common.{◌≡◌, map, drop}
use Rattle.x86_litmus.specs.{Cases.{asked_value as asked_value_spec}, Plain.{plain_asked}}
use Rattle.x86_litmus.proofs.case_of.asked_value.Given as goal

abbrev pub invariant-loop-equation : goal.invariant-loop-equation
invariant-loop-equation l =
    asked_value_spec (map plain_asked l.asked) l.thread l.register
    ≡ asked_value_spec (map plain_asked (drop l.equation-index l.asked)) l.thread l.register
