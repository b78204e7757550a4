use Rattle.std.proofs.Common.{◌≡◌, map, drop}
use Rattle.x86_litmus.specs.{Said.{gives as gives_spec}, Plain.{plain_asked}}
use Rattle.x86_litmus.proofs.faults.gives.Given as goal

abbrev pub invariant-loop-equation : goal.invariant-loop-equation
invariant-loop-equation l =
    gives_spec (map plain_asked l.asked) l.thread l.register
    ≡ gives_spec (map plain_asked (drop l.equation-index l.asked)) l.thread l.register
