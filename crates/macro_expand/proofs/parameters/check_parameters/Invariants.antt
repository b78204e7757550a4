use Rattle.std.proofs.Common.{◌≡◌, [], take, drop}
use Rattle.pc_syntax.specs.MacroFaults.{parameters_fault}
use Rattle.macro_expand.proofs.parameters.check_parameters.Given as goal

abbrev pub invariant-loop-word : goal.invariant-loop-word
invariant-loop-word l =
    (l.seen ≡ take l.word-index l.parameters)
    × (parameters_fault [] l.parameters ≡ parameters_fault (take l.word-index l.parameters) (drop l.word-index l.parameters))
