-- The word of each fault, and of each file.
use Rattle.std.specs.Prelude.{ℕ, List, codes}
use Rattle.pc_common.specs.declared.fault.{Which.{Which, TheVariants.{Model, Test, Query}}, FaultKind.{FaultKind}}
use Rattle.pc_common.specs.declared.fault.FaultKind.TheVariants.{TooLarge, Lexical, Syntax, Depth, StageNumber, StageAgain, MacroAgain, ParameterAgain, MacroUnknown, MacroArguments, TooDeep, TooBig, PredicateUnknown, Arity, Unbound, WrongSort, CoreNumber, StageUnknown, TooManyVariables, TooManyOps, SplitInstruction, DuplicateOp, OpUnknown, AgainInitial, AgainFinal, AgainExpectation, MarkValue, TooManyRows, X86Column, X86Reload, X86Unloaded, X86Again, X86Open}

abbrev pub fault_word : FaultKind → List ℕ
fault_word (TooLarge limit) = codes "too-large"
fault_word Lexical = codes "lexical"
fault_word Syntax = codes "syntax"
fault_word (Depth limit) = codes "depth"
fault_word (StageNumber number) = codes "stage-number"
fault_word (StageAgain first again) = codes "stage-again"
fault_word (MacroAgain first again) = codes "macro-again"
fault_word (ParameterAgain first again) = codes "parameter-again"
fault_word MacroUnknown = codes "macro-unknown"
fault_word (MacroArguments found wanted) = codes "macro-arguments"
fault_word (TooDeep limit) = codes "too-deep"
fault_word (TooBig limit) = codes "too-big"
fault_word PredicateUnknown = codes "predicate-unknown"
fault_word (Arity found wanted) = codes "arity"
fault_word Unbound = codes "unbound"
fault_word WrongSort = codes "wrong-sort"
fault_word (CoreNumber number) = codes "core-number"
fault_word StageUnknown = codes "stage-unknown"
fault_word (TooManyVariables limit) = codes "too-many-variables"
fault_word (TooManyOps limit) = codes "too-many-ops"
fault_word (SplitInstruction first again) = codes "split-instruction"
fault_word (DuplicateOp first again) = codes "duplicate-op"
fault_word (OpUnknown g n) = codes "op-unknown"
fault_word (AgainInitial first again) = codes "again-initial"
fault_word (AgainFinal first again) = codes "again-final"
fault_word (AgainExpectation first again) = codes "again-expectation"
fault_word (MarkValue mark) = codes "mark-value"
fault_word (TooManyRows limit) = codes "too-many-rows"
fault_word X86Column = codes "x86-column"
fault_word X86Reload = codes "x86-reload"
fault_word X86Unloaded = codes "x86-unloaded"
fault_word X86Again = codes "x86-again"
fault_word X86Open = codes "x86-open"

abbrev pub file_word : Which → List ℕ
file_word Model = codes "model"
file_word Test = codes "test"
file_word Query = codes "query"
