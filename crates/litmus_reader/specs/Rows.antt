-- What the judges of single rows answer.
use Rattle.std.specs.Prelude.{Option, Some, None}
use Rattle.pc_common.specs.declared.{place.Place.{Place}, fault.FaultKind.{FaultKind}}
use Rattle.uspec_lexer.specs.declared.fault.LexFault.{LexFault, TheVariants.{Lexical as lexical, Memory as lex_memory}}
use Rattle.litmus_reader.specs.{Content.{Never}, declared.{content_fault.ContentFault.{ContentFault}, fault.CaseFault.{CaseFault}}}
use Rattle.litmus_reader.specs.declared.fault.CaseFault.TheVariants.{Lexical, Memory}

-- the fault by a row, or none where it gives none
abbrev pub Answers : (FaultKind → Place → Type 0) → Option ContentFault → Type 0
Answers Row None = Never Row
Answers Row (Some r) = Row r.kind r.place

abbrev pub fault_from : LexFault → CaseFault
fault_from (lexical place) = Lexical place
fault_from lex_memory = Memory
