-- The code's answer to `ask`, and its text.
use Rattle.std.specs.Prelude.{ℕ, List}
use Rattle.pc_ground.specs.{declared.{front.Front.{Front}, version.Version.TheVariants.{One}}, NodeForm.{names_of}}
use Rattle.solver.specs.declared.search.answer.Answer.{Answer}
use Rattle.ask_command.specs.{declared.{outcome.Asked.{Asked}, command.FoundAsk.{FoundAsk}}, Asking.{word_of}, AskTexts.{ask_text}}
use Rattle.verdicts.specs.{declared.verdict.FoundVerdict.{FoundVerdict}, Verdicts.{verdict_text, IsWritable}}

-- what is found of a front is a verdict
abbrev pub verdict_of : Front × Answer → FoundVerdict
verdict_of r = record { front = r.0; version = One; found = r.1 }

abbrev pub verdicts_of : Asked → FoundAsk
verdicts_of a = record { added = verdict_of a.added; against = verdict_of a.against }

abbrev pub found_text : FoundAsk → List ℕ
found_text f = ask_text (word_of f.added.found f.against.found) (verdict_text f.added) (verdict_text f.against)

-- each node of a certificate is of its front
abbrev pub IsAskWritable : FoundAsk → Type 0
IsAskWritable f = IsWritable (names_of f.added.front) f.added.found × IsWritable (names_of f.against.front) f.against.found
