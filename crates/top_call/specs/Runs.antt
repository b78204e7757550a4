-- What a run is, and what `run` says of it.
use Rattle.std.specs.Prelude.{◌≡◌, ◌≢◌, ◌⊎◌, ◌++◌, ℕ, List, String, IsTrue}
use Rattle.pc_common.specs.{Outside.{FilesView, SinkView}, Pieces.{IsCutShort}, declared.status.Status.{Status, TheVariants.{ReadFault, WriteFault, Memory}}}
use Rattle.command_base.specs.Command.{word_bytes, WordsReadOnlyIf}
use Rattle.top_call.specs.{Answers.{Answers, LacksNamedFile}, Headline.{IsVerdictTrue, IsDue}}

-- a run: its words as bytes, the files before it, the sink before and after it, and the status that it ends with; of
-- the files after it the clause `files` says that they hold the same
pub record Run : Type 0 where
  pub words : List (List ℕ)
  pub files : FilesView
  pub sink : SinkView
  pub sink_after : SinkView
  pub status : Status

-- from what the code has
abbrev pub run_of : {F K Z : Type 0} → (F → FilesView) → (K → SinkView) → List (String Z) → F → K → K → Status → Run
run_of files_view sink_view words files sink sink_after status = record {
  words = word_bytes words;
  files = files_view files;
  sink = sink_view sink;
  sink_after = sink_view sink_after;
  status = status;
}

-- the status is an answer: no fault of the outside, and no want of memory
abbrev pub HasAnswered : Status → Type 0
HasAnswered status = (status ≢ ReadFault) × (status ≢ Memory) × (status ≢ WriteFault)

-- clauses say what the files hold, or the words are no command that reads any
abbrev pub KnowsFiles : Run → Type 0
KnowsFiles r = WordsReadOnlyIf r.words r.files.modelled

-- a modelled sink takes all of the text, after what it had
abbrev pub TakesWhole : SinkView → List ℕ → SinkView → Type 0
TakesWhole old text new = IsTrue old.modelled → new.taken ≡ old.taken ++ text

-- a modelled sink takes the first bytes of the text, and not all of them
abbrev pub TakesFirst : SinkView → List ℕ → SinkView → Type 0
TakesFirst old text new = IsTrue old.modelled → IsCutShort old.taken text new.taken

-- where only missing names fail, ReadFault comes only if the order of work comes to a name that is not held
abbrev pub LacksWhereItFails : Run → Type 0
LacksWhereItFails r = IsTrue r.files.only_missing_fail → r.status ≡ ReadFault → LacksNamedFile r.words r.files.holds

-- and it comes there, or Memory
abbrev pub FailsWhereItLacks : Run → Type 0
FailsWhereItLacks r = IsTrue r.files.only_missing_fail → LacksNamedFile r.words r.files.holds
    → (r.status ≡ ReadFault) ⊎ (r.status ≡ Memory)

-- the text of the answer is written, and its status is that of the run
abbrev pub WritesAnswer : Run → Type 0
WritesAnswer r = KnowsFiles r
    → (text : List ℕ) × Answers r.words r.files.holds r.status text × TakesWhole r.sink text r.sink_after

-- the first bytes of the text of an answer are written
abbrev pub CutsAnswer : Run → Type 0
CutsAnswer r = KnowsFiles r → (status : Status) × (text : List ℕ)
    × Answers r.words r.files.holds status text × TakesFirst r.sink text r.sink_after

-- what the status says of the files is true
abbrev pub TellsTruth : Run → Type 0
TellsTruth r = KnowsFiles r → IsVerdictTrue r.words r.files.holds r.status

-- the status is the one that is due of the files
abbrev pub HasDueStatus : Run → Type 0
HasDueStatus r = KnowsFiles r → IsDue r.words r.files.holds r.status
