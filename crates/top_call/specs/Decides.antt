-- The outcome of the words, decided before anything is written, and what is told of it.
use Rattle.std.specs.Prelude.{◌≡◌, ◌≢◌, ◌≤◌, ◌⊎◌, ℕ, List, None}
use Rattle.pc_common.specs.{Outside.{FilesView, SinkView}, Faults.{Rose}, declared.status.Status.{Status, TheVariants.{Usage, ReadFault, WriteFault, Memory}}}
use Rattle.command_base.specs.{Outcomes.{IsOutcome}, Command.{Command, IsNoCommand, ReadsOnlyIf, WordsReadOnlyIf, ReadsNoFiles, inputs_of}}
use Rattle.top_call.specs.{Answers.{usage_text, AnswersCommand, Answers, Lacks, LacksNamedFile}, Runs.{HasAnswered, TakesWhole, TakesFirst}}

module _ {F : Type 0} (view : F → FilesView) where
  -- the outcome of a command
  abbrev pub IsCommandOutcome : Command → F → F → Status → List ℕ → Type 0
  IsCommandOutcome c old new status text =
      IsOutcome view ⊥ (ReadsOnlyIf c (view old).modelled) (Lacks (view old).holds c)
      (AnswersCommand (view old).holds c) old new status text

  -- the outcome of words, which may be no command
  abbrev pub IsWordsOutcome : List (List ℕ) → F → F → Status → List ℕ → Type 0
  IsWordsOutcome words old new status text =
      IsOutcome view (IsNoCommand words × (text ≡ usage_text)) (WordsReadOnlyIf words (view old).modelled)
      (LacksNamedFile words (view old).holds)
      (Answers words (view old).holds) old new status text

-- a text is written, which a status comes with: all of it, its first bytes with `WriteFault`, or none where the status
-- has none
pub record IsTold {K : Type 0} (view : K → SinkView) (status : Status) (text : List ℕ) (old new : K) (result : Status) : Type 0 where
  pub same_modelled : (view new).modelled ≡ (view old).modelled
  pub count : (view old).faults ≤ (view new).faults
  pub kept : (result ≡ status) ⊎ (result ≡ WriteFault)
  pub cause : result ≡ WriteFault → Rose (view old).faults (view new).faults
  pub silent : (status ≡ ReadFault) ⊎ (status ≡ Memory) → (result ≡ status) × (new ≡ old)
  pub whole : HasAnswered result → TakesWhole (view old) text (view new)
  pub short : result ≡ WriteFault → TakesFirst (view old) text (view new)

module _ {F K : Type 0} (files_view : F → FilesView) (sink_view : K → SinkView) where
  -- the outcome of a command is told
  pub record HasAnsweredCommand (c : Command) (files files_after : F) (sink sink_after : K) (result : Status) : Type 0 where
    pub status : Status
    pub text : List ℕ
    pub outcome : IsCommandOutcome files_view c files files_after status text
    pub told : IsTold sink_view status text sink sink_after result
    pub idle : inputs_of c ≡ None → (files_after ≡ files) × (status ≢ ReadFault)

  -- the outcome of words is told
  pub record HasAnsweredWords (words : List (List ℕ)) (files files_after : F) (sink sink_after : K) (result : Status) : Type 0 where
    pub status : Status
    pub text : List ℕ
    pub outcome : IsWordsOutcome files_view words files files_after status text
    pub told : IsTold sink_view status text sink sink_after result
    pub usage : IsNoCommand words → status ≡ Usage
    pub idle : ReadsNoFiles words → (files_after ≡ files) × (status ≢ ReadFault)
