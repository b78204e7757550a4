-- The outcome of a command is that of the words that are it, and what is told of the one is told of the other.
use Rattle.std.{proofs.Common.{◌≡◌, ℕ, List, Some, None, refl, sym, ◌∙◌, subst}, specs.Prelude.{IsTrue}}
use Rattle.pc_common.specs.{Outside.{FilesView, SinkView}, declared.status.Status.{Status, TheVariants.{Usage, ReadFault}}}
use Rattle.command_base.specs.{Inputs.{Inputs}, Outcomes.{IsOutcome}, Command.{Command, gen, IsCommand, IsNoCommand, ReadsOnlyIf, inputs_of}}
use Rattle.command_base.proofs.{InputsRead.{reads_none}, OneCommand.{one_command}}
use Rattle.gen_command.{specs.GenAnswers.{IsGenOutcome}, proofs.GenOutcomes.{gen_outcome}}
use Rattle.top_call.specs.Answers.{usage_text, usage, answered, AnswersCommand, Lacks}
use Rattle.top_call.specs.Decides.{IsCommandOutcome, IsWordsOutcome, IsTold, HasAnsweredCommand, HasAnsweredWords}

no_fault_of_usage : Usage ≡ ReadFault → ⊥
no_fault_of_usage e = cc

-- the words are no command, and no file is read
usage_outcome : {F : Type 0} {view : F → FilesView} (files : F) (words : List (List ℕ))
    → IsNoCommand words → IsWordsOutcome view words files files Usage usage_text
usage_outcome files words none = record {
  keeps = reads_none;
  usage_only = λ e. (none, refl);
  cause = λ e. absurd (no_fault_of_usage e);
  missing_only = λ c e. absurd (no_fault_of_usage e);
  missing_due = λ c comes. absurd (none comes.0 comes.1);
  answers = λ t no_fault memory. usage none;
}

module _ {F : Type 0} {view : F → FilesView} {old new : F} where
  -- the words are the command
  command_outcome : (words : List (List ℕ)) (c : Command) (status : Status) (text : List ℕ) → IsCommand words c
      → IsCommandOutcome view c old new status text → IsWordsOutcome view words old new status text
  command_outcome words c status text is d = record {
    keeps = d.keeps;
    usage_only = λ e. absurd (d.usage_only e);
    cause = d.cause;
    missing_only = λ x e. (c, is, d.missing_only x e);
    missing_due = λ x comes. d.missing_due x (let P : Command → Type 0 = λ k. Lacks (view old).holds k in
        subst P (one_command words comes.0 c comes.1 is) comes.2);
    answers = λ known no_fault memory. answered c is (d.answers (known c is) no_fault memory);
  }

  -- what is known of files that are told, is known where this says that they are
  known_outcome : {known lacks : Type 0} {says : Status → List ℕ → Type 0} {status : Status} {text : List ℕ} → (known → IsTrue (view old).modelled)
      → IsOutcome view ⊥ (IsTrue (view old).modelled) lacks says old new status text
      → IsOutcome view ⊥ known lacks says old new status text
  known_outcome by d = record {
    keeps = d.keeps;
    usage_only = d.usage_only;
    cause = d.cause;
    missing_only = d.missing_only;
    missing_due = d.missing_due;
    answers = λ known no_fault memory. d.answers (by known) no_fault memory;
  }

some_none : {i : Inputs} → Some i ≡ None → ⊥
some_none e = cc

module _ {F K : Type 0} {files_view : F → FilesView} {sink_view : K → SinkView} {files : F} {sink sink_after : K} {result : Status} where
  -- of words that are no command
  pub no_command_told : {words : List (List ℕ)} → IsNoCommand words → IsTold sink_view Usage usage_text sink sink_after result
      → HasAnsweredWords files_view sink_view words files files sink sink_after result
  no_command_told {words} none told = record {
    status = Usage;
    text = usage_text;
    outcome = usage_outcome files words none;
    told = told;
    usage = λ again. refl;
    idle = λ idle. (refl, no_fault_of_usage);
  }

  pub gen_told : (n : ℕ) {status : Status} {text : List ℕ} → IsGenOutcome n status text → IsTold sink_view status text sink sink_after result
      → HasAnsweredCommand files_view sink_view (gen n) files files sink sink_after result
  gen_told n {status} {text} outcome told = record {
    status = status;
    text = text;
    outcome = gen_outcome (ReadsOnlyIf (gen n) (files_view files).modelled) files n status text outcome;
    told = told;
    idle = λ none. (refl, outcome.no_read_fault);
  }

module _ {F K : Type 0} {files_view : F → FilesView} {sink_view : K → SinkView} {files files_after : F} {sink sink_after : K} {result : Status} where
  -- of words that are the command
  pub command_told : {words : List (List ℕ)} (c : Command) → IsCommand words c
      → HasAnsweredCommand files_view sink_view c files files_after sink sink_after result
      → HasAnsweredWords files_view sink_view words files files_after sink sink_after result
  command_told {words} c is a = record {
    status = a.status;
    text = a.text;
    outcome = command_outcome words c a.status a.text is a.outcome;
    told = a.told;
    usage = λ none. absurd (none c is);
    idle = λ idle. a.idle (idle c is);
  }

  -- of a command that reads files
  pub reading_told : (c : Command) {i : Inputs} → inputs_of c ≡ Some i → {status : Status} {text : List ℕ}
      → IsOutcome files_view ⊥ (IsTrue (files_view files).modelled) (Lacks (files_view files).holds c)
      (AnswersCommand (files_view files).holds c) files files_after status text
      → IsTold sink_view status text sink sink_after result → HasAnsweredCommand files_view sink_view c files files_after sink sink_after result
  reading_told c {i} reads {status} {text} outcome told = record {
    status = status;
    text = text;
    outcome = known_outcome (λ known. known i reads) outcome;
    told = told;
    idle = λ none. absurd (some_none (sym reads ∙ none));
  }
