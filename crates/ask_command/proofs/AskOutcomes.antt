-- The outcome of `ask`: what its answer says, and that it is due.
use Rattle.std.proofs.Common.{◌≡◌, ℕ, List, refl, subst}
use Rattle.pc_common.specs.{Outside.{FilesView}, Case.{Case}, declared.status.Status.{Status, TheVariants.{Done, Usage, ReadFault}}}
use Rattle.pc_syntax.specs.{Written.{Written, not_, WrittenModel}, Closed.{PlainClosed, plain_closed, closed_not}}
use Rattle.pc_ground.specs.Stages.{plain_axioms}
use Rattle.pc_front.specs.Front.{IsFrontOf}
use Rattle.ask_command.specs.{Queries.{with_axiom, with_denial}, declared.{inquiry.Inquiry.{Inquiry}, outcome.Asked.{Asked}}}
use Rattle.ask_command.specs.{Asking.{IsFrontMore, IsAsked, word_of}, AskFiles.{refusal, HasInquiry, IsFilesEnding}}
use Rattle.ask_command.specs.AskAnswers.{IsAskText, asked, AnswersAsk, refused, found, IsAskDue, IsAskOutcome}
use Rattle.ask_command.{specs.FoundAsks.{verdicts_of, found_text, IsAskWritable}, proofs.FaultlessQueries.{denial_faultless, axiom_faultless}}
use Rattle.ask_command.proofs.{ThreeFiles.{no_fault_said}, MoreFronts.{more_front, found_certified, found_writable}, AskWords.{words_told}}
use Rattle.command_base.specs.{declared.ending.Ending.{Ending}, Inputs.{Inputs, Contents}, Endings.{ending_status, ending_text}}

done_no_usage : Done ≡ Usage → ⊥
done_no_usage e = cc

done_no_fault : Done ≡ ReadFault → ⊥
done_no_fault e = cc

module _ {F : Type 0} {view : F → FilesView} {old new : F} {i : Inputs} {query : List ℕ} where
  -- the command ends at its files
  pub ending_outcome : (e : Ending) → IsFilesEnding view i query old new e → IsAskOutcome view i query old new (ending_status e) (ending_text e)
  ending_outcome e d = record {
    keeps = d.keeps;
    usage_only = d.usage_only;
    cause = d.cause;
    missing_only = d.missing_only;
    missing_due = d.missing_due;
    answers = λ t no_fault memory. refused (d.answers t no_fault memory);
  }

  module _ {inquiry : Inquiry} (h : HasInquiry view i query old new inquiry) where
    module _ (a : Asked) (is : IsAsked inquiry.parts.case inquiry.parts.stages (plain_axioms inquiry.parts.axioms) (plain_closed inquiry.formula.body) a) where
      added_front : IsFrontOf (with_axiom h.m h.f) h.c a.added.0
      added_front =
          let parts = inquiry.parts in
          let P : PlainClosed → Type 0 = λ p. IsFrontMore parts.case parts.stages (plain_axioms parts.axioms) p a.added.0 in
          more_front h.m h.c h.f parts.stages parts.axioms parts.case h.inquiry_of.parts_of (axiom_faultless h.m h.f h.sound h.askable) a.added.0
          (subst P h.inquiry_of.formula_is is.added.0)

      against_front : IsFrontOf (with_denial h.m h.f) h.c a.against.0
      against_front =
          let parts = inquiry.parts in
          let P : PlainClosed → Type 0 = λ p. IsFrontMore parts.case parts.stages (plain_axioms parts.axioms) (closed_not p) a.against.0 in
          more_front h.m h.c (not_ h.f) parts.stages parts.axioms parts.case h.inquiry_of.parts_of (denial_faultless h.m h.f h.sound h.askable)
          a.against.0 (subst P h.inquiry_of.formula_is is.against.0)

      ask_text_is : IsAskText h.m h.c h.f Done (found_text (verdicts_of a))
      ask_text_is =
          let first = found_certified (with_axiom h.m h.f) h.c h.kept a.added.0 added_front a.added.1 is.added.1 in
          let second = found_certified (with_denial h.m h.f) h.c h.kept a.against.0 against_front a.against.1 is.against.1 in
          asked (word_of a.added.1 a.against.1) (words_told h.m h.c h.f a.added.1 a.against.1 first second) first second

      -- the word with its certificates
      pub found_outcome : IsAskOutcome view i query old new Done (found_text (verdicts_of a))
      found_outcome = record {
        keeps = h.keeps;
        usage_only = done_no_usage;
        cause = λ e. absurd (done_no_fault e);
        missing_only = λ c e. absurd (done_no_fault e);
        missing_due = λ c l. absurd (h.held c l);
        answers = λ t other memory. found (h.says t) ask_text_is;
      }

      pub ask_writable : IsAskWritable (verdicts_of a)
      ask_writable = (
        found_writable (with_axiom h.m h.f) h.c h.kept a.added.0 added_front a.added.1 is.added.1,
        found_writable (with_denial h.m h.f) h.c h.kept a.against.0 against_front a.against.1 is.against.1,
      )

ask_done : {m : WrittenModel} {c : Case} {f : Written} {status : Status} {text : List ℕ} → IsAskText m c f status text → status ≡ Done
ask_done (asked word is first second) = refl

-- the status is the one that is due
module _ {holds : Contents} {i : Inputs} {query : List ℕ} where
  pub ask_due : {status : Status} {text : List ℕ} → AnswersAsk holds i query status text → IsAskDue holds i query status
  ask_due (refused (refusal {fault = x} first held)) = record {
    answered = λ m c f says. absurd (no_fault_said holds i query m c f x says first);
    fault = λ y is. refl;
  }
  ask_due (found {m = m} {c = c} {f = f} says is) = record {
    answered = λ n d g other. ask_done is;
    fault = λ y fault. absurd (no_fault_said holds i query m c f y says fault);
  }
