use Rattle.std.{proofs.Common.{◌≡◌, ◌≢◌, ◌∙◌, ◌⊎◌, inl, inr, ap, sym, subst}, specs.Prelude.{◌++◌}}
use Rattle.pc_common.specs.declared.status.Status.{Status, TheVariants.{Usage, ReadFault, Memory}}
use Rattle.command_base.specs.Command.{word_bytes}
use Rattle.top_call.{specs.Answers.{Answers}, proofs.WrittenStatus.{answer_is_status, answer_is, status_is}}
use Rattle.top_call.proofs.Headline.{status_true, answer_due}
use Rattle.top_call.proofs.top.run.Goals as goal

pub returns-clause-usage : goal.returns-clause-usage
returns-clause-usage g c = λ e. (c.answer_words.ensures.outcome.usage_only (answer_is Usage (λ w. cc) c.answer_words.ensures.told.kept e)).0

pub returns-clause-usage_due : goal.returns-clause-usage_due
returns-clause-usage_due g c = λ none. status_is c.answer_words.ensures.told.kept (c.answer_words.ensures.usage none)

pub returns-clause-usage_text : goal.returns-clause-usage_text
returns-clause-usage_text g c = λ e told.
    c.answer_words.ensures.told.whole (λ r. cc, λ r. cc, λ r. cc) told ∙
    ap (λ t. (g.K.Sink.view c.args.out.now).taken ++ t)
    (c.answer_words.ensures.outcome.usage_only (answer_is Usage (λ w. cc) c.answer_words.ensures.told.kept e)).1

pub returns-clause-read_cause : goal.returns-clause-read_cause
returns-clause-read_cause g c = λ e. c.answer_words.ensures.outcome.cause (answer_is ReadFault (λ w. cc) c.answer_words.ensures.told.kept e)

pub returns-clause-read_calm : goal.returns-clause-read_calm
returns-clause-read_calm g c = λ calm e.
    c.answer_words.ensures.outcome.missing_only calm (answer_is ReadFault (λ w. cc) c.answer_words.ensures.told.kept e)

pub returns-clause-read_due : goal.returns-clause-read_due
returns-clause-read_due g c = λ calm comes. go (c.answer_words.ensures.outcome.missing_due calm comes)
  where
    go : (c.answer_words.ensures.status ≡ ReadFault) ⊎ (c.answer_words.ensures.status ≡ Memory)
        → (c.answer_words.result ≡ ReadFault) ⊎ (c.answer_words.result ≡ Memory)
    go (inl e) = inl ((c.answer_words.ensures.told.silent (inl e)).0 ∙ e)
    go (inr e) = inr ((c.answer_words.ensures.told.silent (inr e)).0 ∙ e)

pub returns-clause-quiet : goal.returns-clause-quiet
returns-clause-quiet g c = λ e. go e
  where
    go : (c.answer_words.result ≡ ReadFault) ⊎ (c.answer_words.result ≡ Memory) → c.answer_words.new.out ≡ c.args.out.now
    go (inl e) = (c.answer_words.ensures.told.silent (inl (answer_is ReadFault (λ w. cc) c.answer_words.ensures.told.kept e))).1
    go (inr e) = (c.answer_words.ensures.told.silent (inr (answer_is Memory (λ w. cc) c.answer_words.ensures.told.kept e))).1

pub returns-clause-answers : goal.returns-clause-answers
returns-clause-answers g c = λ answered known.
    let kept : c.answer_words.ensures.status ≡ c.answer_words.result = answer_is_status c.answer_words.ensures.told.kept answered.2 in
    let P : Status → Type 0 = λ s.
    Answers (word_bytes c.args.words.now) ((g.F.Files.view c.args.files.now).holds) s c.answer_words.ensures.text in (
      c.answer_words.ensures.text,
      subst P kept (c.answer_words.ensures.outcome.answers known (λ e. answered.0 (sym kept ∙ e)) (λ e. answered.1 (sym kept ∙ e))),
      c.answer_words.ensures.told.whole answered,
    )

pub returns-clause-short : goal.returns-clause-short
returns-clause-short g c = λ e known.
    let no_read : c.answer_words.ensures.status ≢ ReadFault = λ r. let s = sym e ∙ ((c.answer_words.ensures.told.silent (inl r)).0 ∙ r) in cc in
    let no_memory : c.answer_words.ensures.status ≢ Memory = λ r. let s = sym e ∙ ((c.answer_words.ensures.told.silent (inr r)).0 ∙ r) in cc in (
      c.answer_words.ensures.status,
      c.answer_words.ensures.text,
      c.answer_words.ensures.outcome.answers known no_read no_memory,
      c.answer_words.ensures.told.short e,
    )

pub returns-clause-idle : goal.returns-clause-idle
returns-clause-idle g c = λ idle. let d = c.answer_words.ensures.idle idle in (
  d.0,
  λ e. d.1 (answer_is ReadFault (λ w. cc) c.answer_words.ensures.told.kept e),
)

pub returns-clause-headline : goal.returns-clause-headline
returns-clause-headline g c = λ known. status_true c.answer_words.result
    (λ answered. let a = returns-clause-answers g c answered known in (a.0, a.1))

pub returns-clause-due : goal.returns-clause-due
returns-clause-due g c = λ answered known. answer_due (returns-clause-answers g c answered known).1
