-- The two verdicts tell the word of the formula.
use Rattle.std.{proofs.{Common.{◌≡◌, true, false, ◌&&◌, List, [], refl, sym, ◌∙◌}, lemmas.Bool.{and_from}}, specs.Prelude.{ℕ}}
use Rattle.pc_common.{specs.{Case.{Case}, World.{Node, World}}, proofs.Bools.{and_first, and_second}}
use Rattle.pc_syntax.specs.{Written.{Written, not_, WrittenModel}, Observable.{macros_of, setting, satisfies, Observable}, Truth.{is_true}}
use Rattle.pc_ground.specs.declared.version.Version.TheVariants.{One}
use Rattle.ask_command.specs.{Queries.{with_axiom, with_denial}, Asking.{word_of}, Words.{Somewhere}, AskAnswers.{IsAllowed, holds_in, IsAskWord}}
use Rattle.ask_command.proofs.{WithAxiom.{satisfies_more}, TrueWords.{Told, word_is, not_true, true_not}}
use Rattle.solver.specs.declared.search.answer.Answer.{Answer, TheVariants.{Observable as a_graph, Unobservable as a_refutation}}
use Rattle.verdicts.{specs.{Verdicts.{status_of}, Certified.{IsCertified}}, proofs.CertifiedTruth.{certified_true}}

module _ (m : WrittenModel) (c : Case) (f : Written) where
  -- the outcome is observable with an axiom more exactly where a world of the model has it true
  seen : Observable (with_axiom m f) c → Somewhere (IsAllowed m c) (holds_in m c f) true
  seen (w, of_both, satisfied) =
      let both : (satisfies m c w && is_true (setting m c w) (macros_of m) [] f) ≡ true = sym (satisfies_more m f c w) ∙ satisfied in (
        w,
        (of_both, and_first (satisfies m c w) (is_true (setting m c w) (macros_of m) [] f) both),
        and_second (satisfies m c w) (is_true (setting m c w) (macros_of m) [] f) both,
      )

  unseen : (Observable (with_axiom m f) c → ⊥) → (w : World Node) → IsAllowed m c w → holds_in m c f w ≡ true → ⊥
  unseen none w allowed holding =
      none (w, allowed.0, satisfies_more m f c w ∙ and_from (satisfies m c w) (is_true (setting m c w) (macros_of m) [] f) allowed.1 holding)

module _ (m : WrittenModel) (c : Case) (f : Written) where
  added_told : (x : Answer) {text : List ℕ} → IsCertified One (with_axiom m f) c (status_of x) text → Told (IsAllowed m c) (holds_in m c f) true x
  added_told (a_graph g) certified = seen m c f ((certified_true certified).0 refl)
  added_told (a_refutation r) certified = unseen m c f ((certified_true certified).1 refl)

  against_told : (x : Answer) {text : List ℕ} → IsCertified One (with_denial m f) c (status_of x) text → Told (IsAllowed m c) (holds_in m c f) false x
  against_told (a_graph g) certified =
      let there = seen m c (not_ f) ((certified_true certified).0 refl) in
      (there.0, there.1, not_true (holds_in m c f there.0) there.2)
  against_told (a_refutation r) certified =
      λ w allowed failing. unseen m c (not_ f) ((certified_true certified).1 refl) w allowed (true_not (holds_in m c f w) failing)

  pub words_told : (x y : Answer) {added against : List ℕ} → IsCertified One (with_axiom m f) c (status_of x) added
      → IsCertified One (with_denial m f) c (status_of y) against → IsAskWord m c f (word_of x y)
  words_told x y first second = word_is (IsAllowed m c) (holds_in m c f) x y (added_told x first) (against_told y second)
