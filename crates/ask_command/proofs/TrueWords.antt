-- The word that two answers tell is true of the formula.
use Rattle.std.proofs.{Common.{◌≡◌, inl, inr, Bool, true, false, not, ◌&&◌, List, [], ◌∷◌, ◌++◌, refl, sym, ◌∙◌, ap}, Math.Bool.{and-true}}
use Rattle.std.{proofs.lemmas.Bool.{and_from}, specs.{List.{list_all}, Prelude.{IsTrue}}}
use Rattle.pc_common.{specs.{Case.{Case}, World.{Node, World, IsWorld}}, proofs.Bools.{true_or_false, and_first, and_second, and_assoc, not_both}}
use Rattle.pc_syntax.specs.Closed.{PlainClosed, closed_not, closed_true, closed_satisfies}
use Rattle.pc_ground.specs.{declared.{front.Front.{Front}, stage.Stage.{Stage}}, Stages.{plain_axioms}}
use Rattle.solver.specs.declared.search.answer.Answer.{Answer, TheVariants.{Observable, Unobservable}}
use Rattle.search_trait.{specs.Found.{IsFound}, proofs.FoundFronts.{found_world, found_none}}
use Rattle.ask_command.specs.{Asking.{IsFrontMore, word_of}, Words.{Somewhere, Everywhere, IsWord, IsClosedWorld, WordsAreTrue}}

pub not_true : (b : Bool) → (not b) ≡ true → b ≡ false
not_true true e = cc
not_true false e = refl

pub true_not : (b : Bool) → b ≡ false → (not b) ≡ true
true_not true e = cc
true_not false e = refl

module _ (Allowed : World Node → Type 0) (holds : World Node → Bool) where
  -- what an answer says of a value: a graph that the formula has it in some allowed world, a refutation that it has it in none
  abbrev pub Told : Bool → Answer → Type 0
  Told b (Observable g) = Somewhere Allowed holds b
  Told b (Unobservable r) = (w : World Node) → Allowed w → holds w ≡ b → ⊥

  -- where it has one value nowhere, it has the other everywhere
  only_false : ((w : World Node) → Allowed w → holds w ≡ true → ⊥) → Everywhere Allowed holds false
  only_false none w is = elim (true_or_false (holds w)) [ inl holding ↦ absurd (none w is holding) | inr failing ↦ failing ]

  only_true : ((w : World Node) → Allowed w → holds w ≡ false → ⊥) → Everywhere Allowed holds true
  only_true none w is = elim (true_or_false (holds w)) [ inl holding ↦ holding | inr failing ↦ absurd (none w is failing) ]

  -- the two answers tell the word
  pub word_is : (x y : Answer) → Told true x → Told false y → IsWord Allowed holds (word_of x y)
  word_is (Observable g) (Observable h) x y = (x, y)
  word_is (Observable g) (Unobservable s) x y = (x, only_true y)
  word_is (Unobservable r) (Observable h) x y = (y, only_false x)
  word_is (Unobservable r) (Unobservable s) x y = λ w is. not_both (holds w) (only_true y w is) (only_false x w is)

all_more : (p : PlainClosed → Bool) (xs : List PlainClosed) (x : PlainClosed) → list_all p (xs ++ x ∷ []) ≡ (list_all p xs && p x)
all_more p [] x = and-true (p x)
all_more p (y ∷ ys) x = ap (λ b. p y && b) (all_more p ys x) ∙ and_assoc (p y) (list_all p ys) (p x)

module _ (c : Case) (stages : List Stage) (ps : List PlainClosed) (p : PlainClosed) where
  -- the axioms with this one after them
  satisfied_more : (front : Front) → IsFrontMore c stages ps p front → (w : World Node)
      → closed_satisfies (plain_axioms front.axioms) front.case w ≡ (closed_satisfies ps c w && closed_true c w [] p)
  satisfied_more front is w =
      ap (λ (d : Case). closed_satisfies (plain_axioms front.axioms) d w) is.case
      ∙ ap (λ (qs : List PlainClosed). closed_satisfies qs c w) is.axioms
      ∙ all_more (closed_true c w []) ps p

  seen : (front : Front) → IsFrontMore c stages ps p front → (w : World Node) → IsWorld w
      → IsTrue (closed_satisfies (plain_axioms front.axioms) front.case w) → IsClosedWorld c ps w × (closed_true c w [] p ≡ true)
  seen front is w world h =
      let both : (closed_satisfies ps c w && closed_true c w [] p) ≡ true = sym (satisfied_more front is w) ∙ h in
      ((world, and_first (closed_satisfies ps c w) (closed_true c w [] p) both), and_second (closed_satisfies ps c w) (closed_true c w [] p) both)

  unseen : (front : Front) → IsFrontMore c stages ps p front
      → ((w : World Node) → IsWorld w → IsTrue (closed_satisfies (plain_axioms front.axioms) front.case w) → ⊥)
      → (w : World Node) → IsClosedWorld c ps w → closed_true c w [] p ≡ true → ⊥
  unseen front is none w allowed holding =
      none w allowed.0 (satisfied_more front is w ∙ and_from (closed_satisfies ps c w) (closed_true c w [] p) allowed.1 holding)

module _ (c : Case) (stages : List Stage) (ps : List PlainClosed) (p : PlainClosed) where
  added_told : (front : Front) (x : Answer) → IsFrontMore c stages ps p front → IsFound front x → Told (IsClosedWorld c ps) (λ w. closed_true c w [] p) true x
  added_told front (Observable g) is found =
      let shown = found_world front g found in
      let there = seen c stages ps p front is shown.0 shown.1 shown.2 in (shown.0, there.0, there.1)
  added_told front (Unobservable r) is found = unseen c stages ps p front is (found_none front r found)

  against_told : (front : Front) (x : Answer) → IsFrontMore c stages ps (closed_not p) front → IsFound front x
      → Told (IsClosedWorld c ps) (λ w. closed_true c w [] p) false x
  against_told front (Observable g) is found =
      let shown = found_world front g found in
      let there = seen c stages ps (closed_not p) front is shown.0 shown.1 shown.2 in
      (shown.0, there.0, not_true (closed_true c shown.0 [] p) there.1)
  against_told front (Unobservable r) is found =
      λ w allowed failing. unseen c stages ps (closed_not p) front is (found_none front r found) w allowed (true_not (closed_true c w [] p) failing)

pub words_true : WordsAreTrue
words_true c stages ps p a is =
    word_is (IsClosedWorld c ps) (λ w. closed_true c w [] p) a.added.1 a.against.1
    (added_told c stages ps p a.added.0 a.added.1 is.added.0 is.added.1)
    (against_told c stages ps p a.against.0 a.against.1 is.against.0 is.against.1)
