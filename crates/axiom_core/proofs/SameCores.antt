-- What the search finds of chosen axioms, as what the axioms allow or forbid; and one core by two choices that agree.
use Rattle.std.proofs.Common.{◌≡◌, ℕ, ◌+◌, ◌<◌, Bool, ◌&&◌, not, eqb, List, [], ◌∷◌, ◌++◌, Result, Ok, Err, length, get_or, take, sym, ◌∙◌, ap, subst, arith}
use Rattle.std.{proofs.lemmas.List.{take_more, length-map}, specs.{Prelude.{IfOk, OnOk, ◌↔◌, is_ok, if◌then◌else◌}, Bool.{MatchBool}}}
use Rattle.pc_common.specs.{Case.{Case}, Steps.{Step}, World.{Node}}
use Rattle.pc_syntax.specs.{declared.closed.Closed.{Closed}, Closed.{PlainClosed}}
use Rattle.pc_ground.specs.{declared.front.Front.{Front}, Stages.{plain_axioms}}
use Rattle.graph_text.specs.declared.graph.Graph.{Graph}
use Rattle.solver.specs.declared.search.answer.Answer.{Answer, TheVariants.{Observable, Unobservable}}
use Rattle.search_trait.{specs.Found.{IsFound}, proofs.FoundFronts.{found_world, found_none}}
use Rattle.axiom_core.specs.{Chosen.{Choice, taken, among, less, flagged, AreRising}, Choices.{is_refutation, places, IsTried}}
use Rattle.axiom_core.specs.Cores.{Allow, Forbid, IsMinimal, IsFrontWith, IsRefutedWith, IsShownWith, AreShownWithout, IsCore, IsCoreOf, HasNone}
use Rattle.axiom_core.{specs.declared.answer.Core.{Core, TheVariants.{None as no_core, Minimal}}, proofs.Taking.{same_taken, all_forbid}}
use Rattle.axiom_core.proofs.Numbered.{among_flagged, places_rising}

-- a graph shows that a front's axioms allow, and a refutation that they forbid
pub found_allow : (front : Front) (graph : Graph) → IsFound front (Observable graph) → Allow front.case (plain_axioms front.axioms)
found_allow front graph is = found_world front graph is

pub found_forbid : (front : Front) (steps : List (Step Node)) → IsFound front (Unobservable steps) → Forbid front.case (plain_axioms front.axioms)
found_forbid front steps is = found_none front steps is

module _ (front : Front) (keep : Choice) (part : Front) (is : IsFrontWith front keep part) where
  -- what a part of a front allows and forbids is what the chosen axioms do
  pub part_allow : Allow part.case (plain_axioms part.axioms) → Allow front.case (taken keep (plain_axioms front.axioms))
  part_allow a =
      let P : Case → Type 0 = λ d. Allow d (taken keep (plain_axioms front.axioms)) in
      let Q : List PlainClosed → Type 0 = λ ps. Allow part.case ps in subst P is.case (subst Q is.axioms a)

  pub part_forbid : Forbid part.case (plain_axioms part.axioms) → Forbid front.case (taken keep (plain_axioms front.axioms))
  part_forbid f =
      let P : Case → Type 0 = λ d. Forbid d (taken keep (plain_axioms front.axioms)) in
      let Q : List PlainClosed → Type 0 = λ ps. Forbid part.case ps in subst P is.case (subst Q is.axioms f)

  pub part_judged : (found : Answer) → IsFound part found
      → MatchBool (is_refutation found) (Forbid front.case (taken keep (plain_axioms front.axioms))) (Allow front.case (taken keep (plain_axioms front.axioms)))
  part_judged (Observable graph) w = part_allow (found_allow part graph w)
  part_judged (Unobservable steps) r = part_forbid (found_forbid part steps r)

-- never both
pub never_both : (c : Case) (ps : List PlainClosed) → Allow c ps → Forbid c ps → ⊥
never_both c ps (w, is, h) f = f w is h

module _ (front : Front) (keep : Choice) where
  -- one number more
  pub shown_more : (i : ℕ) (s : Front × Graph) (numbers : List ℕ) (shown : List (Front × Graph)) → AreShownWithout front keep numbers shown
      → IsShownWith front (less i keep) s → AreShownWithout front keep (numbers ++ i ∷ []) (shown ++ s ∷ [])
  shown_more i s [] [] all last = (last, tt)
  shown_more i s [] (t ∷ shown) all last = absurd all
  shown_more i s (j ∷ numbers) [] all last = absurd all
  shown_more i s (j ∷ numbers) (t ∷ shown) all last = (all.0, shown_more i s numbers shown all.1 last)

  -- a loop that has the graphs of the first numbers, and comes to the next
  pub shown_next : (numbers : List ℕ) (k : ℕ) (s : Front × Graph) (shown new : List (Front × Graph)) → k < length numbers
      → AreShownWithout front keep (take k numbers) shown → IsShownWith front (less (get_or numbers k 0) keep) s → new ≡ shown ++ s ∷ []
      → AreShownWithout front keep (take (k + 1) numbers) new
  shown_next numbers k s shown new inside all next is =
      let P : List ℕ → Type 0 = λ ks. AreShownWithout front keep ks new in
      let Q : List (Front × Graph) → Type 0 = λ ss. AreShownWithout front keep (take k numbers ++ get_or numbers k 0 ∷ []) ss in
      subst P (sym (take_more numbers k 0 inside)) (subst Q (sym is) (shown_more (get_or numbers k 0) s (take k numbers) shown all next))

-- what was pushed, where memory was not refused
pub pushed : {E : Type 0} (front : Front) (keep : Choice) (s : Front × Graph) (old new : List (Front × Graph)) (r : Result Unit E) → IsShownWith front keep s
    → new ≡ (if is_ok r then old ++ s ∷ [] else old) → OnOk r ((t : Front × Graph) × IsShownWith front keep t × (new ≡ old ++ t ∷ []))
pushed front keep s old new (Ok u) is e = (s, is, e)
pushed front keep s old new (Err x) is e = tt

-- the front of copies of the chosen axioms
pub part_is : {E : Type 0} (front : Front) (keep : Choice) (case : Case) (axioms : List Closed) (r : Result Front E) → case ≡ front.case
    → plain_axioms axioms ≡ taken keep (plain_axioms front.axioms)
    → IfOk r (λ f. f.case ≡ case) → IfOk r (λ f. f.stages ≡ front.stages) → IfOk r (λ f. f.axioms ≡ axioms) → IfOk r (IsFrontWith front keep)
part_is front keep case axioms (Ok part) same chosen c s a = record { case = c ∙ same; stages = s; axioms = ap plain_axioms a ∙ chosen }
part_is front keep case axioms (Err e) same chosen c s a = tt

module _ (front : Front) (keep other : Choice) (same : (k : ℕ) → keep k ≡ other k) where
  less_same : (i k : ℕ) → less i keep k ≡ less i other k
  less_same i k = ap (λ b. b && not (eqb k i)) (same k)

  front_same : (part : Front) → IsFrontWith front keep part → IsFrontWith front other part
  front_same part is = record {
    case = is.case;
    stages = is.stages;
    axioms = is.axioms ∙ same_taken keep other (plain_axioms front.axioms) (λ k h. same k);
  }

  pub refuted_same : (r : Front × List (Step Node)) → IsRefutedWith front keep r → IsRefutedWith front other r
  refuted_same r is = (front_same r.0 is.0, is.1)

module _ (front : Front) (keep other : Choice) (same : (k : ℕ) → keep k ≡ other k) where
  shown_same : (i : ℕ) (s : Front × Graph) → IsShownWith front (less i keep) s → IsShownWith front (less i other) s
  shown_same i s is = (front_same front (less i keep) (less i other) (less_same front keep other same i) s.0 is.0, is.1)

  pub all_shown_same : (numbers : List ℕ) (shown : List (Front × Graph)) → AreShownWithout front keep numbers shown → AreShownWithout front other numbers shown
  all_shown_same [] [] all = tt
  all_shown_same [] (t ∷ shown) all = absurd all
  all_shown_same (j ∷ numbers) [] all = absurd all
  all_shown_same (j ∷ numbers) (t ∷ shown) all = (shown_same j t all.0, all_shown_same numbers shown all.1)

  pub minimal_same : (c : Case) (ps : List PlainClosed) → IsMinimal c ps keep → IsMinimal c ps other
  minimal_same c ps is = record {
    forbidden =
        let P : List PlainClosed → Type 0 = λ qs. Forbid c qs in
        subst P (same_taken keep other ps (λ k h. same k)) is.forbidden;
    needed = λ i inside kept.
        let P : List PlainClosed → Type 0 = λ qs. Allow c qs in
        subst P (same_taken (less i keep) (less i other) ps (λ k h. less_same front keep other same i k)) (is.needed i inside (same i ∙ kept));
  }

-- the core of the flags that a loop over all axioms left
pub core_of_flags : (front : Front) (flags : List Bool) (kept : List ℕ) (refuted : Front × List (Step Node)) (without : List (Front × Graph))
    → IsTried front.case (plain_axioms front.axioms) flags (length flags)
    → kept ≡ places (flagged flags) (length flags) → IsRefutedWith front (flagged flags) refuted → AreShownWithout front (flagged flags) kept without
    → IsCore front kept refuted without
core_of_flags front flags kept refuted without t is r s =
    let axioms : length (plain_axioms front.axioms) ≡ length front.axioms = length-map front.axioms _ in
    let size : length flags ≡ length front.axioms = t.size ∙ axioms in
    let same : (k : ℕ) → flagged flags k ≡ among kept k = λ k. sym (ap (λ ks. among ks k) is ∙ among_flagged flags k) in
    record {
      rising =
          let P : List ℕ → Type 0 = λ ks. AreRising 0 (length front.axioms) ks in
          let Q : ℕ → Type 0 = λ n. AreRising 0 n (places (flagged flags) (length flags)) in
          subst P (sym is) (subst Q size (places_rising (flagged flags) (length flags)));
      minimal = minimal_same front (flagged flags) (among kept) same front.case (plain_axioms front.axioms) (record {
        forbidden = t.forbidden;
        needed = λ k inside flag. t.needed k (omega (arith, inside, t.size)) flag;
      });
      refuted = refuted_same front (flagged flags) (among kept) same refuted r;
      without = all_shown_same front (flagged flags) (among kept) same kept without s;
    }

-- a core is none exactly where the axioms allow
pub core_none : (front : Front) (found : Core) → IsCoreOf front found → HasNone found ↔ Allow front.case (plain_axioms front.axioms)
core_none front (no_core graph) is = (λ none. found_allow front graph is, λ allow. tt)
core_none front (Minimal kept refuted without) is = (
  λ none. absurd none,
  λ allow. never_both front.case (plain_axioms front.axioms) allow (all_forbid front.case (plain_axioms front.axioms) (among kept) is.minimal.forbidden),
)

pub core_none_ok : {E : Type 0} (front : Front) (r : Result Core E) → IfOk r (IsCoreOf front)
    → IfOk r (λ found. HasNone found ↔ Allow front.case (plain_axioms front.axioms))
core_none_ok front (Ok found) is = core_none front found is
core_none_ok front (Err e) is = tt
