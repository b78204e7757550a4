-- A core of a front is one of its model, with certificates.
use Rattle.std.proofs.Common.{◌≡◌, ℕ, zero, suc, ◌<◌, inl, inr, List, [], ◌∷◌, length, map, get_or, refl, sym, ◌∙◌, ap, subst, arith}
use Rattle.std.{proofs.lemmas.List.{length-map}, specs.Prelude.{All}}
use Rattle.pc_common.specs.{Case.{Case}, Steps.{Step}, World.{Node}}
use Rattle.pc_common.specs.declared.status.Status.TheVariants.{Done, Observable as is_observable, Unobservable as is_unobservable}
use Rattle.pc_common.proofs.Elements.{In, in_from_contains}
use Rattle.pc_case.specs.MicroOps.{AreMicroOps}
use Rattle.pc_syntax.specs.{Written.{WrittenModel}, Observable.{axioms_of, macros_of, setting, Observable}, Truth.{is_true}}
use Rattle.pc_ground.specs.{declared.{front.Front.{Front}, version.Version.TheVariants.{One}}, NodeForm.{names_of}}
use Rattle.pc_front.specs.Front.{IsFrontOf}
use Rattle.graph_text.specs.declared.graph.Graph.{Graph}
use Rattle.solver.specs.declared.search.answer.Answer.TheVariants.{Observable as a_graph, Unobservable as a_refutation}
use Rattle.axiom_core.specs.{Chosen.{Choice, among, less, AreRising}, ModelWith.{model_with}, Cores.{AreShownWithout, IsCore, IsCoreOf}}
use Rattle.axiom_core.{specs.declared.answer.Core.{Core, TheVariants.{None as no_axioms, Minimal}}, proofs.{Taking.{all_hold}, AxiomsWith.{satisfies_with}}}
use Rattle.verdicts.{specs.{Verdicts.{IsWritable}, Certified.{IsCertified}}, proofs.CertifiedTruth.{certified_true}}
use Rattle.core_command.specs.{CoreAnswers.{AreCertifiedWithout, IsCoreSet, IsCoreText, no_core, a_core}, Found.{graph_text, tree_text, text_of, CanBeWritten}}
use Rattle.core_command.proofs.PartFronts.{found_certified, found_writable, part_front}

-- an outcome that all axioms allow is allowed by some of them
pub observable_with : (keep : Choice) (m : WrittenModel) (c : Case) → Observable m c → Observable (model_with keep m) c
observable_with keep m c (w, of_both, satisfied) =
    (w, of_both, satisfies_with keep m c w ∙ all_hold (is_true (setting m c w) (macros_of m) []) keep (axioms_of m) satisfied)

-- each member has its world
needed_of : (m : WrittenModel) (c : Case) (keep : Choice) (numbers : List ℕ) (graphs : List (List ℕ)) → AreCertifiedWithout m c keep numbers graphs
    → (i : ℕ) → In i numbers → Observable (model_with (less i keep) m) c
needed_of m c keep [] graphs all i here = absurd here
needed_of m c keep (j ∷ numbers) [] all i here = absurd all
needed_of m c keep (j ∷ numbers) (g ∷ graphs) all i (inl same) =
    let P : ℕ → Type 0 = λ k. Observable (model_with (less k keep) m) c in subst P same ((certified_true all.0).0 refl)
needed_of m c keep (j ∷ numbers) (g ∷ graphs) all i (inr later) = needed_of m c keep numbers graphs all.1 i later

placed : {X : Type 0} (xs : List X) (k : ℕ) (d : X) → k < length xs → In (get_or xs k d) xs
placed [] k d h = absurd (omega arith)
placed (x ∷ xs) zero d h = inl refl
placed (x ∷ xs) (suc k) d h = inr (placed xs k d (omega arith))

each_element : {X : Type 0} (P : X → Type 0) (xs : List X) → ((x : X) → In x xs → P x) → All P xs
each_element P xs each k d inside = each (get_or xs k d) (placed xs k d inside)

module _ (m : WrittenModel) (c : Case) (kept : AreMicroOps c.ops) (front : Front) (is : IsFrontOf m c front) where
  graphs_certified : (keep : Choice) (numbers : List ℕ) (shown : List (Front × Graph)) → AreShownWithout front keep numbers shown
      → AreCertifiedWithout m c keep numbers (map graph_text shown)
  graphs_certified keep [] [] all = tt
  graphs_certified keep [] (s ∷ shown) all = absurd all
  graphs_certified keep (i ∷ numbers) [] all = absurd all
  graphs_certified keep (i ∷ numbers) (s ∷ shown) all = (
    found_certified (model_with (less i keep) m) c kept s.0 (part_front m c front is (less i keep) s.0 all.0.0) (a_graph s.1) all.0.1,
    graphs_certified keep numbers shown all.1,
  )

  axiom_count : length front.axioms ≡ length (axioms_of m)
  axiom_count = sym (length-map front.axioms _) ∙ ap length is.parts.model.axioms ∙ length-map (axioms_of m) _

  core_set : (numbers : List ℕ) (refuted : Front × List (Step Node)) (without : List (Front × Graph)) → IsCore front numbers refuted without
      → IsCoreSet m c numbers (tree_text refuted) (map graph_text without)
  core_set numbers refuted without core =
      let keep = among numbers in
      let tree : IsCertified One (model_with keep m) c is_unobservable (tree_text refuted) =
      found_certified (model_with keep m) c kept refuted.0 (part_front m c front is keep refuted.0 core.refuted.0) (a_refutation refuted.1) core.refuted.1 in
      let graphs : AreCertifiedWithout m c keep numbers (map graph_text without) = graphs_certified keep numbers without core.without in
      let none : Observable (model_with keep m) c → ⊥ = (certified_true tree).1 refl in
      record {
        unobservable = λ o. none (observable_with keep m c o);
        minimal = record {
          rising = let P : ℕ → Type 0 = λ n. AreRising 0 n numbers in subst P axiom_count core.rising;
          unobservable = none;
          needed = λ i has. needed_of m c keep numbers (map graph_text without) graphs i (in_from_contains i numbers has);
        };
        tree = tree;
        graphs = graphs;
      }

  pub core_answer : (core : Core) → IsCoreOf front core → IsCoreText m c Done (text_of front core)
  core_answer (no_axioms graph) f =
      let seen : IsCertified One m c is_observable (graph_text (front, graph)) = found_certified m c kept front is (a_graph graph) f in
      no_core ((certified_true seen).0 refl) seen
  core_answer (Minimal numbers refuted without) core = a_core (core_set numbers refuted without core)

  shown_writable : (keep : Choice) (numbers : List ℕ) (shown : List (Front × Graph)) → AreShownWithout front keep numbers shown
      → (s : Front × Graph) → In s shown → IsWritable (names_of s.0) (a_graph s.1)
  shown_writable keep [] [] all s here = absurd here
  shown_writable keep [] (t ∷ shown) all s here = absurd all
  shown_writable keep (i ∷ numbers) [] all s here = absurd all
  shown_writable keep (i ∷ numbers) (t ∷ shown) all s (inl same) =
      let P : Front × Graph → Type 0 = λ u. IsWritable (names_of u.0) (a_graph u.1) in
      subst P same (found_writable (model_with (less i keep) m) c kept t.0 (part_front m c front is (less i keep) t.0 all.0.0) (a_graph t.1) all.0.1)
  shown_writable keep (i ∷ numbers) (t ∷ shown) all s (inr later) = shown_writable keep numbers shown all.1 s later

  as_many : (keep : Choice) (numbers : List ℕ) (shown : List (Front × Graph)) → AreShownWithout front keep numbers shown → length numbers ≡ length shown
  as_many keep [] [] all = refl
  as_many keep [] (t ∷ shown) all = absurd all
  as_many keep (i ∷ numbers) [] all = absurd all
  as_many keep (i ∷ numbers) (t ∷ shown) all = ap suc (as_many keep numbers shown all.1)

  pub core_writable : (core : Core) → IsCoreOf front core → CanBeWritten front core
  core_writable (no_axioms graph) f = found_writable m c kept front is (a_graph graph) f
  core_writable (Minimal numbers refuted without) core = (
    found_writable (model_with (among numbers) m) c kept refuted.0 (part_front m c front is (among numbers) refuted.0 core.refuted.0)
        (a_refutation refuted.1) core.refuted.1,
    each_element (λ s. IsWritable (names_of s.0) (a_graph s.1)) without (shown_writable (among numbers) numbers without core.without),
    as_many (among numbers) numbers without core.without,
  )
