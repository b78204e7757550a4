-- What the search finds of a row's ground tree answers the row, and answers come one after the other.
use Rattle.std.proofs.{Common.{◌≡◌, ℕ, inl, inr, Bool, false, List, [], ◌∷◌, ◌++◌, Some, length, sym, ◌∙◌, ap, subst, arith, slice_get}, lemmas.Bool.{cases_lt}}
use Rattle.std.{proofs.lemmas.{List.{length-append}, Option.{slice_get_within, slice_get-get_or}}, specs.Prelude.{unwrap_or, get_or}}
use Rattle.pc_common.{specs.{Case.{Case}, World.{Node}}, proofs.Places.{slice_get-more}}
use Rattle.pc_syntax.{specs.Closed.{PlainClosed}, proofs.Slots.{slice_get-end}}
use Rattle.pc_ground.specs.{Tree.{Tree}, Rows.{rows_of}, Folded.{IsFolded}, GroundTree.{axioms_unfolded, closed_ground_tree}}
use Rattle.pc_ground.{specs.declared.version.Version.{Version}, proofs.{UnfoldedTruth.{closed_ground_tree_true}, NormalForms.{normal_folded}}}
use Rattle.pc_ground.proofs.FlatRows.{rows_injective}
use Rattle.solver.specs.{Answers.{IsAnswer}, declared.search.answer.Answer.{Answer, TheVariants.{Observable, Unobservable}}}
use Rattle.sweep_command.specs.Sweeps.{IsAnswerTo, is_graph}

-- a constant stands in the ground tree of closed axioms only where it is the whole tree
pub row_folded : (axioms : List PlainClosed) (c : Case) (t : Tree Node) → rows_of (closed_ground_tree c axioms) ≡ rows_of t → IsFolded t
row_folded axioms c t same =
    subst IsFolded (rows_injective (closed_ground_tree c axioms) t same) (normal_folded (axioms_unfolded c axioms))

-- a graph shows a world, and a refutation that there is none
pub answered : (axioms : List PlainClosed) (c : Case) (version : Version) (nodes : List Node) (found : Answer)
    → IsAnswer version nodes (closed_ground_tree c axioms) found → IsAnswerTo axioms c (is_graph found)
answered axioms c version nodes (Observable graph) is =
    (is.world, is.is_world, closed_ground_tree_true c axioms is.world ∙ is.satisfied)
answered axioms c version nodes (Unobservable steps) is =
    λ h. is.1 h.0 h.1 (sym (closed_ground_tree_true c axioms h.0) ∙ h.2)

-- the same of what stands at each place, and of one more after the others
pub answers_more : (P : ℕ → Bool → Type 0) (answers more : List Bool) (b : Bool) (n : ℕ) → more ≡ answers ++ b ∷ [] → length answers ≡ n → P n b
    → ((k : ℕ) (x : Bool) → slice_get answers k ≡ Some x → P k x) → (k : ℕ) (x : Bool) → slice_get more k ≡ Some x → P k x
answers_more P answers more b n grown count here before k x at =
    let inside = slice_get_within more k x at in
    let size = ap length grown ∙ length-append answers (b ∷ []) in elim (cases_lt k (length answers)) [
      | inl earlier ↦
          let y : Bool = get_or answers k false in
          let own : slice_get answers k ≡ Some y = slice_get-get_or answers k false earlier in
          let found : slice_get more k ≡ Some y = ap (λ xs. slice_get xs k) grown ∙ slice_get-more answers (b ∷ []) k y own in
          let same : y ≡ x = ap (λ o. unwrap_or o x) (sym found ∙ at) in before k x (own ∙ ap Some same)
      | inr past ↦
          let last : length answers ≡ k = omega (arith, inside, size, past) in
          let found : slice_get more k ≡ Some b = ap (λ xs. slice_get xs k) grown ∙ slice_get-end answers b [] k last in
          let same : b ≡ x = ap (λ o. unwrap_or o x) (sym found ∙ at) in
          subst (λ j. P j x) (sym count ∙ last) (subst (P n) same here)
    ]
