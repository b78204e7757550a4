-- Facts in lists: one more axiom as a fact, the fact of a number, nodes and edges that are lists' members.
use Rattle.std.{proofs.{Common.{◌≡◌, ℕ, ◌+◌, List, [], ◌∷◌, ◌++◌, Some, take, sym, ◌∙◌, ap, subst, true}, lemmas.List.{map-append}}, specs.Prelude.{slice_get}}
use Rattle.pc_syntax.specs.{declared.{closed.Closed.{Closed}, bound.Bound.{Bound}}, Closed.{plain_closed}, IsClosed.{IsClosed}}
use Rattle.pc_ground.specs.Stages.{plain_axioms}
use Rattle.static_preds.{proofs.{Walked.{map_take}, SlotLaws.{no_slots}}, specs.{Slots.{AreInRange}, Values.{scope_of}}}
use Rattle.pc_common.specs.Case.{Case}
use Rattle.lifted_facts.specs.{declared.fact.Fact.{Fact}, PlainFacts.{PlainFact, said, root, IsProper}}

-- one axiom more
pub root_more : (axioms : List Closed) (k : ℕ) (a : Closed) (facts : List PlainFact) → slice_get axioms k ≡ Some a
    → facts ≡ root (plain_axioms (take k axioms)) → facts ++ said true (plain_closed a.body) [] 0 ∷ [] ≡ root (plain_axioms (take (k + 1) axioms))
root_more axioms k a facts at are =
    ap (λ (fs : List PlainFact). fs ++ said true (plain_closed a.body) [] 0 ∷ []) are
    ∙ sym (map-append (λ p. said true p [] 0) (plain_axioms (take k axioms)) (plain_closed a.body ∷ []))
    ∙ ap root (sym (map_take (λ (x : Closed). plain_closed x.body) axioms k a at))

-- an axiom is closed without slots
pub first_proper : (c : Case) (a : Closed) (slots : List Bound) → slots ≡ [] → (f : Fact)
    → (IsClosed (scope_of slots) (plain_closed a.body) → AreInRange c slots → IsProper c f) → IsProper c f
first_proper c a slots none f by =
    let P : List Bound → Type 0 = λ bs. IsClosed (scope_of bs) (plain_closed a.body) in
    let R : List Bound → Type 0 = λ bs. AreInRange c bs in
    by (subst P (sym none) a.closed) (subst R (sym none) (no_slots c))
