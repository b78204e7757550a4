-- The axioms as facts, one by one.
use Rattle.std.proofs.{Common.{◌≡◌, ℕ, suc, ◌<◌, ◌≤◌, true, List, [], ◌∷◌, Some, length, get_or, map, refl, sym, ◌∙◌, ap, arith}, lemmas.List.{drop_all}}
use Rattle.std.{proofs.lemmas.Option.{slice_get_read}, specs.Prelude.{slice_get}}
use Rattle.pc_common.specs.Case.{Case}
use Rattle.pc_syntax.specs.{declared.closed.Closed.{Closed}, Closed.{plain_closed}}
use Rattle.pc_ground.specs.{Tree.{always}, Stages.{plain_axioms}}
use Rattle.lifted_facts.specs.PlainFacts.{PlainFact, said, root}
use Rattle.lifter.{specs.{Trees.{fact_tree, joined_trees}, PartLists.{facts_from}}, proofs.RootTrees.{axiom_there}}

pub as_many : (axioms : List Closed) → length (root (plain_axioms axioms)) ≡ length axioms
as_many [] = refl
as_many (a ∷ as_) = ap suc (as_many as_)

-- after the last axiom nothing is left
pub none_behind : (c : Case) (axioms : List Closed) (k : ℕ) → length axioms ≤ k → facts_from c (root (plain_axioms axioms)) k ≡ always
none_behind c axioms k past =
    let same = as_many axioms in
    ap (λ fs. joined_trees true (map (fact_tree c) fs)) (drop_all k (root (plain_axioms axioms)) (omega (arith, past, same)))

-- the fact of the axiom at a place
pub axiom_said : (axioms : List Closed) (k : ℕ) (a : Closed) (f : PlainFact) → k < length axioms → a ≡ get_or axioms k a
    → f ≡ said true (plain_closed a.body) [] 0
    → slice_get (root (plain_axioms axioms)) k ≡ Some f
axiom_said axioms k a f within is same =
    axiom_there axioms k a (slice_get_read axioms (length axioms) k a refl within is) ∙ ap (λ (g : PlainFact). Some g) (sym same)
