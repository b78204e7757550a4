-- The set of facts as a list of plain facts: look-ups, and a fact more.
use Rattle.std.proofs.Common.{◌≡◌, ◌⊎◌, inl, inr, true, List, [], ◌∷◌, ◌++◌, map, length, take, refl, sym, ap, subst}
use Rattle.std.proofs.{Math.Seq.{take-append_seam, take-length}, lemmas.Bool.{or_left, or_right}}
use Rattle.std.specs.{Prelude.{Contains, IsTrue, ◌↔◌}, List.{list_any}}
use Rattle.indexmap.specs.IndexSet.{insert_key}
use Rattle.pc_common.proofs.Elements.{In, in_from_contains, contains_from_in, in_front, in_back, in_either}
use Rattle.pc_common.proofs.Bools.{true_or_false, or_either}
use Rattle.refutation.specs.{BranchFacts.{PlainBranchFact, plain_branch_fact}, declared.branch_fact.BranchFact.{BranchFact}}
use Rattle.refutation.proofs.SameBranchFacts.{fact_eq, same_facts, facts_same}

found_in : (f : BranchFact) (fs : List BranchFact) → list_any (fact_eq f) fs ≡ true → In (plain_branch_fact f) (map plain_branch_fact fs)
found_in f [] e = cc
found_in f (g ∷ gs) e = elim (or_either (fact_eq f g) (list_any (fact_eq f) gs) e) [ inl h ↦ inl (sym (same_facts f g h)) | inr h ↦ inr (found_in f gs h) ]

in_found : (f : BranchFact) (fs : List BranchFact) → In (plain_branch_fact f) (map plain_branch_fact fs) → list_any (fact_eq f) fs ≡ true
in_found f [] i = absurd i
in_found f (g ∷ gs) (inl e) = or_left (fact_eq f g) (list_any (fact_eq f) gs) (facts_same f g (sym e))
in_found f (g ∷ gs) (inr i) = or_right (fact_eq f g) (list_any (fact_eq f) gs) (in_found f gs i)

-- a look-up finds a fact where it is one of these
pub found : (f : BranchFact) (fs : List BranchFact) → IsTrue (list_any (fact_eq f) fs) ↔ Contains (map plain_branch_fact fs) (plain_branch_fact f)
found f fs =
    (λ e. contains_from_in (plain_branch_fact f) (map plain_branch_fact fs) (found_in f fs e), λ has. in_found f fs (in_from_contains (plain_branch_fact f) (map plain_branch_fact fs) has))

map_push : (fs : List BranchFact) (f : BranchFact) → map plain_branch_fact (fs ++ f ∷ []) ≡ map plain_branch_fact fs ++ plain_branch_fact f ∷ []
map_push [] f = refl
map_push (g ∷ gs) f = ap (λ ks. plain_branch_fact g ∷ ks) (map_push gs f)

-- the facts once one is added
pub added : (fs : List BranchFact) (f : BranchFact) (k : PlainBranchFact)
    → Contains (map plain_branch_fact (insert_key fact_eq fs f)) k ↔ (Contains (map plain_branch_fact fs) k ⊎ (k ≡ plain_branch_fact f))
added fs f k =
    elim (true_or_false (list_any (fact_eq f) fs)) [ inl h ↦ rw h (here h) | inr h ↦ rw (h, map_push fs f) (behind (map plain_branch_fact fs) (plain_branch_fact f)) ]
  where
    here : list_any (fact_eq f) fs ≡ true → Contains (map plain_branch_fact fs) k ↔ (Contains (map plain_branch_fact fs) k ⊎ (k ≡ plain_branch_fact f))
    here h = (
      λ has. inl has,
      λ either. elim either [
        | inl has ↦ has
        | inr e ↦ (let P : PlainBranchFact → Type 0 = λ x. Contains (map plain_branch_fact fs) x in subst P (sym e) ((found f fs).0 h))
      ],
    )

    behind : (ks : List PlainBranchFact) (x : PlainBranchFact) → Contains (ks ++ x ∷ []) k ↔ (Contains ks k ⊎ (k ≡ x))
    behind ks x = (
      λ has. elim (in_either k ks (x ∷ []) (in_from_contains k (ks ++ x ∷ []) has)) [
        | inl i ↦ inl (contains_from_in k ks i)
        | inr i ↦ elim i [ inl e ↦ inr (sym e) | inr none ↦ absurd none ]
      ],
      λ either. contains_from_in k (ks ++ x ∷ []) (elim either [
        | inl has ↦ in_front k ks (x ∷ []) (in_from_contains k ks has)
        | inr e ↦ in_back k ks (x ∷ []) (inl (sym e))
      ]),
    )

-- the facts there were come first
pub added_behind : (fs : List BranchFact) (f : BranchFact) → take (length (map plain_branch_fact fs)) (map plain_branch_fact (insert_key fact_eq fs f)) ≡ map plain_branch_fact fs
added_behind fs f = elim (true_or_false (list_any (fact_eq f) fs)) [
  | inl h ↦ rw h (take-length (map plain_branch_fact fs))
  | inr h ↦ rw (h, map_push fs f) (take-append_seam (map plain_branch_fact fs) (plain_branch_fact f ∷ []))
]
