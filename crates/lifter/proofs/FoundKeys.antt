-- Look-ups by facts of a branch, in lists of plain ones with their numbers, and one more.
use Rattle.std.proofs.Common.{◌≡◌, ◌⊎◌, inl, inr, ℕ, Bool, true, false, List, [], ◌∷◌, ◌++◌, Option, Some, None, cond, refl, sym, ◌∙◌, ap, subst}
use Rattle.std.{proofs.lemmas.List.{append-nil, map-append}, specs.{Prelude.{MatchOption}, Map.{lookup}}}
use Rattle.indexmap.specs.IndexMap.{insert_entry}
use Rattle.pc_common.proofs.{Elements.{In, in_back, in_either}, Bools.{true_or_false}}
use Rattle.refutation.specs.{BranchFacts.{PlainBranchFact, plain_branch_fact}, declared.branch_fact.BranchFact.{BranchFact}}
use Rattle.refutation.proofs.SameBranchFacts.{fact_eq, same_facts, facts_same}
use Rattle.lifter.specs.KnownFacts.{Entry, entry, entries_of, HasMarked}

first_some : (b : Bool) (x k : ℕ) (r : Option ℕ) → cond b (Some x) r ≡ Some k → ((b ≡ true) × (x ≡ k)) ⊎ (r ≡ Some k)
first_some true x k r e = inl (refl, cc)
first_some false x k r e = inr e

first_none : (b : Bool) (x : ℕ) (r : Option ℕ) → cond b (Some x) r ≡ None → (b ≡ false) × (r ≡ None)
first_none true x r e = cc
first_none false x r e = (refl, e)

pub found_some : (key : BranchFact) (k : ℕ) (es : List (BranchFact × ℕ)) → lookup (fact_eq key) es ≡ Some k → In (entry (plain_branch_fact key) k) (entries_of es)
found_some key k [] e = cc
found_some key k (x ∷ es) e = elim (first_some (fact_eq key x.0) x.1 k (lookup (fact_eq key) es) e) [
  | inl h ↦ inl (ap (λ p. entry p x.1) (sym (same_facts key x.0 h.0)) ∙ ap (entry (plain_branch_fact key)) h.1)
  | inr h ↦ inr (found_some key k es h)
]

both_parts : (p q : PlainBranchFact) (j k : ℕ) → entry p j ≡ entry q k → p ≡ q
both_parts p q j k e = ap (λ (x : Entry). x.0) e

pub found_none : (key : BranchFact) (es : List (BranchFact × ℕ)) → lookup (fact_eq key) es ≡ None → (k : ℕ) → In (entry (plain_branch_fact key) k) (entries_of es) → ⊥
found_none key [] e k i = i
found_none key (x ∷ es) e k (inl same) =
    let n = first_none (fact_eq key x.0) x.1 (lookup (fact_eq key) es) e in
    let agreed = facts_same key x.0 (sym (both_parts (plain_branch_fact x.0) (plain_branch_fact key) x.1 k same)) in
    let clash : true ≡ false = sym agreed ∙ n.0 in cc
found_none key (x ∷ es) e k (inr i) = found_none key es (first_none (fact_eq key x.0) x.1 (lookup (fact_eq key) es) e).1 k i

-- a key that is there already
pub marked_before : (es : List Entry) (key : PlainBranchFact) (j k : ℕ) → In (entry key j) es → HasMarked es key k es
marked_before es key j k i = record {
  more = [];
  first = sym (append-nil es);
  each = λ other n here. inl here;
  has = (j, i);
}

-- a key that was not there
pub marked_new : (es new : List (BranchFact × ℕ)) (key : BranchFact) (k : ℕ) → new ≡ es ++ (key, k) ∷ [] → HasMarked (entries_of es) (plain_branch_fact key) k (entries_of new)
marked_new es new key k is =
    let all : entries_of new ≡ entries_of es ++ entry (plain_branch_fact key) k ∷ [] = ap entries_of is ∙ map-append _ es ((key, k) ∷ []) in
    record {
      more = entry (plain_branch_fact key) k ∷ [];
      first = all;
      each = λ other j here.
          let P : List Entry → Type 0 = λ xs. In (entry other j) xs in
          elim (in_either (entry other j) (entries_of es) (entry (plain_branch_fact key) k ∷ []) (subst P all here)) [
            | inl i ↦ inl i
            | inr i ↦ elim i [
              | inl e ↦ inr (ap (λ (x : Entry). x.0) e, ap (λ (x : Entry). x.1) e)
              | inr none ↦ absurd none
            ]
          ];
      has = (
        k,
        (let P : List Entry → Type 0 = λ xs. In (entry (plain_branch_fact key) k) xs in subst P (sym all)
            (in_back (entry (plain_branch_fact key) k) (entries_of es) (entry (plain_branch_fact key) k ∷ []) (inl refl))),
      );
    }

-- what a look-up answers
pub get_found : (key : BranchFact) (es : List (BranchFact × ℕ)) (r : Option ℕ) → r ≡ lookup (fact_eq key) es
    → MatchOption r ((k : ℕ) → In (entry (plain_branch_fact key) k) (entries_of es) → ⊥) (λ k. In (entry (plain_branch_fact key) k) (entries_of es))
get_found key es None e = found_none key es (sym e)
get_found key es (Some k) e = found_some key k es (sym e)

-- a key that no entry has is put after the others
pub put_last : (key : BranchFact) (k : ℕ) (es : List (BranchFact × ℕ)) → ((j : ℕ) → In (entry (plain_branch_fact key) j) (entries_of es) → ⊥)
    → insert_entry fact_eq es key k ≡ es ++ (key, k) ∷ []
put_last key k [] none = refl
put_last key k (x ∷ es) none =
    elim (true_or_false (fact_eq key x.0)) [
      | inl e ↦ absurd (none x.1 (inl (ap (λ p. entry p x.1) (sym (same_facts key x.0 e)))))
      | inr e ↦ rw e (ap (λ ys. x ∷ ys) (put_last key k es (λ j i. none j (inr i))))
    ]
