-- What open branches keep: their facts are of the case, and waiting branches keep facts that are there.
use Rattle.std.proofs.Common.{◌≡◌, ℕ, ◌≤◌, Bool, true, false, List, [], ◌∷◌, ◌++◌, length, take, reverse, sym, ◌∙◌, ap, subst, arith, length-append}
use Rattle.std.proofs.lemmas.List.{reverse-append, length-take-le, Elements.{All-nil, All-push, All-take, All-head, All-tail, All-cons}}
use Rattle.std.specs.Prelude.{All, if◌then◌else◌}
use Rattle.pc_common.specs.Case.{Case}
use Rattle.lifted_facts.specs.{declared.{fact.Fact.{Fact}, waiting.Waiting.{Waiting}}, PlainFacts.{Branch, IsProper}}
use Rattle.lifted_facts.{specs.OpenBranches.{opens_of, AreWithin, AreKept}, proofs.OpenFacts.{within_more, opened_next}}

pub kept_new : (c : Case) (facts : List Fact) (later : List Waiting) → All (IsProper c) facts → later ≡ [] → AreKept c facts later
kept_new c facts later proper none = (let P : List Waiting → Type 0 = λ ls. AreKept c facts ls in
    subst P (sym none) (record { proper = proper; later_proper = All-nil (λ (l : Waiting). IsProper c l.fact); within = tt }))

longer : (facts : List Fact) (x : Fact) → length facts ≤ length (facts ++ x ∷ [])
longer facts x = (let n = length-append facts (x ∷ []) in omega arith)

pub kept_push : (c : Case) (facts new : List Fact) (later : List Waiting) (x : Fact) (ok : Bool) → AreKept c facts later → IsProper c x
    → new ≡ (if ok then facts ++ x ∷ [] else facts) → AreKept c new later
kept_push c facts new later x true kept proper is =
    (let P : List Fact → Type 0 = λ fs. AreKept c fs later in subst P (sym is) (record {
      proper = All-push (IsProper c) facts x kept.proper proper;
      later_proper = kept.later_proper;
      within = within_more (length facts) (length (facts ++ x ∷ [])) (reverse later) (longer facts x) kept.within;
    }))
kept_push c facts new later x false kept proper is = (let P : List Fact → Type 0 = λ fs. AreKept c fs later in subst P (sym is) kept)

-- the last of a list, and those before it
all_first : {X : Type 0} (P : X → Type 0) (xs : List X) (x : X) → All P (xs ++ x ∷ []) → All P xs
all_first P [] x h = All-nil P
all_first P (y ∷ ys) x h = All-cons P y ys (All-head P y (ys ++ x ∷ []) h) (all_first P ys x (All-tail P y (ys ++ x ∷ []) h))

all_last : {X : Type 0} (P : X → Type 0) (xs : List X) (x : X) → All P (xs ++ x ∷ []) → P x
all_last P [] x h = All-head P x [] h
all_last P (y ∷ ys) x h = all_last P ys x (All-tail P y (ys ++ x ∷ []) h)

pub reversed : (older : List Waiting) (w : Waiting) → reverse (older ++ w ∷ []) ≡ w ∷ reverse older
reversed older w = reverse-append older (w ∷ [])

within_next : (n : ℕ) (later older : List Waiting) (w : Waiting) → later ≡ older ++ w ∷ [] → AreWithin n (reverse later) → AreWithin n (w ∷ reverse older)
within_next n later older w is h = (let P : List Waiting → Type 0 = λ ls. AreWithin n ls in subst P (ap reverse is ∙ reversed older w) h)

pub kept_next : (c : Case) (facts new : List Fact) (later older : List Waiting) (w : Waiting) (ok : Bool) → AreKept c facts later → later ≡ older ++ w ∷ []
    → new ≡ (if ok then take w.count facts ++ w.fact ∷ [] else take w.count facts) → AreKept c new older
kept_next c facts new later older w ok kept is made =
    let L : Waiting → Type 0 = λ l. IsProper c l.fact in
    let A : List Waiting → Type 0 = λ ls. All L ls in
    let both = subst A is kept.later_proper in
    let within = within_next (length facts) later older w is kept.within in
    let W : ℕ → Type 0 = λ n. AreWithin n (reverse older) in
    kept_push c (take w.count facts) new older w.fact ok
    (record {
      proper = All-take (IsProper c) w.count facts kept.proper;
      later_proper = all_first L older w both;
      within = subst W (sym (length-take-le w.count facts within.0)) within.1;
    })
    (all_last L older w both) made

pub opened_later : (c : Case) (is_open : Bool) (facts new : List Fact) (later older : List Waiting) (w : Waiting)
    → AreKept c facts later → later ≡ older ++ w ∷ []
    → new ≡ take w.count facts ++ w.fact ∷ [] → (b : Branch) (rest : List Branch) → opens_of is_open facts (reverse later) ≡ b ∷ rest
    → opens_of is_open new (reverse older) ≡ rest
opened_later c is_open facts new later older w kept is made b rest e =
    opened_next is_open facts new w (reverse older) made (within_next (length facts) later older w is kept.within) b rest
    (sym (ap (opens_of is_open facts) (ap reverse is ∙ reversed older w)) ∙ e)

-- one more branch that waits, with all facts and one more
pub kept_later : (c : Case) (facts : List Fact) (later new : List Waiting) (w : Waiting) (ok : Bool) → AreKept c facts later → IsProper c w.fact
    → w.count ≡ length facts → new ≡ (if ok then later ++ w ∷ [] else later) → AreKept c facts new
kept_later c facts later new w true kept proper count is =
    let L : Waiting → Type 0 = λ l. IsProper c l.fact in
    let P : List Waiting → Type 0 = λ ls. AreKept c facts ls in
    let W : List Waiting → Type 0 = λ ls. AreWithin (length facts) ls in
    let N : ℕ → Type 0 = λ n. AreWithin n (reverse later) in
    subst P (sym is) (record {
      proper = kept.proper;
      later_proper = All-push L later w kept.later_proper proper;
      within = subst W (sym (reversed later w)) (omega (arith, count), subst N (sym count) kept.within);
    })
kept_later c facts later new w false kept proper count is = (let P : List Waiting → Type 0 = λ ls. AreKept c facts ls in subst P (sym is) kept)
