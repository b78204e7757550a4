-- What steps make of the open branches as lists of facts.
use Rattle.std.proofs.Common.{◌≡◌, ℕ, suc, ◌≤◌, Bool, true, false, List, [], ◌∷◌, ◌++◌, length, map, take, refl, sym, ◌∙◌, ap, subst, arith}
use Rattle.std.proofs.{Math.Seq.{take-append_seam}, lemmas.List.{map-append, take-map, take-append-le, length-take-le}}
use Rattle.pc_common.specs.Case.{Case}
use Rattle.lifted_facts.specs.{declared.{fact.Fact.{Fact}, waiting.Waiting.{Waiting}, way.Way.{Way}}, PlainFacts.{PlainFact, Branch, plain_fact}}
use Rattle.lifted_facts.specs.{Lifted.{derive, split, HasPart, HasSides, HasAdvanced}, OpenBranches.{waiting, opens_of, AreWithin}}

-- more facts after those that waiting branches keep change none of them
pub waiting_more : (b more : Branch) (ls : List Waiting) → AreWithin (length b) ls → waiting (b ++ more) ls ≡ waiting b ls
waiting_more b more [] within = refl
waiting_more b more (l ∷ ls) within =
    ap (λ (first : Branch). (first ++ plain_fact l.fact ∷ []) ∷ waiting first ls) (take-append-le l.count b more within.0)

within_map : (facts : List Fact) (ls : List Waiting) → AreWithin (length facts) ls → AreWithin (length (map plain_fact facts)) ls
within_map facts ls h = (let P : ℕ → Type 0 = λ n. AreWithin n ls in subst P (sym (mapped facts)) h)
  where
    mapped : (fs : List Fact) → length (map plain_fact fs) ≡ length fs
    mapped [] = refl
    mapped (f ∷ fs) = ap suc (mapped fs)

pub within_more : (n m : ℕ) (ls : List Waiting) → n ≤ m → AreWithin n ls → AreWithin m ls
within_more n m [] le h = tt
within_more n m (l ∷ ls) le h = (omega (arith, h.0, le), h.1)

map_push : (facts : List Fact) (x : Fact) → map plain_fact (facts ++ x ∷ []) ≡ map plain_fact facts ++ plain_fact x ∷ []
map_push facts x = map-append plain_fact facts (x ∷ [])

-- a branch with one fact more
pub opens_push : (facts new : List Fact) (x : Fact) (ls : List Waiting) → new ≡ facts ++ x ∷ [] → AreWithin (length facts) ls
    → opens_of true new ls ≡ (map plain_fact facts ++ plain_fact x ∷ []) ∷ waiting (map plain_fact facts) ls
opens_push facts new x ls is within =
    let same : map plain_fact new ≡ map plain_fact facts ++ plain_fact x ∷ [] = ap (map plain_fact) is ∙ map_push facts x in
    ap (λ (b : Branch). b ∷ waiting b ls) same
    ∙ ap (λ (bs : List Branch). (map plain_fact facts ++ plain_fact x ∷ []) ∷ bs)
    (waiting_more (map plain_fact facts) (plain_fact x ∷ []) ls (within_map facts ls within))

pub did_derive : (c : Case) (way : Way) (k : ℕ) (is_open : Bool) (facts new : List Fact) (x : Fact) (ls : List Waiting) → is_open ≡ true
    → HasPart c (map plain_fact facts) way k (plain_fact x) → new ≡ facts ++ x ∷ [] → AreWithin (length facts) ls
    → HasAdvanced c (derive way k) (opens_of is_open facts ls) (opens_of is_open new ls) true
did_derive c way k true facts new x ls is_so part is within =
    ((map plain_fact facts ++ plain_fact x ∷ []) ∷ [], (plain_fact x, part, refl), opens_push facts new x ls is within)
did_derive c way k false facts new x ls is_so part is within = cc

pub no_derive : (c : Case) (way : Way) (k : ℕ) (is_open : Bool) (facts : List Fact) (ls : List Waiting) (new : List Branch)
    → ((g : PlainFact) → HasPart c (map plain_fact facts) way k g → ⊥) → HasAdvanced c (derive way k) (opens_of is_open facts ls) new false
no_derive c way k true facts ls new none = λ rest a. none a.1.0 a.1.1
no_derive c way k false facts ls new none = λ rest a. a

pub no_split : (c : Case) (k : ℕ) (is_open : Bool) (facts : List Fact) (ls : List Waiting) (new : List Branch)
    → ((g h : PlainFact) → HasSides c (map plain_fact facts) k g h → ⊥) → HasAdvanced c (split k) (opens_of is_open facts ls) new false
no_split c k true facts ls new none = λ rest a. none a.1.0 a.1.1 a.1.2
no_split c k false facts ls new none = λ rest a. a

pub did_split : (c : Case) (k : ℕ) (is_open : Bool) (facts new : List Fact) (x y : Fact) (ls : List Waiting) (w : Waiting) → is_open ≡ true
    → HasSides c (map plain_fact facts) k (plain_fact x) (plain_fact y) → new ≡ facts ++ x ∷ [] → w.count ≡ length facts → w.fact ≡ y
    → AreWithin (length facts) ls
    → HasAdvanced c (split k) (opens_of is_open facts ls) (opens_of is_open new (w ∷ ls)) true
did_split c k false facts new x y ls w is_so has is count fact within = cc
did_split c k true facts new x y ls w is_so has is count fact within =
    ((b ++ plain_fact x ∷ []) ∷ (b ++ plain_fact y ∷ []) ∷ [], (plain_fact x, plain_fact y, has, refl), all)
  where
    b : Branch
    b = map plain_fact facts

    mapped : (fs : List Fact) → length (map plain_fact fs) ≡ length fs
    mapped [] = refl
    mapped (f ∷ fs) = ap suc (mapped fs)

    kept : take w.count (b ++ plain_fact x ∷ []) ≡ b
    kept = ap (λ n. take n (b ++ plain_fact x ∷ [])) (count ∙ sym (mapped facts)) ∙ take-append_seam b (plain_fact x ∷ [])

    all : opens_of true new (w ∷ ls) ≡ (b ++ plain_fact x ∷ []) ∷ (b ++ plain_fact y ∷ []) ∷ waiting b ls
    all = ap (λ (fs : Branch). fs ∷ waiting fs (w ∷ ls)) (ap (map plain_fact) is ∙ map_push facts x)
        ∙ ap (λ (first : Branch). (b ++ plain_fact x ∷ []) ∷ (first ++ plain_fact w.fact ∷ []) ∷ waiting first ls) kept
        ∙ ap (λ (f : Fact). (b ++ plain_fact x ∷ []) ∷ (b ++ plain_fact f ∷ []) ∷ waiting b ls) fact

pub opened_next : (is_open : Bool) (facts new : List Fact) (w : Waiting) (ls : List Waiting) → new ≡ take w.count facts ++ w.fact ∷ []
    → AreWithin (length facts) (w ∷ ls) → (b : Branch) (rest : List Branch) → opens_of is_open facts (w ∷ ls) ≡ b ∷ rest → opens_of is_open new ls ≡ rest
opened_next false facts new w ls is within b rest e = cc
opened_next true facts new w ls is within b rest e =
    let cut : List Fact = take w.count facts in
    let count : length cut ≡ w.count = length-take-le w.count facts within.0 in
    let W : ℕ → Type 0 = λ n. AreWithin n ls in
    let same : map plain_fact cut ≡ take w.count (map plain_fact facts) = sym (take-map plain_fact w.count facts) in
    let here : (take w.count (map plain_fact facts) ++ plain_fact w.fact ∷ []) ∷ waiting (take w.count (map plain_fact facts)) ls ≡ rest = cc in
    opens_push cut new w.fact ls is (subst W (sym count) within.1)
    ∙ ap (λ (first : Branch). (first ++ plain_fact w.fact ∷ []) ∷ waiting first ls) same ∙ here
