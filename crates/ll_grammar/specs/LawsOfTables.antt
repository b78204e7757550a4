-- The two laws of a grammar by computation: the LL(1) condition over a list of all classes, and that each part has
-- a text by a rank of the parts. They stand here, and not among the proofs, since an impl gives them as its laws.
use Rattle.std.proofs.Common.{◌≡◌, ℕ, zero, suc, ◌+◌, ◌<◌, Bool, true, false, not, ◌&&◌, ◌||◌, List, [], ◌∷◌, Option, Some, None, IsTrue, is_some, slice_get, ◌++◌, append_assoc, subst, sym, refl, nat_lt, arith}
use Rattle.std.{proofs.lemmas.{Bool.{ltb-true}, List.{append-nil}}, specs.List.{list_all}}
use Rattle.ll_grammar.specs.Rules.{Rules, Yields, Yields.{done, class as r_class, ends as r_ends, begins as r_begins}}
use Rattle.ll_grammar.specs.{Predictable.{MayFollow, IsFollowed, IsPredictable, HasTexts}, declared.grammar.Symbol.{Symbol}}
use Rattle.ll_grammar.specs.declared.grammar.Symbol.TheVariants.{Terminal as a_terminal, Nonterminal as a_nonterminal}

-- two lists of symbols, one after the other, read their texts one after the other
pub yields-append : {C N : Type 0} {g : Rules C N} {front back : List (Symbol C N)} {cs ds : List C} {ms ns : List Bool}
    → Yields g front cs ms → Yields g back ds ns → Yields g (front ++ back) (cs ++ ds) (ms ++ ns)
yields-append done behind = behind
yields-append (r_class front) behind = r_class (yields-append front behind)
yields-append (r_ends e front) behind = r_ends e (yields-append front behind)
yields-append {C} {N} {g} {back = back} {ds = ds} {ns = ns}
    (r_begins {rest = rest} {cs = cs} {marks = marks} body e front) behind =
    r_begins body e
    (subst (λ (symbols : List (Symbol C N)). Yields g symbols (cs ++ ds) (marks ++ ns)) (append_assoc body rest back)
    (yields-append front behind))

both : (a b : Bool) → (a && b) ≡ true → (a ≡ true) × (b ≡ true)
both true b e = (refl, e)
both false b e = absurd (cc)

implies : (a b : Bool) → (not a || b) ≡ true → a ≡ true → b ≡ true
implies true b e h = e
implies false b e h = absurd (cc)

none_from : {X : Type 0} (o : Option X) → not (is_some o) ≡ true → o ≡ None
none_from None e = refl
none_from (Some x) e = absurd (cc)

-- each class stands in the list, at a place
abbrev pub AreListed : {C : Type 0} → List C → Type 0
AreListed {C} classes = (c : C) → (k : ℕ) × (slice_get classes k ≡ Some c)

-- a test of all elements holds of the one at a place
pub all_at : {X : Type 0} (p : X → Bool) (xs : List X) (i : ℕ) (x : X) → list_all p xs ≡ true → slice_get xs i ≡ Some x
    → p x ≡ true
all_at p [] i x all e = absurd (cc)
all_at p (y ∷ xs) zero x all e =
    let same : y ≡ x = cc in subst (λ z. p z ≡ true) same (both (p y) (list_all p xs) all).0
all_at p (y ∷ xs) (suc i) x all e = all_at p xs i x (both (p y) (list_all p xs) all).1 e

module _ {C N : Type 0} (g : Rules C N) (follow : N → C → Bool) (classes : List C) where
  -- whether no class meets the first test and misses the second
  abbrev pub implied : (C → Bool) → (C → Bool) → Bool
  implied p q = list_all (λ c. not (p c) || q c) classes

  abbrev pub may_follow : (n m : N) → List (Symbol C N) → Bool
  may_follow n m [] = implied (follow n) (follow m)
  may_follow n m (a_terminal c ∷ rest) = follow m c
  may_follow n m (a_nonterminal p ∷ rest) = implied (λ c. is_some (g.production p c)) (follow m)
      && (not (g.is_nullable p) || may_follow n m rest)

  abbrev pub is_followed : N → List (Symbol C N) → Bool
  is_followed n [] = true
  is_followed n (a_terminal c ∷ rest) = is_followed n rest
  is_followed n (a_nonterminal m ∷ rest) = may_follow n m rest && is_followed n rest

  abbrev pub is_closed : N → Option (List (Symbol C N)) → Bool
  is_closed n None = true
  is_closed n (Some body) = is_followed n body

  -- whether the rules of a part keep the LL(1) condition
  abbrev pub is_predictable_part : N → Bool
  is_predictable_part n =
      list_all (λ c. is_closed n (g.production n c)) classes
      && (not (g.is_nullable n) || implied (follow n) (λ c. not (is_some (g.production n c))))

  module _ (place : C → ℕ) (at_place : (c : C) → slice_get classes (place c) ≡ Some c) where
    implied-true : (p q : C → Bool) → implied p q ≡ true → (c : C) → IsTrue (p c) → IsTrue (q c)
    implied-true p q all c h =
        implies (p c) (q c) (all_at (λ d. not (p d) || q d) classes (place c) c all (at_place c)) h

    may_follow-true : (n m : N) (symbols : List (Symbol C N)) → may_follow n m symbols ≡ true
        → MayFollow g follow m symbols ((d : C) → IsTrue (follow n d) → IsTrue (follow m d))
    may_follow-true n m [] e = implied-true (follow n) (follow m) e
    may_follow-true n m (a_terminal c ∷ rest) e = e
    may_follow-true n m (a_nonterminal p ∷ rest) e =
        let (first, later) = both (implied (λ c. is_some (g.production p c)) (follow m))
        (not (g.is_nullable p) || may_follow n m rest) e in (
          implied-true (λ c. is_some (g.production p c)) (follow m) first,
          λ h. may_follow-true n m rest (implies (g.is_nullable p) (may_follow n m rest) later h),
        )

    is_followed-true : (n : N) (symbols : List (Symbol C N)) → is_followed n symbols ≡ true
        → IsFollowed g follow (λ m. (d : C) → IsTrue (follow n d) → IsTrue (follow m d)) symbols
    is_followed-true n [] e = tt
    is_followed-true n (a_terminal c ∷ rest) e = is_followed-true n rest e
    is_followed-true n (a_nonterminal m ∷ rest) e =
        let (first, later) = both (may_follow n m rest) (is_followed n rest) e in
        (may_follow-true n m rest first, is_followed-true n rest later)

    -- the LL(1) condition, where each part's test computes to true
    pub predictable_by : ((n : N) → is_predictable_part n ≡ true) → IsPredictable g follow
    predictable_by tested = record {
      closed = λ n c body e.
          let first = (both (list_all (λ d. is_closed n (g.production n d)) classes)
          (not (g.is_nullable n) || implied (follow n) (λ d. not (is_some (g.production n d)))) (tested n)).0 in
          let here = all_at (λ d. is_closed n (g.production n d)) classes (place c) c first (at_place c) in
          is_followed-true n body (subst (λ (o : Option (List (Symbol C N))). is_closed n o ≡ true) e here);
      apart = λ n c may follows.
          let later = (both (list_all (λ d. is_closed n (g.production n d)) classes)
          (not (g.is_nullable n) || implied (follow n) (λ d. not (is_some (g.production n d)))) (tested n)).1 in
          let none = implies (g.is_nullable n) (implied (follow n) (λ d. not (is_some (g.production n d)))) later may in
          none_from (g.production n c) (implied-true (follow n) (λ d. not (is_some (g.production n d))) none c follows);
    }

-- each part has a text: it may be empty, or a rule of it leads to parts of lower rank
module _ {C N : Type 0} (g : Rules C N) (first : N → C) (rank : N → ℕ) where
  abbrev pub is_below : ℕ → Symbol C N → Bool
  is_below k (a_terminal c) = true
  is_below k (a_nonterminal m) = nat_lt (rank m) k

  abbrev pub is_ranked_body : ℕ → Option (List (Symbol C N)) → Bool
  is_ranked_body k None = false
  is_ranked_body k (Some body) = list_all (is_below k) body

  abbrev pub is_ranked_part : N → Bool
  is_ranked_part n = g.is_nullable n || is_ranked_body (rank n) (g.production n (first n))

  HasText : N → Type 0
  HasText n = (cs : List C) × (marks : List Bool) × Yields g (a_nonterminal n ∷ []) cs marks

  text_of_body : (k : ℕ) → ((m : N) → rank m < k → HasText m) → (body : List (Symbol C N))
      → list_all (is_below k) body ≡ true
      → (cs : List C) × (marks : List Bool) × Yields g body cs marks
  unfolding HasText
  text_of_body k texts [] e = ([], [], done)
  text_of_body k texts (a_terminal c ∷ rest) e =
      let (cs, marks, reads) = text_of_body k texts rest e in (c ∷ cs, false ∷ marks, r_class reads)
  text_of_body k texts (a_nonterminal m ∷ rest) e =
      let (lower, others) = both (nat_lt (rank m) k) (list_all (is_below k) rest) e in
      let (cs, marks, front) = texts m (ltb-true (rank m) k lower) in
      let (ds, more, behind) = text_of_body k texts rest others in
      (cs ++ ds, marks ++ more, yields-append front behind)

  text_of_rule : (n : N) → ((m : N) → rank m < rank n → HasText m) → (found : Option (List (Symbol C N)))
      → g.production n (first n) ≡ found → is_ranked_body (rank n) found ≡ true → HasText n
  unfolding HasText
  text_of_rule n texts None e ranked = absurd (cc)
  text_of_rule n texts (Some body) e ranked =
      let (cs, marks, reads) = text_of_body (rank n) texts body ranked in (
        first n ∷ cs,
        g.deep n (first n) ∷ marks,
        r_begins body e (subst (λ (s : List (Symbol C N)). Yields g s cs marks) (sym (append-nil body)) reads),
      )

  text_of_part : (n : N) → ((m : N) → rank m < rank n → HasText m) → (empty : Bool) → g.is_nullable n ≡ empty
      → (empty || is_ranked_body (rank n) (g.production n (first n))) ≡ true → HasText n
  unfolding HasText
  text_of_part n texts true e ranked = ([], [], r_ends e done)
  text_of_part n texts false e ranked = text_of_rule n texts (g.production n (first n)) refl ranked

  module _ (tested : (n : N) → is_ranked_part n ≡ true) where
    texts_below : (k : ℕ) (n : N) → rank n < k → HasText n
    texts_below zero n below = absurd (omega arith)
    texts_below (suc k) n below =
        text_of_part n (λ m less. texts_below k m (omega arith)) (g.is_nullable n) refl (tested n)

    -- each part has a text, where each part's test computes to true
    pub texts_by : HasTexts g
    unfolding HasText
    texts_by n = texts_below (rank n + 1) n (omega arith)
