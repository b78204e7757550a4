-- What is known of `Derives`: a meaning of each part that is closed under the rules is a meaning of all that it reads.
use Rattle.std.proofs.Common.{◌≡◌, Bool, false, List, [], ◌∷◌, ◌++◌, Option, Some, IsTrue, MatchOption, refl, sym, ap, subst, ◌∙◌, append_assoc}
use Rattle.std.proofs.lemmas.List.{append-nil}
use Rattle.ll_grammar.specs.Rules.{Rules, Yields, Derives, Yields.{done, class as r_class, ends as r_ends, begins as r_begins}}
use Rattle.ll_grammar.specs.{declared.grammar.Symbol.{Symbol, TheVariants.{Terminal as a_terminal, Nonterminal as a_nonterminal}}, LawsOfTables.{yields-append}}

-- the tokens, with their marks, are those of the symbols in a row, where `M` says what are those of a part
pub data Each {C N : Type 0} (M : N → List C → List Bool → Type 0) : List (Symbol C N) → List C → List Bool → Type 0 where
  none : Each M [] [] []
  class : {c : C} {rest : List (Symbol C N)} {cs : List C} {marks : List Bool}
      → Each M rest cs marks → Each M (a_terminal c ∷ rest) (c ∷ cs) (false ∷ marks)
  part : {n : N} {rest : List (Symbol C N)} {cs ds : List C} {marks others : List Bool}
      → M n cs marks → Each M rest ds others → Each M (a_nonterminal n ∷ rest) (cs ++ ds) (marks ++ others)

-- the meaning is closed under the rules
pub record IsClosedUnder {C N : Type 0} (g : Rules C N) (M : N → List C → List Bool → Type 0) : Type 0 where
  pub empty : (n : N) → IsTrue (g.is_nullable n) → M n [] []
  pub rule : (n : N) (c : C) → MatchOption (g.production n c) (Unit {0})
      (λ body. (cs : List C) (marks : List Bool) → Each M body cs marks → M n (c ∷ cs) (g.deep n c ∷ marks))

-- tokens of two rows of symbols, parted
record IsParted {C N : Type 0} (M : N → List C → List Bool → Type 0)
    (front back : List (Symbol C N)) (cs : List C) (marks : List Bool) : Type 0 where
  pub before : List C
  pub before_marks : List Bool
  pub after : List C
  pub after_marks : List Bool
  pub front_each : Each M front before before_marks
  pub back_each : Each M back after after_marks
  pub tokens : cs ≡ before ++ after
  pub all_marks : marks ≡ before_marks ++ after_marks

parted : {C N : Type 0} (M : N → List C → List Bool → Type 0) (front back : List (Symbol C N)) {cs : List C} {marks : List Bool}
    → Each M (front ++ back) cs marks → IsParted M front back cs marks
parted M [] back {cs} {marks} each = record {
  before = [];
  before_marks = [];
  after = cs;
  after_marks = marks;
  front_each = none;
  back_each = each;
  tokens = refl;
  all_marks = refl;
}
parted {C} M (a_terminal c ∷ front) back (class each) =
    let p = parted M front back each in record {
      before = c ∷ p.before;
      before_marks = false ∷ p.before_marks;
      after = p.after;
      after_marks = p.after_marks;
      front_each = class p.front_each;
      back_each = p.back_each;
      tokens = ap (λ (x : List C). c ∷ x) p.tokens;
      all_marks = ap (λ (x : List Bool). false ∷ x) p.all_marks;
    }
parted {C} M (a_nonterminal n ∷ front) back (part {cs = first} {marks = first_marks} m each) =
    let p = parted M front back each in record {
      before = first ++ p.before;
      before_marks = first_marks ++ p.before_marks;
      after = p.after;
      after_marks = p.after_marks;
      front_each = part m p.front_each;
      back_each = p.back_each;
      tokens = ap (λ (x : List C). first ++ x) p.tokens ∙ sym (append_assoc first p.before p.after);
      all_marks = ap (λ (x : List Bool). first_marks ++ x) p.all_marks ∙ sym (append_assoc first_marks p.before_marks p.after_marks);
    }

-- what symbols in a row read has the meaning of each
pub each_of_yields : {C N : Type 0} (g : Rules C N) (M : N → List C → List Bool → Type 0) → IsClosedUnder g M
    → {symbols : List (Symbol C N)} {cs : List C} {marks : List Bool} → Yields g symbols cs marks → Each M symbols cs marks
each_of_yields g M closed done = none
each_of_yields g M closed (r_class reads) = class (each_of_yields g M closed reads)
each_of_yields g M closed (r_ends {n = n} h reads) = part (closed.empty n h) (each_of_yields g M closed reads)
each_of_yields {C} {N} g M closed (r_begins {n = n} {c = c} {rest = rest} {cs = cs} {marks = marks} body e reads) =
    let p = parted M body rest (each_of_yields g M closed reads) in
    let Closed : Option (List (Symbol C N)) → Type 0 = λ found. MatchOption found (Unit {0})
    (λ body. (cs : List C) (marks : List Bool) → Each M body cs marks → M n (c ∷ cs) (g.deep n c ∷ marks)) in
    let front = (subst Closed e (closed.rule n c)) p.before p.before_marks p.front_each in
    let all : Each M (a_nonterminal n ∷ rest) (c ∷ (p.before ++ p.after)) (g.deep n c ∷ (p.before_marks ++ p.after_marks)) = part front p.back_each in
    subst (λ (x : List C). Each M (a_nonterminal n ∷ rest) (c ∷ x) (g.deep n c ∷ marks)) (sym p.tokens)
    (subst (λ (x : List Bool). Each M (a_nonterminal n ∷ rest) (c ∷ (p.before ++ p.after)) (g.deep n c ∷ x)) (sym p.all_marks) all)

-- so what a part reads has its meaning
pub meaning : {C N : Type 0} (g : Rules C N) (M : N → List C → List Bool → Type 0) → IsClosedUnder g M
    → (n : N) (cs : List C) (marks : List Bool) → Derives g n cs marks → M n cs marks
meaning {C} {N} g M closed n cs marks reads = alone (each_of_yields g M closed reads)
  where
    ended : {front : List C} {front_marks : List Bool} {ds : List C} {others : List Bool} → M n front front_marks → Each M [] ds others
        → M n (front ++ ds) (front_marks ++ others)
    ended {front} {front_marks} m none =
        subst (λ (x : List C). M n x (front_marks ++ [])) (sym (append-nil front))
        (subst (λ (x : List Bool). M n front x) (sym (append-nil front_marks)) m)

    alone : {ds : List C} {others : List Bool} → Each M (a_nonterminal n ∷ []) ds others → M n ds others
    alone (part m rest) = ended m rest

-- and symbols in a row read what each reads
pub yields_of_each : {C N : Type 0} {g : Rules C N} {symbols : List (Symbol C N)} {cs : List C} {marks : List Bool}
    → Each (Derives g) symbols cs marks → Yields g symbols cs marks
yields_of_each none = done
yields_of_each (class each) = r_class (yields_of_each each)
yields_of_each (part reads each) = yields-append reads (yields_of_each each)

-- a part without tokens
pub derives-end : {C N : Type 0} {g : Rules C N} (n : N) → IsTrue (g.is_nullable n) → Derives g n [] []
derives-end n h = r_ends h done

-- a part by one of its rules; the two equations are where the tokens and marks are bracketed otherwise
pub derives-begin : {C N : Type 0} {g : Rules C N} (n : N) (c : C) (body : List (Symbol C N)) → g.production n c ≡ Some body
    → {cs ds : List C} {marks others : List Bool} → Each (Derives g) body cs marks → ds ≡ c ∷ cs → others ≡ g.deep n c ∷ marks
    → Derives g n ds others
derives-begin {C} {N} {g} n c body e {cs = cs} {marks = marks} {others = others} each tokens all_marks =
    subst (λ (x : List C). Derives g n x others) (sym tokens)
    (subst (λ (x : List Bool). Derives g n (c ∷ cs) x) (sym all_marks)
    (r_begins body e (subst (λ (s : List (Symbol C N)). Yields g s cs marks) (sym (append-nil body)) (yields_of_each each))))
