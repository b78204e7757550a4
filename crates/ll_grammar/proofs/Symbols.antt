-- One token against the symbols on the stack.
use Rattle.std.proofs.Common.{◌≡◌, Bool, true, false, List, [], ◌∷◌, ◌++◌, Option, Some, None, IsTrue, IsSome, refl, sym, subst, ap, ◌∙◌, ◌⊎◌, inl, inr}
use Rattle.ll_grammar.specs.Rules.{Rules, Yields, Yields.{done, class as r_class, ends as r_ends, begins as r_begins}}
use Rattle.ll_grammar.specs.{Predictable.{MayFollow, IsFollowed, IsPredictable, IsReady, HasTexts}, Predictions.{IsRead}, declared.grammar.Symbol.{Symbol}}
use Rattle.ll_grammar.specs.declared.grammar.{Symbol.TheVariants.{Terminal as a_terminal, Nonterminal as a_nonterminal}, Prediction.{Prediction}}
use Rattle.ll_grammar.{specs.declared.grammar.Prediction.TheVariants.{Absent, Pushed, Deep}, proofs.ViablePrefixes.{some_text}}

-- the class that the symbols read next may follow the part before them
next_follows : {C N : Type 0} {g : Rules C N} {symbols : List (Symbol C N)} {cs : List C} {marks : List Bool}
    → Yields g symbols cs marks → (follow : N → C → Bool) (m : N) → MayFollow g follow m symbols (Unit {0})
    → (c : C) (rest : List C) → cs ≡ c ∷ rest → IsTrue (follow m c)
next_follows done follow m may c rest e = absurd (cc)
next_follows {C} (r_class {c = d} reads) follow m may c rest e =
    let head : d ≡ c = cc in subst (λ (x : C). IsTrue (follow m x)) head may
next_follows (r_ends h reads) follow m may c rest e = next_follows reads follow m (may.1 h) c rest e
next_follows {C} {N} {g = g} (r_begins {n = n} {c = d} body h reads) follow m may c rest e =
    let head : d ≡ c = cc in
    let some : IsSome (g.production n d) = subst (λ (o : Option (List (Symbol C N))). IsSome o) (sym h) refl in
    subst (λ (x : C). IsTrue (follow m x)) head (may.0 d some)

-- what follows a part follows a part that has its followers
widened : {C N : Type 0} (g : Rules C N) (follow : N → C → Bool) (n m : N)
    → ((c : C) → IsTrue (follow n c) → IsTrue (follow m c)) → (symbols : List (Symbol C N))
    → MayFollow g follow n symbols (Unit {0}) → MayFollow g follow m symbols (Unit {0})
widened g follow n m more [] may = may
widened g follow n m more (a_terminal c ∷ rest) may = more c may
widened g follow n m more (a_nonterminal p ∷ rest) may =
    (λ c some. more c (may.0 c some), λ h. widened g follow n m more rest (may.1 h))

may_follow-append : {C N : Type 0} (g : Rules C N) (follow : N → C → Bool) (m : N) (AtEnd : Type 0) (front back : List (Symbol C N))
    → MayFollow g follow m front AtEnd → (AtEnd → MayFollow g follow m back (Unit {0}))
    → MayFollow g follow m (front ++ back) (Unit {0})
may_follow-append g follow m AtEnd [] back may over = over may
may_follow-append g follow m AtEnd (a_terminal c ∷ front) back may over = may
may_follow-append g follow m AtEnd (a_nonterminal p ∷ front) back may over =
    (may.0, λ h. may_follow-append g follow m AtEnd front back (may.1 h) over)

-- symbols on a stack whose parts' followers are in the table
ready-append : {C N : Type 0} (g : Rules C N) (follow : N → C → Bool) (AtEnd : N → Type 0) (front back : List (Symbol C N))
    → IsFollowed g follow AtEnd front → ((m : N) → AtEnd m → MayFollow g follow m back (Unit {0}))
    → IsReady g follow back → IsReady g follow (front ++ back)
ready-append g follow AtEnd [] back followed over ready = ready
ready-append g follow AtEnd (a_terminal c ∷ front) back followed over ready =
    ready-append g follow AtEnd front back followed over ready
ready-append g follow AtEnd (a_nonterminal m ∷ front) back followed over ready = (
  may_follow-append g follow m (AtEnd m) front back followed.0 (over m),
  ready-append g follow AtEnd front back followed.1 over ready,
)

-- an awaited class reads a token of that class
class_read : {C N : Type 0} {g : Rules C N} {d c : C} {rest : List (Symbol C N)} {behind : List C} {marks : List Bool}
    → Yields g (a_terminal d ∷ rest) (c ∷ behind) marks
    → (d ≡ c) × (others : List Bool) × (marks ≡ false ∷ others) × Yields g rest behind others
class_read (r_class {marks = others} reads) = (refl, others, refl, reads)

-- a part at a token ends before it, or begins with it
part_read : {C N : Type 0} {g : Rules C N} {n : N} {c : C} {rest : List (Symbol C N)} {behind : List C} {marks : List Bool}
    → Yields g (a_nonterminal n ∷ rest) (c ∷ behind) marks
    → (IsTrue (g.is_nullable n) × Yields g rest (c ∷ behind) marks)
    ⊎ ((body : List (Symbol C N)) × (others : List Bool) × (g.production n c ≡ Some body)
    × (marks ≡ g.deep n c ∷ others) × Yields g (body ++ rest) behind others)
part_read (r_ends h reads) = inl (h, reads)
part_read (r_begins {marks = others} body e reads) = inr (body, others, e, refl, reads)

-- the symbols that are read out read no token
nothing_read : {C N : Type 0} {g : Rules C N} {c : C} {behind : List C} {marks : List Bool} → Yields g [] (c ∷ behind) marks → ⊥
nothing_read reads = elim reads [ ]

pub read-nothing : {C N : Type 0} (g : Rules C N) (follow : N → C → Bool) (c : C) (after : List (Symbol C N))
    → IsRead g follow [] c Absent after
read-nothing g follow c after behind marks reads = nothing_read reads

pub read-class : {C N : Type 0} (g : Rules C N) (follow : N → C → Bool) (c : C) (rest : List (Symbol C N))
    → IsReady g follow rest → IsRead g follow (a_terminal c ∷ rest) c Pushed rest
read-class g follow c rest ready = record {
  only = λ behind marks reads. let (_, others, e, below) = class_read reads in (others, e, below);
  each = λ behind others reads. r_class reads;
  ready = ready;
}

pub read-other_class : {C N : Type 0} (g : Rules C N) (follow : N → C → Bool) (d c : C) (rest after : List (Symbol C N))
    → (d ≡ c → ⊥) → IsRead g follow (a_terminal d ∷ rest) c Absent after
read-other_class g follow d c rest after other behind marks reads = other (class_read reads).0

-- a part that neither begins with the token nor may end
pub read-no_part : {C N : Type 0} (g : Rules C N) (follow : N → C → Bool) (n : N) (c : C) (rest after : List (Symbol C N))
    → g.production n c ≡ None → g.is_nullable n ≡ false → IsRead g follow (a_nonterminal n ∷ rest) c Absent after
read-no_part g follow n c rest after none stays behind marks reads =
    elim (part_read reads) [ inl (h, _) ↦ (let may : g.is_nullable n ≡ true = h in cc) | inr (body, others, e, _, _) ↦ absurd (cc) ]

-- a part that does not begin with the token, but may end, leaves it to the symbols below
below_only : {C N : Type 0} {g : Rules C N} {n : N} {c : C} {rest : List (Symbol C N)} {behind : List C} {marks : List Bool}
    → g.production n c ≡ None → Yields g (a_nonterminal n ∷ rest) (c ∷ behind) marks → Yields g rest (c ∷ behind) marks
below_only none reads = elim (part_read reads) [ inl (_, below) ↦ below | inr (body, others, e, _, _) ↦ absurd (cc) ]

pub read-end : {C N : Type 0} (g : Rules C N) (follow : N → C → Bool) (n : N) (c : C) (rest : List (Symbol C N)) (prediction : Prediction)
    (after : List (Symbol C N)) → g.production n c ≡ None → g.is_nullable n ≡ true
    → IsRead g follow rest c prediction after → IsRead g follow (a_nonterminal n ∷ rest) c prediction after
read-end g follow n c rest Absent after none ends read = λ behind marks reads. read behind marks (below_only none reads)
read-end g follow n c rest Pushed after none ends read = record {
  only = λ behind marks reads. read.only behind marks (below_only none reads);
  each = λ behind others reads. r_ends ends (read.each behind others reads);
  ready = read.ready;
}
read-end g follow n c rest Deep after none ends read =
    let (behind, marks, reads) = read in (behind, marks, r_ends ends reads)

-- a part that begins with the token
begins_only : {C N : Type 0} {g : Rules C N} {follow : N → C → Bool} {n : N} {c : C} {rest : List (Symbol C N)}
    → IsPredictable g follow → IsReady g follow (a_nonterminal n ∷ rest) → (body : List (Symbol C N)) → g.production n c ≡ Some body
    → (behind : List C) (marks : List Bool) → Yields g (a_nonterminal n ∷ rest) (c ∷ behind) marks
    → (others : List Bool) × (marks ≡ g.deep n c ∷ others) × Yields g (body ++ rest) behind others
begins_only {C} {N} {g = g} {follow = follow} {n = n} {c = c} {rest = rest} predictable ready body e behind marks reads =
    elim (part_read reads) [
      | inl (h, below) ↦
          let none : g.production n c ≡ None = predictable.apart n c h (next_follows below follow n ready.0 c behind refl) in
          absurd (cc)
      | inr (found, others, f, m, below) ↦
          let same : found ≡ body = cc in
          (others, m, subst (λ (b : List (Symbol C N)). Yields g (b ++ rest) behind others) same below)
    ]

pub read-begins : {C N : Type 0} (g : Rules C N) (follow : N → C → Bool) (n : N) (c : C) (rest body : List (Symbol C N))
    → IsPredictable g follow → IsReady g follow (a_nonterminal n ∷ rest) → g.production n c ≡ Some body → g.deep n c ≡ false
    → IsRead g follow (a_nonterminal n ∷ rest) c Pushed (body ++ rest)
read-begins {C} {N} g follow n c rest body predictable ready e shallow = record {
  only = λ behind marks reads.
      let (others, m, below) = begins_only predictable ready body e behind marks reads in
      (others, m ∙ ap (λ (b : Bool). b ∷ others) shallow, below);
  each = λ behind others reads.
      subst (λ (b : Bool). Yields g (a_nonterminal n ∷ rest) (c ∷ behind) (b ∷ others)) shallow (r_begins body e reads);
  ready = ready-append g follow (λ m. (d : C) → IsTrue (follow n d) → IsTrue (follow m d)) body rest
      (predictable.closed n c body e) (λ m more. widened g follow n m more rest ready.0) ready.1;
}

pub read-deep : {C N : Type 0} (g : Rules C N) (follow : N → C → Bool) (n : N) (c : C) (rest body after : List (Symbol C N))
    → HasTexts g → g.production n c ≡ Some body → g.deep n c ≡ true → IsRead g follow (a_nonterminal n ∷ rest) c Deep after
read-deep {C} {N} g follow n c rest body after texts e deep =
    let (behind, others, below) = some_text g texts (body ++ rest) in
    (behind, others, subst (λ (b : Bool). Yields g (a_nonterminal n ∷ rest) (c ∷ behind) (b ∷ others)) deep (r_begins body e below))
