-- How far the recogniser has read, and what it answers there.
use Rattle.std.proofs.Common.{◌≡◌, ℕ, zero, suc, ◌+◌, ◌<◌, Bool, true, false, List, [], ◌∷◌, ◌++◌, Some, length, take, get_or, reverse, ◌&&◌, replicate, slice_get, below_more, refl, sym, ap, subst, ◌∙◌, append_assoc, arith}
use Rattle.std.proofs.{lemmas.List.{append-nil, reverse-append, take_more, replicate_more, Folds.{list_all-append}}, Math.Seq.{take-length}}
use Rattle.std.specs.{Cmp.Derive.{both_true}, List.{list_all}}
use Rattle.ll_grammar.specs.Rules.{Rules, Yields, Derives, is_nullable_symbol, Yields.{done, class as r_class, ends as r_ends, begins as r_begins}}
use Rattle.ll_grammar.specs.{Texts.{IsText, IsViable, IsDeepAt, NoneDeep}, FirstFault.{IsAccepted, IsFirstTokenFault}, Predictable.{IsReady, HasTexts}}
use Rattle.ll_grammar.specs.{Predictions.{IsRead}, declared.grammar.Symbol.{Symbol, TheVariants.{Terminal as a_terminal, Nonterminal as a_nonterminal}}}
use Rattle.ll_grammar.specs.declared.{grammar.Prediction.TheVariants.{Absent, Pushed, Deep}, fault.Fault.TheVariants.{Syntax, Depth}}
use Rattle.ll_grammar.proofs.ViablePrefixes.{some_text}

-- the tokens before i are read, none too deep, and the symbols read what may come after them
pub record IsReading {C N : Type 0} (g : Rules C N) (follow : N → C → Bool) (start : N) (cs : List C) (i : ℕ)
    (symbols : List (Symbol C N)) : Type 0 where
  pub only : (rest : List C) (marks : List Bool) → Derives g start (take i cs ++ rest) marks
      → (others : List Bool) × (marks ≡ replicate i false ++ others) × Yields g symbols rest others
  pub each : (rest : List C) (others : List Bool) → Yields g symbols rest others
      → Derives g start (take i cs ++ rest) (replicate i false ++ others)
  pub shallow : NoneDeep (Derives g start) cs i
  pub ready : IsReady g follow symbols

-- the token at a place, on its own in front of the rest
taken : {C : Type 0} (cs : List C) (i : ℕ) (c : C) → i < length cs → c ≡ get_or cs i c → (rest : List C)
    → take (i + 1) cs ++ rest ≡ take i cs ++ (c ∷ rest)
taken {C} cs i c within here rest =
    ap (λ (front : List C). front ++ rest) (take_more cs i c within ∙ ap (λ (x : C). take i cs ++ x ∷ []) (sym here))
    ∙ append_assoc (take i cs) (c ∷ []) rest

falses : (i : ℕ) (others : List Bool) → replicate (i + 1) false ++ others ≡ replicate i false ++ (false ∷ others)
falses i others =
    ap (λ (front : List Bool). front ++ others) (sym (replicate_more i false))
    ∙ append_assoc (replicate i false) (false ∷ []) others

-- the mark at a place after as many others
slice_get-replicate : (i : ℕ) (b : Bool) (others : List Bool) → slice_get (replicate i false ++ (b ∷ others)) i ≡ Some b
slice_get-replicate zero b others = refl
slice_get-replicate (suc i) b others = slice_get-replicate i b others

pub begun : {C N : Type 0} (g : Rules C N) (follow : N → C → Bool) (start : N) (cs : List C)
    → IsReading g follow start cs 0 (a_nonterminal start ∷ [])
begun g follow start cs = record {
  only = λ rest marks derives. (marks, refl, derives);
  each = λ rest others reads. reads;
  shallow = λ j below deep. absurd (omega arith);
  ready = (tt, tt);
}

-- symbols that may all be without tokens read none
empty : {C N : Type 0} (g : Rules C N) (symbols : List (Symbol C N))
    → list_all (is_nullable_symbol g) symbols ≡ true → Yields g symbols [] []
empty g [] all = done
empty g (a_terminal c ∷ rest) all = absurd (cc)
empty g (a_nonterminal n ∷ rest) all =
    let (may, others) = both (g.is_nullable n) (list_all (is_nullable_symbol g) rest) all in
    r_ends may (empty g rest others)
  where
    both : (a b : Bool) → (a && b) ≡ true → (a ≡ true) × (b ≡ true)
    both true b e = (refl, e)
    both false b e = absurd (cc)

-- and others read some
all_empty : {C N : Type 0} {g : Rules C N} {symbols : List (Symbol C N)} {cs : List C} {marks : List Bool}
    → Yields g symbols cs marks → cs ≡ [] → list_all (is_nullable_symbol g) symbols ≡ true
all_empty done e = refl
all_empty (r_class reads) e = absurd (cc)
all_empty (r_ends h reads) e = both_true h (all_empty reads e)
all_empty (r_begins body h reads) e = absurd (cc)

pub list_all-reverse : {X : Type 0} (p : X → Bool) (xs : List X) → list_all p (reverse xs) ≡ list_all p xs
list_all-reverse p [] = refl
list_all-reverse {X} p (x ∷ xs) =
    ap (λ (ys : List X). list_all p ys) (reverse-append (x ∷ []) xs)
    ∙ list_all-append p (reverse xs) (x ∷ [])
    ∙ swapped (p x) (list_all p (reverse xs)) (list_all p xs) (list_all-reverse p xs)
  where
    swapped : (a b c : Bool) → b ≡ c → (b && (a && true)) ≡ (a && c)
    swapped true true c e = e
    swapped true false c e = e
    swapped false true c e = refl
    swapped false false c e = refl

module _ {C N : Type 0} (g : Rules C N) (follow : N → C → Bool) (start : N) (cs : List C) (i : ℕ)
    (symbols : List (Symbol C N)) (reading : IsReading g follow start cs i symbols) where
  -- the tokens before i begin some text
  viable : HasTexts g → IsViable (IsText (Derives g start)) (take i cs)
  viable texts =
      let (rest, others, reads) = some_text g texts symbols in
      (rest, (replicate i false ++ others, reading.each rest others reads))

  module _ (c : C) (after : List (Symbol C N)) (within : i < length cs) (here : c ≡ get_or cs i c) where
    -- the tokens through i, as the symbols read them
    through_only : (rest : List C) (marks : List Bool) → Derives g start (take (i + 1) cs ++ rest) marks
        → (others : List Bool) × (marks ≡ replicate i false ++ others) × Yields g symbols (c ∷ rest) others
    through_only rest marks derives =
        reading.only (c ∷ rest) marks
        (subst (λ (front : List C). Derives g start front marks) (taken cs i c within here rest) derives)

    through_each : (rest : List C) (others : List Bool) → Yields g symbols (c ∷ rest) others
        → Derives g start (take (i + 1) cs ++ rest) (replicate i false ++ others)
    through_each rest others reads =
        subst (λ (front : List C). Derives g start front (replicate i false ++ others)) (sym (taken cs i c within here rest))
        (reading.each (c ∷ rest) others reads)

    pub passed : IsRead g follow symbols c Pushed after → IsReading g follow start cs (i + 1) after
    passed read = record {
      only = λ rest marks derives.
          let (others, m, reads) = through_only rest marks derives in
          let (behind, n, below) = read.only rest others reads in
          (behind, m ∙ ap (λ (os : List Bool). replicate i false ++ os) n ∙ sym (falses i behind), below);
      each = λ rest others reads.
          subst (λ (ms : List Bool). Derives g start (take (i + 1) cs ++ rest) ms) (sym (falses i others))
          (through_each rest (false ∷ others) (read.each rest others reads));
      shallow = below_more (λ j. IsDeepAt (Derives g start) cs j → ⊥) i reading.shallow (λ deep.
          let (_, rest, marks, derives, at) = deep in
          let (others, m, reads) = through_only rest marks derives in
          let (behind, n, below) = read.only rest others reads in
          let mark : slice_get (replicate i false ++ (false ∷ behind)) i ≡ Some false = slice_get-replicate i false behind in
          cc);
      ready = read.ready;
    }

    pub refused : HasTexts g → IsRead g follow symbols c Absent after → IsFirstTokenFault (Derives g start) cs (Syntax i)
    refused texts read = (
      record {
        within = omega arith;
        before = viable texts;
        through = λ _ (rest, (marks, derives)). let (others, m, reads) = through_only rest marks derives in read rest others reads;
        at_end = λ end _. absurd (omega arith);
      },
      reading.shallow,
    )

    pub deepened : IsRead g follow symbols c Deep after → IsFirstTokenFault (Derives g start) cs (Depth i)
    deepened read =
        let (rest, others, reads) = read in (
          (within, rest, replicate i false ++ (true ∷ others), through_each rest (true ∷ others) reads, slice_get-replicate i true others),
          reading.shallow,
        )

  module _ (at_end : i ≡ length cs) where
    whole : take i cs ≡ cs
    whole = ap (λ (n : ℕ). take n cs) at_end ∙ take-length cs

    whole_only : (marks : List Bool) → Derives g start cs marks → (others : List Bool) × Yields g symbols [] others
    whole_only marks derives =
        let front : take i cs ++ [] ≡ cs = append-nil (take i cs) ∙ whole in
        let (others, _, reads) = reading.only [] marks (subst (λ (x : List C). Derives g start x marks) (sym front) derives) in
        (others, reads)

    pub ended : list_all (is_nullable_symbol g) symbols ≡ true → IsAccepted (Derives g start) cs
    ended all =
        let front : take i cs ++ [] ≡ cs = append-nil (take i cs) ∙ whole in (
          (
            replicate i false ++ [],
            subst (λ (x : List C). Derives g start x (replicate i false ++ [])) front (reading.each [] [] (empty g symbols all)),
          ),
          subst (λ (n : ℕ). NoneDeep (Derives g start) cs n) at_end reading.shallow,
        )

    pub unended : HasTexts g → list_all (is_nullable_symbol g) symbols ≡ false → IsFirstTokenFault (Derives g start) cs (Syntax (length cs))
    unended texts some =
        subst (λ (n : ℕ). IsFirstTokenFault (Derives g start) cs (Syntax n)) at_end (
          record {
            within = omega arith;
            before = viable texts;
            through = λ below _. absurd (omega arith);
            at_end = λ _ (marks, derives).
                let (others, reads) = whole_only marks derives in let all = all_empty reads refl in cc;
          },
          reading.shallow,
        )
