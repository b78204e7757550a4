-- A grammar with no bound on depth, whose classes are those of tokens: its answers are syntax faults of the tokens.
use Rattle.std.proofs.Common.{◌≡◌, ℕ, zero, suc, ◌+◌, ◌⊎◌, inl, inr, Bool, true, false, List, [], ◌∷◌, ◌++◌, Option, Some, None, map, take, slice_get, refl, sym, ap, subst, ◌∙◌, arith}
use Rattle.std.proofs.lemmas.List.{map-append, take-map, length-map}
use Rattle.ll_grammar.specs.{Rules.{Rules, Yields, Derives, Yields.{done, class as r_class, ends as r_ends, begins as r_begins}}, Texts.{IsText, IsViable}}
use Rattle.ll_grammar.specs.{Predictable.{IsPredictable, HasTexts}, FirstFault.{IsAnswer, IsFaultAt, IsSyntaxAnswer, fault_place, AreDecided}}
use Rattle.ll_grammar.{specs.declared.{grammar.Symbol.{Symbol}, fault.Fault.{Fault, TheVariants.{Syntax, Depth}}}, proofs.Existence.{some_answer}}

never_deep : {C N : Type 0} {g : Rules C N} → ((n : N) (c : C) → g.deep n c ≡ false)
    → {symbols : List (Symbol C N)} {cs : List C} {marks : List Bool} → Yields g symbols cs marks
    → (k : ℕ) → slice_get marks k ≡ Some true → ⊥
never_deep shallow done k at = cc
never_deep shallow (r_class reads) zero at = cc
never_deep shallow (r_class reads) (suc k) at = never_deep shallow reads k at
never_deep shallow (r_ends h reads) k at = never_deep shallow reads k at
never_deep {g = g} shallow (r_begins {n = n} {c = c} body e reads) zero at =
    let mark : g.deep n c ≡ false = shallow n c in cc
never_deep shallow (r_begins body e reads) (suc k) at = never_deep shallow reads k at

-- Each class is that of some token, and `Text` says of tokens what the grammar says of their classes.
module _ {T C N : Type 0} (g : Rules C N) (start : N) (shallow : (n : N) (c : C) → g.deep n c ≡ false)
    (class_of : T → C) (some : C → T) (some_is : (c : C) → class_of (some c) ≡ c)
    (Text : List T → Type 0) (to : (ts : List T) → IsText (Derives g start) (map class_of ts) → Text ts)
    (from : (ts : List T) → Text ts → IsText (Derives g start) (map class_of ts)) where
  abbrev ClassText : List C → Type 0
  ClassText cs = IsText (Derives g start) cs

  all_some : (cs : List C) → map class_of (map some cs) ≡ cs
  all_some [] = refl
  all_some (c ∷ cs) = let here = some_is c in let others = all_some cs in λ i. here i ∷ others i

  -- tokens begin a text where their classes begin one
  viable : (ts : List T) → IsViable ClassText (map class_of ts) → IsViable Text ts
  viable ts (others, begun) =
      let same : map class_of (ts ++ map some others) ≡ map class_of ts ++ others =
      map-append class_of ts (map some others) ∙ ap (λ (cs : List C). map class_of ts ++ cs) (all_some others) in
      (map some others, to (ts ++ map some others) (subst ClassText (sym same) begun))

  viable_classes : (ts : List T) → IsViable Text ts → IsViable ClassText (map class_of ts)
  viable_classes ts (others, text) =
      (map class_of others, subst ClassText (map-append class_of ts others) (from (ts ++ others) text))

  fault : (ts : List T) (k : ℕ) → IsFaultAt ClassText (map class_of ts) k → IsFaultAt Text ts k
  fault ts k f = record {
    within = omega (arith, f.within, length-map ts class_of);
    before = viable (take k ts) (subst (IsViable ClassText) (take-map class_of k ts) f.before);
    through = λ below v.
        f.through (omega (arith, length-map ts class_of))
        (subst (IsViable ClassText) (sym (take-map class_of (k + 1) ts)) (viable_classes (take (k + 1) ts) v));
    at_end = λ end text. f.at_end (end ∙ sym (length-map ts class_of)) (from ts text);
  }

  -- the recogniser's answer, over the tokens
  pub syntax_answer : (ts : List T) (found : Option Fault) → IsAnswer (Derives g start) (map class_of ts) found
      → IsSyntaxAnswer Text ts (fault_place found)
  syntax_answer ts None (text, none) = to ts text
  syntax_answer ts (Some (Syntax k)) (found, none) = fault ts k found
  syntax_answer ts (Some (Depth k)) ((within, rest, marks, reads, at), none) = absurd (never_deep shallow reads k at)

  split : (ts : List T) (place : Option ℕ) → IsSyntaxAnswer Text ts place → Text ts ⊎ ((k : ℕ) × IsFaultAt Text ts k)
  split ts None text = inl text
  split ts (Some k) found = inr (k, found)

  -- each list of tokens is a text or has a syntax fault
  pub text_or_fault : (follow : N → C → Bool) → AreDecided C → IsPredictable g follow → HasTexts g
      → (ts : List T) → Text ts ⊎ ((k : ℕ) × IsFaultAt Text ts k)
  text_or_fault follow decided predictable texts ts =
      let (found, answer) = some_answer g follow decided predictable texts start (map class_of ts) in
      split ts (fault_place found) (syntax_answer ts found answer)
