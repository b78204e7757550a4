-- Tokens whose classes are told apart have an answer, by a run of the recogniser without a stack in memory.
use Rattle.std.proofs.Common.{◌≡◌, ◌≢◌, ℕ, zero, suc, ◌+◌, ◌<◌, ◌⊎◌, inl, inr, Bool, true, false, List, [], ◌∷◌, ◌++◌, Option, Some, None, length, get_or, slice_get, unwrap_or, nat_eq, eq-eqb, eqb-true, refl, sym, ap, ◌∙◌, subst, arith}
use Rattle.std.specs.List.{list_all}
use Rattle.ll_grammar.specs.{Rules.{Rules, Derives, is_nullable_symbol}, FirstFault.{AreDecided, HasAnswer}, Predictable.{IsPredictable, IsReady, HasTexts}}
use Rattle.ll_grammar.specs.{Predictions.{IsRead}, LawsOfTables.{AreListed, all_at}, declared.grammar.Symbol.{Symbol}}
use Rattle.ll_grammar.specs.declared.grammar.{Symbol.TheVariants.{Terminal as a_terminal, Nonterminal as a_nonterminal}, Prediction.{Prediction}}
use Rattle.ll_grammar.specs.declared.{grammar.Prediction.TheVariants.{Absent, Pushed, Deep}, fault.Fault.TheVariants.{Syntax, Depth}}
use Rattle.ll_grammar.proofs.Symbols.{read-nothing, read-class, read-other_class, read-no_part, read-end, read-begins, read-deep}
use Rattle.ll_grammar.proofs.Progress.{IsReading, begun, passed, refused, deepened, ended, unended}

-- classes at one place in a list of all are one
same_place : {C : Type 0} (classes : List C) (listed : AreListed classes) (a b : C) → nat_eq (listed a).0 (listed b).0 ≡ true → a ≡ b
same_place {C} classes listed a b e =
    ap (λ (o : Option C). unwrap_or o a)
    (sym (listed a).1 ∙ ap (slice_get classes) (eqb-true (listed a).0 (listed b).0 e) ∙ (listed b).1)

-- so two classes are one or are not
pub decided_by : {C : Type 0} (classes : List C) → AreListed classes → AreDecided C
decided_by {C} classes listed a b = by (nat_eq (listed a).0 (listed b).0) refl
  where
    by : (t : Bool) → nat_eq (listed a).0 (listed b).0 ≡ t → (a ≡ b) ⊎ (a ≢ b)
    by true e = inl (same_place classes listed a b e)
    by false e = inr (λ same. let yes = eq-eqb (listed a).0 (listed b).0 (ap (λ (c : C). (listed c).0) same) in cc)

-- and what keeps each place keeps each class
pub kept_by : {C : Type 0} (classes : List C) (listed : AreListed classes) (f : C → C)
    → list_all (λ c. nat_eq (listed (f c)).0 (listed c).0) classes ≡ true → (c : C) → f c ≡ c
kept_by classes listed f all c =
    same_place classes listed (f c) c
    (all_at (λ d. nat_eq (listed (f d)).0 (listed d).0) classes (listed c).0 c all (listed c).1)

module _ {C N : Type 0} (g : Rules C N) (follow : N → C → Bool) (decided : AreDecided C)
    (predictable : IsPredictable g follow) (texts : HasTexts g) where
  -- what the symbols do with the token
  HasPrediction : List (Symbol C N) → C → Type 0
  HasPrediction symbols c = (prediction : Prediction) × (after : List (Symbol C N)) × IsRead g follow symbols c prediction after

  class_step : (d c : C) (rest : List (Symbol C N)) → IsReady g follow rest → (d ≡ c) ⊎ (d ≡ c → ⊥) → HasPrediction (a_terminal d ∷ rest) c
  unfolding HasPrediction
  class_step d c rest ready (inl same) =
      (Pushed, rest, subst (λ (x : C). IsRead g follow (a_terminal x ∷ rest) c Pushed rest) (sym same) (read-class g follow c rest ready))
  class_step d c rest ready (inr other) = (Absent, [], read-other_class g follow d c rest [] other)

  part_step : (n : N) (c : C) (rest : List (Symbol C N)) → IsReady g follow (a_nonterminal n ∷ rest) → HasPrediction rest c
      → (found : Option (List (Symbol C N))) (deep may : Bool) → g.production n c ≡ found → g.deep n c ≡ deep → g.is_nullable n ≡ may
      → HasPrediction (a_nonterminal n ∷ rest) c
  unfolding HasPrediction
  part_step n c rest ready below (Some body) false may b d m = (Pushed, body ++ rest, read-begins g follow n c rest body predictable ready b d)
  part_step n c rest ready below (Some body) true may b d m = (Deep, [], read-deep g follow n c rest body [] texts b d)
  part_step n c rest ready below None deep false b d m = (Absent, [], read-no_part g follow n c rest [] b m)
  part_step n c rest ready below None deep true b d m =
      let (prediction, after, read) = below in (prediction, after, read-end g follow n c rest prediction after b m read)

  some_step : (symbols : List (Symbol C N)) (c : C) → IsReady g follow symbols → HasPrediction symbols c
  unfolding HasPrediction
  some_step [] c ready = (Absent, [], read-nothing g follow c [])
  some_step (a_terminal d ∷ rest) c ready = class_step d c rest ready (decided d c)
  some_step (a_nonterminal n ∷ rest) c ready =
      part_step n c rest ready (some_step rest c ready.1) (g.production n c) (g.deep n c) (g.is_nullable n) refl refl refl

  module _ (start : N) (cs : List C) where
    at_end : (i : ℕ) (symbols : List (Symbol C N)) → IsReading g follow start cs i symbols → i ≡ length cs
        → (b : Bool) → list_all (is_nullable_symbol g) symbols ≡ b → HasAnswer (Derives g start) cs
    at_end i symbols reading end true all = (None, ended g follow start cs i symbols reading end all)
    at_end i symbols reading end false some = (Some (Syntax (length cs)), unended g follow start cs i symbols reading end texts some)

    token : (ds : List C) (i : ℕ) → i < length ds → (c : C) × (c ≡ get_or ds i c)
    token [] i within = absurd (omega arith)
    token (d ∷ ds) zero within = (d, refl)
    token (d ∷ ds) (suc i) within = token ds i (omega arith)

    after_step : (i : ℕ) (symbols : List (Symbol C N)) → IsReading g follow start cs i symbols → (within : i < length cs)
        → (c : C) → c ≡ get_or cs i c → (prediction : Prediction) (after : List (Symbol C N)) → IsRead g follow symbols c prediction after
        → (((later : List (Symbol C N)) → IsReading g follow start cs (i + 1) later → HasAnswer (Derives g start) cs)
        → HasAnswer (Derives g start) cs)
    after_step i symbols reading within c here Absent after read go =
        (Some (Syntax i), refused g follow start cs i symbols reading c after within here texts read)
    after_step i symbols reading within c here Deep after read go =
        (Some (Depth i), deepened g follow start cs i symbols reading c after within here read)
    after_step i symbols reading within c here Pushed after read go =
        go after (passed g follow start cs i symbols reading c after within here read)

    run : (left i : ℕ) (symbols : List (Symbol C N)) → i + left ≡ length cs → IsReading g follow start cs i symbols → HasAnswer (Derives g start) cs
    unfolding HasPrediction
    run zero i symbols all reading = at_end i symbols reading (omega arith) (list_all (is_nullable_symbol g) symbols) refl
    run (suc left) i symbols all reading =
        let within : i < length cs = omega arith in
        let (c, here) = token cs i within in
        let (prediction, after, read) = some_step symbols c reading.ready in
        after_step i symbols reading within c here prediction after read (λ later next. run left (i + 1) later (omega arith) next)

    pub some_answer : HasAnswer (Derives g start) cs
    some_answer = run (length cs) 0 (a_nonterminal start ∷ []) (omega arith) (begun g follow start cs)
