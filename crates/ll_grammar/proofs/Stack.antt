-- One token against the stack in memory, whose top is the last symbol.
use Rattle.std.proofs.Common.{◌≡◌, Bool, true, false, List, [], ◌∷◌, ◌++◌, Option, Some, None, reverse, refl, sym, ap, subst, ◌∙◌}
use Rattle.std.proofs.lemmas.List.{reverse-append, reverse-reverse}
use Rattle.ll_grammar.specs.{Rules.{Rules}, Predictable.{IsPredictable, IsReady, HasTexts}, Predictions.{IsPredicted, IsRead}, declared.grammar.Symbol.{Symbol}}
use Rattle.ll_grammar.specs.declared.grammar.{Symbol.TheVariants.{Terminal as a_terminal, Nonterminal as a_nonterminal}, Prediction.{Prediction}}
use Rattle.ll_grammar.specs.declared.grammar.Prediction.TheVariants.{Absent, Pushed, Deep}
use Rattle.ll_grammar.proofs.Symbols.{read-nothing, read-class, read-other_class, read-no_part, read-end, read-begins, read-deep}

-- what is known of the symbols as a pop leaves them
pub record IsTop {C N : Type 0} (items below : List (Symbol C N)) (symbol : Symbol C N) : Type 0 where
  pub is : items ≡ below ++ (symbol ∷ [])

popped : {C N : Type 0} {items below : List (Symbol C N)} {symbol : Symbol C N}
    → IsTop items below symbol → reverse items ≡ symbol ∷ reverse below
popped {below = below} {symbol = symbol} top = ap reverse top.is ∙ reverse-append below (symbol ∷ [])

absent : {C N : Type 0} (found : Option (List (Symbol C N))) (deep : Bool) (below new : List (Symbol C N))
    → IsPredicted found deep below Absent new → (found ≡ None) × (new ≡ below)
absent None deep below new prediction = (refl, prediction)
absent (Some body) deep below new prediction = absurd prediction

module _ {C N : Type 0} (g : Rules C N) (follow : N → C → Bool) (c : C) (items below : List (Symbol C N))
    (ready : IsReady g follow (reverse items)) where
  pub at_bottom : items ≡ [] → (after : List (Symbol C N)) → IsRead g follow (reverse items) c Absent after
  at_bottom e after =
      subst (λ (s : List (Symbol C N)). IsRead g follow (reverse s) c Absent after) (sym e)
      (read-nothing g follow c after)

  module _ (d : C) (top : IsTop items below (a_terminal d)) where
    pub at_class : d ≡ c → IsRead g follow (reverse items) c Pushed (reverse below)
    at_class same =
        let ready' : IsReady g follow (a_terminal d ∷ reverse below) =
        subst (λ (s : List (Symbol C N)). IsReady g follow s) (popped top) ready in
        subst (λ (s : List (Symbol C N)). IsRead g follow s c Pushed (reverse below)) (sym (popped top))
        (subst (λ (x : C). IsRead g follow (a_terminal x ∷ reverse below) c Pushed (reverse below)) (sym same)
        (read-class g follow c (reverse below) ready'))

    pub at_other_class : (d ≡ c → ⊥) → (after : List (Symbol C N)) → IsRead g follow (reverse items) c Absent after
    at_other_class other after =
        subst (λ (s : List (Symbol C N)). IsRead g follow s c Absent after) (sym (popped top))
        (read-other_class g follow d c (reverse below) after other)

  module _ (n : N) (top : IsTop items below (a_nonterminal n)) (new : List (Symbol C N)) where
    ready_part : IsReady g follow (a_nonterminal n ∷ reverse below)
    ready_part = subst (λ (s : List (Symbol C N)). IsReady g follow s) (popped top) ready

    -- a part that may not end
    pub at_no_part : IsPredicted (g.production n c) (g.deep n c) below Absent new → g.is_nullable n ≡ false
        → (after : List (Symbol C N)) → IsRead g follow (reverse items) c Absent after
    at_no_part prediction stays after =
        subst (λ (s : List (Symbol C N)). IsRead g follow s c Absent after) (sym (popped top))
        (read-no_part g follow n c (reverse below) after (absent (g.production n c) (g.deep n c) below new prediction).0 stays)

    -- a part that ends leaves symbols that are ready
    pub ready_below : IsPredicted (g.production n c) (g.deep n c) below Absent new → IsReady g follow (reverse new)
    ready_below prediction =
        subst (λ (s : List (Symbol C N)). IsReady g follow (reverse s))
        (sym (absent (g.production n c) (g.deep n c) below new prediction).1)
        ready_part.1

    -- and what they do with the token is what all do
    pub at_end : IsPredicted (g.production n c) (g.deep n c) below Absent new → g.is_nullable n ≡ true
        → (prediction : Prediction) (after : List (Symbol C N)) → IsRead g follow (reverse new) c prediction after
        → IsRead g follow (reverse items) c prediction after
    at_end absence ends prediction after read =
        let (none, same) = absent (g.production n c) (g.deep n c) below new absence in
        subst (λ (s : List (Symbol C N)). IsRead g follow s c prediction after) (sym (popped top))
        (read-end g follow n c (reverse below) prediction after none ends
        (subst (λ (s : List (Symbol C N)). IsRead g follow (reverse s) c prediction after) same read))

    begun : IsPredictable g follow → HasTexts g → (found : Option (List (Symbol C N))) (deep : Bool)
        → g.production n c ≡ found → g.deep n c ≡ deep → (prediction : Prediction) → IsPredicted found deep below prediction new → (prediction ≡ Absent → ⊥)
        → IsRead g follow (a_nonterminal n ∷ reverse below) c prediction (reverse new)
    begun predictable texts None deep e m Absent is present = absurd (present refl)
    begun predictable texts None deep e m Pushed is present = absurd is
    begun predictable texts None deep e m Deep is present = absurd is
    begun predictable texts (Some body) deep e m Absent is present = absurd is
    begun predictable texts (Some body) deep e m Pushed is present =
        let after : reverse new ≡ body ++ reverse below =
        ap reverse is.1 ∙ reverse-append below (reverse body)
        ∙ ap (λ (b : List (Symbol C N)). b ++ reverse below) (reverse-reverse body) in
        subst (λ (s : List (Symbol C N)). IsRead g follow (a_nonterminal n ∷ reverse below) c Pushed s) (sym after)
        (read-begins g follow n c (reverse below) body predictable ready_part e (m ∙ is.0))
    begun predictable texts (Some body) deep e m Deep is present =
        read-deep g follow n c (reverse below) body (reverse new) texts e (m ∙ is)

    -- a part that begins with the token
    pub at_part : IsPredictable g follow → HasTexts g → (prediction : Prediction) → IsPredicted (g.production n c) (g.deep n c) below prediction new
        → (prediction ≡ Absent → ⊥) → IsRead g follow (reverse items) c prediction (reverse new)
    at_part predictable texts prediction is present =
        subst (λ (s : List (Symbol C N)). IsRead g follow s c prediction (reverse new)) (sym (popped top))
        (begun predictable texts (g.production n c) (g.deep n c) refl refl prediction is present)
