-- Tokens have one first fault at most, at one place, and none where they are accepted.
use Rattle.std.proofs.Common.{◌≡◌, ℕ, Bool, List, Some, None, unwrap_or, sym, ◌∙◌, ap, subst}
use Rattle.pc_common.specs.declared.place.Place.{Place}
use Rattle.ll_grammar.specs.{FirstFault.{IsAccepted, IsFirstTokenFault}, declared.fault.Fault.{Fault, TheVariants.{Syntax, Depth}}}
use Rattle.ll_grammar.proofs.Faults.{one_answer}
use Rattle.uspec_lexer.{specs.{Token.{Token, token_place}, Spells.{Spells}}, proofs.SpellsLaws.{spells-unique}}

pub place_is : (p q : Place) → p.offset ≡ q.offset → p ≡ q
place_is p q same = λ i. record { offset = same i }

-- accepted tokens have no fault
pub no_fault_of_accepted : {C : Type 0} (terminals : List Token → List C) (IsMarked : List C → List Bool → Type 0) (bytes : List ℕ)
    → (ts us : List Token) (f : Fault) → Spells bytes ts → Spells bytes us
    → IsAccepted IsMarked (terminals ts) → IsFirstTokenFault IsMarked (terminals us) f → ⊥
no_fault_of_accepted terminals IsMarked bytes ts us f spelled other accepted fault =
    let P : List Token → Type 0 = λ vs. IsFirstTokenFault IsMarked (terminals vs) f in
    let here = one_answer IsMarked (terminals ts) None (Some f) accepted (subst P (spells-unique other spelled) fault) in
    cc

-- tokens have one first fault
pub one_token_fault : {C : Type 0} (terminals : List Token → List C) (IsMarked : List C → List Bool → Type 0) (bytes : List ℕ)
    → (ts us : List Token) (f g : Fault) → Spells bytes ts → Spells bytes us
    → IsFirstTokenFault IsMarked (terminals ts) f → IsFirstTokenFault IsMarked (terminals us) g → f ≡ g
one_token_fault terminals IsMarked bytes ts us f g spelled other x y =
    let P : List Token → Type 0 = λ vs. IsFirstTokenFault IsMarked (terminals vs) g in
    let same = one_answer IsMarked (terminals ts) (Some f) (Some g) x (subst P (spells-unique other spelled) y) in
    ap (λ o. unwrap_or o f) same

abbrev pub number_of : Fault → ℕ
number_of (Syntax k) = k
number_of (Depth k) = k

-- and so one place
pub one_token_place : (bytes : List ℕ) (ts us : List Token) (f g : Fault) (p q : Place) → Spells bytes ts → Spells bytes us
    → f ≡ g → p.offset ≡ token_place bytes ts (number_of f)
    → q.offset ≡ token_place bytes us (number_of g) → p ≡ q
one_token_place bytes ts us f g p q spelled other same at there =
    place_is p q
    (at ∙ ap (λ vs. token_place bytes vs (number_of f)) (spells-unique spelled other)
    ∙ ap (λ h. token_place bytes us (number_of h)) same ∙ sym there)
