-- Each text has a case or a first fault that is no want of memory.
use Rattle.std.proofs.Common.{◌≢◌, ℕ, ◌⊎◌, ⊎_elim, inl, inr, List, refl}
use Rattle.pc_common.specs.Case.{Case}
use Rattle.uspec_lexer.{specs.{Token.{Token, token_place}, Spells.{Spells}}, proofs.Totality.{spells-or_fault}}
use Rattle.litmus_reader.specs.{Items.{case_of}, Answer.{IsTextOf, CaseOf, IsCaseFault}, declared.{item.Item.{Item}, fault.CaseFault.{CaseFault}}}
use Rattle.litmus_reader.{specs.declared.fault.CaseFault.TheVariants.{Lexical, Syntax, Content, Memory}, proofs.SyntaxFaults.{test_or_fault}}
use Rattle.litmus_reader.proofs.ContentTotality.{clean_or_fault}

abbrev IsSettled : List ℕ → Type 0
IsSettled bytes = ((c : Case) × CaseOf bytes c) ⊎ ((f : CaseFault) × (f ≢ Memory) × IsCaseFault bytes f)

-- items that the bytes say
items_settled : (bytes : List ℕ) (items : List Item) → IsTextOf bytes items → IsSettled bytes
items_settled bytes items said =
    ⊎_elim
    (λ clean. inl (case_of items, record { items = items; text = said; clean = clean; is = refl }))
    (λ (kind, at, fault). inr (Content kind at, (λ e. cc), (items, said, fault)))
    (clean_or_fault items)

-- tokens that the bytes spell
tokens_settled : (bytes : List ℕ) (ts : List Token) → Spells bytes ts → IsSettled bytes
tokens_settled bytes ts spelled =
    ⊎_elim
    (λ (items, test). items_settled bytes items (record { tokens = ts; spelled = spelled; test = test }))
    (λ (k, fault). inr (
      Syntax (record { offset = token_place bytes ts k }),
      (λ e. cc),
      record { tokens = ts; spelled = spelled; k = k; fault = fault; at = refl },
    ))
    (test_or_fault ts)

pub case_or_fault : (bytes : List ℕ) → ((c : Case) × CaseOf bytes c) ⊎ ((f : CaseFault) × (f ≢ Memory) × IsCaseFault bytes f)
case_or_fault bytes =
    ⊎_elim
    (λ (ts, spelled). tokens_settled bytes ts spelled)
    (λ (k, fault). inr (Lexical (record { offset = k }), (λ e. cc), fault))
    (spells-or_fault bytes)
