-- What a test's bytes say: a case, or the first fault. Lexical faults are judged before those of syntax, and these
-- before those of content.
use Rattle.std.specs.Prelude.{◌≡◌, ℕ, ⊤, List}
use Rattle.ll_grammar.specs.FirstFault.{IsFaultAt}
use Rattle.pc_common.specs.{Case.{Case}, declared.place.Place.{Place}}
use Rattle.uspec_lexer.specs.{Token.{Token, token_place}, Spells.{Spells, IsLexicalFault}}
use Rattle.litmus_reader.specs.{Syntax.{IsTestOf, IsTest}, Items.{case_of}, Content.{IsClean, IsContentFault}, declared.item.Item.{Item}}
use Rattle.litmus_reader.specs.declared.fault.CaseFault.{CaseFault, TheVariants.{Lexical, Syntax, Content, Memory}}

-- the bytes are a text of these items
pub record IsTextOf (bytes : List ℕ) (items : List Item) : Type 0 where
  pub tokens : List Token
  pub spelled : Spells bytes tokens
  pub test : IsTestOf items tokens

-- the bytes say this case
pub record CaseOf (bytes : List ℕ) (case : Case) : Type 0 where
  pub items : List Item
  pub text : IsTextOf bytes items
  pub clean : IsClean items
  pub is : case ≡ case_of items

-- the bytes spell tokens, and no test goes on at the one at this place
pub record IsSyntaxFault (bytes : List ℕ) (place : Place) : Type 0 where
  pub tokens : List Token
  pub spelled : Spells bytes tokens
  pub k : ℕ
  pub fault : IsFaultAt IsTest tokens k
  pub at : place.offset ≡ token_place bytes tokens k

-- the first fault of a test; want of memory is tied to nothing
abbrev pub IsCaseFault : List ℕ → CaseFault → Type 0
IsCaseFault bytes (Lexical place) = IsLexicalFault bytes place.offset
IsCaseFault bytes (Syntax place) = IsSyntaxFault bytes place
IsCaseFault bytes (Content kind place) = (items : List Item) × IsTextOf bytes items × IsContentFault items kind place
IsCaseFault bytes Memory = ⊤

-- the tokens, which are a test, say this case
abbrev pub CaseIn : List Token → Case → Type 0
CaseIn ts case = (items : List Item) × IsTestOf items ts × IsClean items × (case ≡ case_of items)

-- their first fault
abbrev pub IsContentFaultIn : List Token → CaseFault → Type 0
IsContentFaultIn ts (Content kind place) = (items : List Item) × IsTestOf items ts × IsContentFault items kind place
IsContentFaultIn ts Memory = ⊤
IsContentFaultIn ts (Lexical place) = ⊥
IsContentFaultIn ts (Syntax place) = ⊥
