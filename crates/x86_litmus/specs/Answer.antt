-- What a listing's bytes say: a case, or the first fault. Faults of the header are judged first, then the lexical ones,
-- those of syntax, and those of content.
use Rattle.std.specs.Prelude.{◌≡◌, ℕ, ⊤, ◌⊎◌, List}
use Rattle.ll_grammar.specs.FirstFault.{IsFaultAt}
use Rattle.pc_common.specs.{Case.{Case}, declared.place.Place.{Place}}
use Rattle.uspec_lexer.specs.Token.{Token, token_place}
use Rattle.x86_litmus.specs.{Tokens.{Spells, IsLexicalFault}, Header.{header_of, body, fault}, Listing.{Listing}, Syntax.{IsListingOf, IsListing}}
use Rattle.x86_litmus.specs.{Items.{items_of}, Said.{Said}, Faults.{Outcome, faulty, says, found, outcome_of}, Cases.{case_of}}
use Rattle.x86_litmus.specs.declared.fault.X86Fault.{X86Fault, TheVariants.{Lexical, Syntax, Content, Memory}}

-- after their header the bytes spell these tokens
pub record IsBody (bytes : List ℕ) (tokens : List Token) : Type 0 where
  pub from : ℕ
  pub header : header_of bytes ≡ body from
  pub spelled : Spells bytes from tokens

-- the bytes are a listing that comes to this
pub record ComesTo (bytes : List ℕ) (outcome : Outcome) : Type 0 where
  pub tokens : List Token
  pub spelled : IsBody bytes tokens
  pub listing : Listing
  pub is_listing : IsListingOf listing tokens
  pub comes : outcome_of (items_of listing) ≡ outcome

-- the bytes say this case
abbrev pub CaseOf : List ℕ → Case → Type 0
CaseOf bytes case = (s : Said) × ComesTo bytes (says s) × (case ≡ case_of s)

-- the bytes spell tokens after their header, and no listing goes on at the one at this place
pub record IsTokenFault (bytes : List ℕ) (place : Place) : Type 0 where
  pub tokens : List Token
  pub spelled : IsBody bytes tokens
  pub k : ℕ
  pub fault_at : IsFaultAt IsListing tokens k
  pub at : place.offset ≡ token_place bytes tokens k

-- the first fault of a listing; want of memory is tied to nothing
abbrev pub IsX86Fault : List ℕ → X86Fault → Type 0
IsX86Fault bytes (Lexical place) = (from : ℕ) × (header_of bytes ≡ body from) × IsLexicalFault bytes from place.offset
IsX86Fault bytes (Syntax place) = (header_of bytes ≡ fault place.offset) ⊎ IsTokenFault bytes place
IsX86Fault bytes (Content kind place) = ComesTo bytes (faulty (found kind place.offset))
IsX86Fault bytes Memory = ⊤
