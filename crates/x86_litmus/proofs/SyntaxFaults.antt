-- The faults of the terminals are those of the tokens.
use Rattle.std.proofs.Common.{◌≡◌, ℕ, ◌⊎◌, List, Option, map, refl}
use Rattle.ll_grammar.specs.{Rules.{Derives}, FirstFault.{IsFaultAt, IsAnswer, IsSyntaxAnswer, fault_place}, declared.fault.Fault.{Fault}}
use Rattle.ll_grammar.proofs.{Existence.{decided_by, kept_by}, Shallow.{syntax_answer, text_or_fault}}
use Rattle.uspec_lexer.specs.{Token.{Token}, Vocabulary.{some_token}}
use Rattle.x86_litmus.specs.{Syntax.{IsListing}, Terminals.{spelling, sort_of, terminal_of, word_terminal, symbol_terminal}}
use Rattle.x86_litmus.specs.{Phrases.{rules, follow, terminals, listed, rules_predictable, rules_texts}, declared.terminal.Terminal.{Terminal}}
use Rattle.x86_litmus.{specs.declared.phrase.Phrase.TheVariants.{Listing}, proofs.Bridge.{listing_of_derives, derives_of_listing}}

-- some token of each terminal
abbrev some : Terminal → Token
some c = some_token (sort_of c) (spelling c)

some_is : (c : Terminal) → terminal_of (some c) ≡ c
unfolding word_terminal symbol_terminal
some_is = kept_by terminals listed (λ c. terminal_of (some c)) refl

-- the recogniser's answer, over the tokens
pub answer : (ts : List Token) (found : Option Fault) → IsAnswer (Derives rules Listing) (map terminal_of ts) found
    → IsSyntaxAnswer IsListing ts (fault_place found)
answer = syntax_answer rules Listing (λ n c. refl) terminal_of some some_is IsListing listing_of_derives derives_of_listing

-- each list of tokens is a listing or has a syntax fault
pub listing_or_fault : (ts : List Token) → IsListing ts ⊎ ((k : ℕ) × IsFaultAt IsListing ts k)
listing_or_fault =
    text_or_fault rules Listing (λ n c. refl) terminal_of some some_is IsListing listing_of_derives derives_of_listing
    follow (decided_by terminals listed) rules_predictable rules_texts
