-- The faults of the terminals are those of the tokens.
use Rattle.std.proofs.Common.{◌≡◌, ℕ, ◌⊎◌, List, Option, map, refl}
use Rattle.ll_grammar.specs.{Rules.{Derives}, FirstFault.{IsFaultAt, IsAnswer, IsSyntaxAnswer, fault_place}, declared.fault.Fault.{Fault}}
use Rattle.ll_grammar.proofs.{Existence.{decided_by, kept_by}, Shallow.{syntax_answer, text_or_fault}}
use Rattle.uspec_lexer.specs.{Token.{Token}, Vocabulary.{some_token}}
use Rattle.litmus_reader.specs.{Syntax.{IsTest}, Terminals.{spelling, sort_of, terminal_of, word_terminal, symbol_terminal}}
use Rattle.litmus_reader.specs.{Phrases.{rules, follow, terminals, listed, rules_predictable, rules_texts}, declared.terminal.Terminal.{Terminal}}
use Rattle.litmus_reader.{specs.declared.phrase.Phrase.TheVariants.{Test}, proofs.Bridge.{test_of_derives, derives_of_test}}

-- some token of each terminal
abbrev some : Terminal → Token
some c = some_token (sort_of c) (spelling c)

some_is : (c : Terminal) → terminal_of (some c) ≡ c
unfolding word_terminal symbol_terminal
some_is = kept_by terminals listed (λ c. terminal_of (some c)) refl

-- the recogniser's answer, over the tokens
pub answer : (ts : List Token) (found : Option Fault) → IsAnswer (Derives rules Test) (map terminal_of ts) found
    → IsSyntaxAnswer IsTest ts (fault_place found)
answer = syntax_answer rules Test (λ n c. refl) terminal_of some some_is IsTest test_of_derives derives_of_test

-- each list of tokens is a test or has a syntax fault
pub test_or_fault : (ts : List Token) → IsTest ts ⊎ ((k : ℕ) × IsFaultAt IsTest ts k)
test_or_fault =
    text_or_fault rules Test (λ n c. refl) terminal_of some some_is IsTest test_of_derives derives_of_test
    follow (decided_by terminals listed) rules_predictable rules_texts
