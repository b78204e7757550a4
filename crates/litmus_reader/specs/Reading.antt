-- What is read at a place of the tokens.
use Rattle.std.specs.Prelude.{◌≡◌, ℕ, ◌+◌, List, [], ◌∷◌, ◌++◌, Some, length, map, drop, slice_get}
use Rattle.uspec_lexer.specs.{Token.{Token, name}, Expected.{Expected, a_word, a_number, a_symbol, Is, Spell}}
use Rattle.pc_case.specs.declared.address.Page.{Page}
use Rattle.litmus_reader.specs.{Expected.{number_at}, Syntax.{spelled_item, spelled_access, spelled_action, spelled_entry, spelled_statement, close_}}
use Rattle.litmus_reader.specs.declared.terminal.Terminal.{Terminal, TheVariants.{Read as ReadWord, Write as WriteWord, Fence as FenceWord}}
use Rattle.litmus_reader.specs.declared.item.{Numeral.{Numeral}, ValueText.{ValueText, TheVariants.{Entry}}, End.{End}, ValueLine.{ValueLine}}
use Rattle.litmus_reader.specs.declared.item.{Relationship.{Relationship}, Item.TheVariants.{Microop as microop, Relationship as relationship}}
use Rattle.litmus_reader.specs.declared.item.{Microop.{Microop}, Action.{Action, TheVariants.{Read, Write, Fence}}}
use Rattle.pc_common.specs.declared.place.Place.{Place}

-- the token at k is what is expected
pub record StandsAt (ts : List Token) (k : ℕ) (e : Expected) : Type 0 where
  pub token : Token
  pub at : slice_get ts k ≡ Some token
  pub is : Is e token

-- from k on stand these, and then others
pub record BeginsAt (ts : List Token) (k : ℕ) (es : List Expected) : Type 0 where
  pub others : List Expected
  pub spell : Spell (es ++ others) (drop k ts)

-- a number stands at k
abbrev pub IsNumberAt : List Token → ℕ → Type 0
IsNumberAt ts k = (n : ℕ) × StandsAt ts k (a_number n)

-- the numbers of this page stand after the bracket at k and its word
abbrev pub IsPageAt : List Token → ℕ → Page → Type 0
IsPageAt ts k p = StandsAt ts (k + 2) (a_number p.tag) × StandsAt ts (k + 3) (a_number p.index)

-- the numbers of this end stand from k on
abbrev pub IsEndAt : List Token → ℕ → End → Type 0
IsEndAt ts k e = StandsAt ts k (number_at e.g) × StandsAt ts (k + 1) (a_number e.n)

-- a name stands at k
pub record IsNameAt (ts : List Token) (k : ℕ) : Type 0 where
  pub token : Token
  pub at : slice_get ts k ≡ Some token
  pub named : token.kind ≡ name

-- from k on stand these names, and then a symbol
pub record NamesAt (ts : List Token) (k : ℕ) (names : List (List ℕ)) : Type 0 where
  pub behind : List ℕ
  pub they : BeginsAt ts k (map a_word names ++ a_symbol behind ∷ [])

-- something that is spelled so begins at k
abbrev pub SomeAt : {X : Type 0} → (X → List Expected) → List Token → ℕ → Type 0
SomeAt {X} spelled ts k = (x : X) × BeginsAt ts k (spelled x)

-- whatever is spelled so and begins at k is x, and `next` is the place after it
abbrev pub IsReadAt : {X : Type 0} → (X → List Expected) → List Token → ℕ → X → ℕ → Type 0
IsReadAt {X} spelled ts k x next = (y : X) → BeginsAt ts k (spelled y) → (x ≡ y) × (next ≡ k + length (spelled y))

-- an entry begins at k
abbrev pub SomeEntryAt : List Token → ℕ → Type 0
SomeEntryAt ts k =
    (tag : ℕ) × (accessed : Numeral) × (dirty : Numeral) × BeginsAt ts k (spelled_entry tag accessed dirty)

-- whatever entry begins at k is this one
abbrev pub IsEntryAt : List Token → ℕ → ValueText → Type 0
IsEntryAt ts k value =
    (tag : ℕ) (accessed dirty : Numeral) → BeginsAt ts k (spelled_entry tag accessed dirty)
    → value ≡ Entry tag accessed dirty

abbrev pub terminal_of_action : Action → Terminal
terminal_of_action (Read t) = ReadWord
terminal_of_action (Write t) = WriteWord
terminal_of_action Fence = FenceWord

-- what an action of this word touches begins at k
abbrev pub SomeActionAt : List Token → Terminal → ℕ → Type 0
SomeActionAt ts word k = (a : Action) × (word ≡ terminal_of_action a) × BeginsAt ts k (spelled_action a)

abbrev pub IsActionAt : List Token → Terminal → ℕ → Action → ℕ → Type 0
IsActionAt ts word k action next =
    (a : Action) → word ≡ terminal_of_action a → BeginsAt ts k (spelled_action a)
    → (action ≡ a) × (next ≡ k + length (spelled_action a))

-- what stands in a micro-op's brackets begins at k, up to the one that closes them
abbrev pub SomeAccessAt : List Token → ℕ → Type 0
SomeAccessAt ts k =
    (types : List (List ℕ)) × (action : Action) × BeginsAt ts k (spelled_access types action ++ close_ ∷ [])

abbrev pub IsAccessAt : List Token → ℕ → List (List ℕ) → Action → ℕ → Type 0
IsAccessAt ts k types action next =
    (names : List (List ℕ)) (a : Action) → BeginsAt ts k (spelled_access names a ++ close_ ∷ [])
    → (types ≡ names) × (action ≡ a) × (next ≡ k + length (spelled_access names a))

-- whatever line has its word at this place, and after it k, is this one
abbrev pub IsValueLineAt : List Token → Place → ℕ → ValueLine → ℕ → Type 0
IsValueLineAt ts at k line next =
    (v : ValueLine) → at ≡ v.at → BeginsAt ts k (spelled_statement v)
    → (line ≡ v) × (next ≡ k + length (spelled_statement v))

-- a micro-op's line, as an item is spelled, and a relationship's
abbrev pub spelled_microop : Microop → List Expected
spelled_microop m = spelled_item (microop m)

abbrev pub spelled_relationship : Relationship → List Expected
spelled_relationship r = spelled_item (relationship r)
