-- The grammar of tests as a table: what stands after a token where a phrase begins with it.
use Rattle.std.specs.Prelude.{◌≡◌, ℕ, Bool, true, false, List, [], ◌∷◌, Option, Some, None, refl, if◌then◌else◌}
use Rattle.ll_grammar.specs.{Rules.{Rules}, Predictable.{IsPredictable, HasTexts}}
use Rattle.ll_grammar.specs.{LawsOfTables.{AreListed, predictable_by, texts_by, is_predictable_part, is_ranked_part}, declared.grammar.Symbol.{Symbol}}
use Rattle.ll_grammar.specs.declared.grammar.Symbol.TheVariants.{Terminal as a_terminal, Nonterminal as a_nonterminal}
use Rattle.litmus_reader.specs.{Terminals.{is_name}, declared.terminal.Terminal.{Terminal}}
use Rattle.litmus_reader.specs.declared.terminal.Terminal.TheVariants.{Litmus, Microop, Relationship, Init, Final, Permitted, Forbidden, Read, Write, Fence, Va, Pa, Data, Name, Number, Text, Open, Close, Dot, Arrow, Other, Litmus2, Entry, Maps}
use Rattle.litmus_reader.specs.declared.phrase.Phrase.{Phrase}
use Rattle.litmus_reader.specs.declared.phrase.Phrase.TheVariants.{Test, Items, Access, Types, AnyName, VirtualPage, Address, AddressInside, ReadValue, WriteValue, ValueInside, StatedValue}
use Rattle.litmus_reader.specs.declared.format.Format.TheVariants.{One, Two}

abbrev pub production : Phrase → Terminal → Option (List (Symbol Terminal Phrase))
production Test Litmus = Some (a_terminal Text ∷ a_terminal Dot ∷ a_nonterminal (Items One) ∷ [])
production Test Litmus2 = Some (a_terminal Text ∷ a_terminal Dot ∷ a_nonterminal (Items Two) ∷ [])
production (Items f) Microop =
    Some (
    a_terminal Number ∷ a_terminal Number ∷ a_terminal Number ∷ a_terminal Number ∷ a_terminal Open ∷ a_nonterminal (Access f)
    ∷ a_terminal Close ∷ a_terminal Dot
    ∷ a_nonterminal (Items f) ∷ []
    )
production (Items f) Relationship =
    Some (
    a_nonterminal AnyName ∷ a_terminal Number ∷ a_terminal Number ∷ a_terminal Arrow ∷ a_terminal Number ∷ a_terminal Number ∷ a_terminal Dot
    ∷ a_nonterminal (Items f) ∷ []
    )
production (Items f) Init = Some (a_nonterminal (Address f) ∷ a_nonterminal (StatedValue f) ∷ a_terminal Dot ∷ a_nonterminal (Items f) ∷ [])
production (Items f) Final = Some (a_nonterminal (Address f) ∷ a_nonterminal (StatedValue f) ∷ a_terminal Dot ∷ a_nonterminal (Items f) ∷ [])
production (Items f) Permitted = Some (a_terminal Dot ∷ a_nonterminal (Items f) ∷ [])
production (Items f) Forbidden = Some (a_terminal Dot ∷ a_nonterminal (Items f) ∷ [])
production (Access f) Read = Some (a_nonterminal Types ∷ a_nonterminal VirtualPage ∷ a_nonterminal (Address f) ∷ a_nonterminal (ReadValue f) ∷ [])
production (Access f) Write = Some (a_nonterminal Types ∷ a_nonterminal VirtualPage ∷ a_nonterminal (Address f) ∷ a_nonterminal (WriteValue f) ∷ [])
production (Access f) Fence = Some (a_nonterminal Types ∷ [])
production Types c = if is_name c then Some (a_nonterminal Types ∷ []) else None
production AnyName c = if is_name c then Some [] else None
production VirtualPage Open = Some (a_terminal Va ∷ a_terminal Number ∷ a_terminal Number ∷ a_terminal Close ∷ [])
production (Address f) Open = Some (a_nonterminal (AddressInside f) ∷ [])
production (AddressInside f) Pa = Some (a_terminal Number ∷ a_terminal Number ∷ a_terminal Close ∷ [])
production (AddressInside Two) Entry = Some (a_terminal Number ∷ a_terminal Close ∷ [])
production (ReadValue f) Open = Some (a_nonterminal (ValueInside f) ∷ [])
production (WriteValue f) Open = Some (a_nonterminal (ValueInside f) ∷ [])
production (ValueInside f) Data = Some (a_terminal Number ∷ a_terminal Close ∷ [])
production (ValueInside Two) Maps = Some (a_terminal Number ∷ a_terminal Number ∷ a_terminal Number ∷ a_terminal Close ∷ [])
production (StatedValue f) Number = Some []
production (StatedValue Two) Open = Some (a_terminal Maps ∷ a_terminal Number ∷ a_terminal Number ∷ a_terminal Number ∷ a_terminal Close ∷ [])
production _ _ = None

abbrev pub is_nullable : Phrase → Bool
is_nullable (Items f) = true
is_nullable Types = true
is_nullable _ = false

-- nothing nests, so no token stands too deep
abbrev pub deep : Phrase → Terminal → Bool
deep n c = false

abbrev pub rules : Rules Terminal Phrase
rules = record { production = production; is_nullable = is_nullable; deep = deep }

-- which terminals may come next after a phrase
abbrev pub follow : Phrase → Terminal → Bool
follow (Access f) Close = true
follow Types Open = true
follow Types Close = true
follow AnyName Number = true
follow VirtualPage Open = true
follow (Address f) Open = true
follow (Address f) Number = true
follow (AddressInside f) Open = true
follow (AddressInside f) Number = true
follow (ReadValue f) Close = true
follow (WriteValue f) Close = true
follow (ValueInside f) Close = true
follow (StatedValue f) Dot = true
follow _ _ = false

abbrev pub terminals : List Terminal
terminals =
    Litmus ∷ Microop ∷ Relationship ∷ Init ∷ Final ∷ Permitted ∷ Forbidden ∷ Read ∷ Write ∷ Fence ∷ Va ∷ Pa ∷ Data
    ∷ Name ∷ Number ∷ Text ∷ Open ∷ Close ∷ Dot ∷ Arrow ∷ Other ∷ Litmus2 ∷ Entry ∷ Maps ∷ []

-- the place of a terminal among all
abbrev pub listed : AreListed terminals
listed Litmus = (0, refl)
listed Microop = (1, refl)
listed Relationship = (2, refl)
listed Init = (3, refl)
listed Final = (4, refl)
listed Permitted = (5, refl)
listed Forbidden = (6, refl)
listed Read = (7, refl)
listed Write = (8, refl)
listed Fence = (9, refl)
listed Va = (10, refl)
listed Pa = (11, refl)
listed Data = (12, refl)
listed Name = (13, refl)
listed Number = (14, refl)
listed Text = (15, refl)
listed Open = (16, refl)
listed Close = (17, refl)
listed Dot = (18, refl)
listed Arrow = (19, refl)
listed Other = (20, refl)
listed Litmus2 = (21, refl)
listed Entry = (22, refl)
listed Maps = (23, refl)

-- a terminal that leads to shorter phrases
abbrev first : Phrase → Terminal
first Test = Litmus
first (Items f) = Permitted
first (Access f) = Fence
first Types = Name
first AnyName = Name
first VirtualPage = Open
first (Address f) = Open
first (AddressInside f) = Pa
first (ReadValue f) = Open
first (WriteValue f) = Open
first (ValueInside f) = Data
first (StatedValue f) = Number

abbrev rank : Phrase → ℕ
rank Test = 2
rank (Access f) = 1
rank (Address f) = 1
rank (ReadValue f) = 1
rank (WriteValue f) = 1
rank _ = 0

-- the two tests of each phrase
tested : (n : Phrase) → (is_predictable_part rules follow terminals n ≡ true) × (is_ranked_part rules first rank n ≡ true)
tested Test = (refl, refl)
tested (Items One) = (refl, refl)
tested (Items Two) = (refl, refl)
tested (Access One) = (refl, refl)
tested (Access Two) = (refl, refl)
tested Types = (refl, refl)
tested AnyName = (refl, refl)
tested VirtualPage = (refl, refl)
tested (Address One) = (refl, refl)
tested (Address Two) = (refl, refl)
tested (AddressInside One) = (refl, refl)
tested (AddressInside Two) = (refl, refl)
tested (ReadValue One) = (refl, refl)
tested (ReadValue Two) = (refl, refl)
tested (WriteValue One) = (refl, refl)
tested (WriteValue Two) = (refl, refl)
tested (ValueInside One) = (refl, refl)
tested (ValueInside Two) = (refl, refl)
tested (StatedValue One) = (refl, refl)
tested (StatedValue Two) = (refl, refl)

pub rules_predictable : IsPredictable rules follow
rules_predictable = predictable_by rules follow terminals (λ c. (listed c).0) (λ c. (listed c).1) (λ n. (tested n).0)

pub rules_texts : HasTexts rules
rules_texts = texts_by rules first rank (λ n. (tested n).1)
