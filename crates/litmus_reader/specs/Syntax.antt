-- The grammar of tests, production by production: what is expected of the tokens, from the first to the last.
-- Its words are names by their spelling, and none is reserved.
use Rattle.std.specs.{Prelude.{ℕ, ⊤, List, [], ◌∷◌, ◌++◌, codes, map}, List.{flat_map}}
use Rattle.pc_case.specs.declared.address.{Page.{Page}, Address.{Address, TheVariants.{Page as PageAddress, Entry as EntryAddress}}}
use Rattle.uspec_lexer.specs.{Token.{Token}, Expected.{Expected, a_word, a_number, a_text, a_symbol, Spell}}
use Rattle.litmus_reader.specs.{Expected.{word_at, number_at}, declared.{format.Format.{Format, TheVariants.{One, Two}}, item.Numeral.{Numeral}}}
use Rattle.litmus_reader.specs.declared.item.{ValueText.{ValueText, TheVariants.{Number, Entry}}, Touch.{Touch}, Head.{Head}, Action.{Action}}
use Rattle.litmus_reader.specs.declared.item.{Action.TheVariants.{Read, Write, Fence}, ValueLine.{ValueLine}, Item.{Item}}
use Rattle.litmus_reader.specs.declared.item.Item.TheVariants.{Microop as microop, Relationship as relationship, Initial as initial, Final as final, Permitted as permitted, Forbidden as forbidden}

abbrev pub open_ : Expected
open_ = a_symbol (codes "(")

abbrev pub close_ : Expected
close_ = a_symbol (codes ")")

abbrev pub dot : Expected
dot = a_symbol (codes ".")

abbrev pub arrow : Expected
arrow = a_symbol (codes "->")

-- "(" word t x ")"
abbrev pub spelled_page : List ℕ → Page → List Expected
spelled_page word p = open_ ∷ a_word word ∷ a_number p.tag ∷ a_number p.index ∷ close_ ∷ []

-- pa = "(" PA t x ")" | "(" Entry t ")"
abbrev pub spelled_address : Address → List Expected
spelled_address (PageAddress tag index) = spelled_page (codes "PA") (record { tag = tag; index = index })
spelled_address (EntryAddress tag) = open_ ∷ a_word (codes "Entry") ∷ a_number tag ∷ close_ ∷ []

-- entry = "(" Maps t a d ")"
abbrev pub spelled_entry : ℕ → Numeral → Numeral → List Expected
spelled_entry tag accessed dirty =
    open_ ∷ a_word (codes "Maps") ∷ a_number tag ∷ number_at accessed ∷ number_at dirty ∷ close_ ∷ []

-- "(" Data d ")" | entry
abbrev pub spelled_value : ValueText → List Expected
spelled_value (Number d) = open_ ∷ a_word (codes "Data") ∷ a_number d ∷ close_ ∷ []
spelled_value (Entry tag accessed dirty) = spelled_entry tag accessed dirty

-- d | entry
abbrev pub spelled_stated : ValueText → List Expected
spelled_stated (Number d) = a_number d ∷ []
spelled_stated (Entry tag accessed dirty) = spelled_entry tag accessed dirty

-- "(" VA t x ")" pa ("(" Data d ")" | entry)
abbrev pub spelled_touch : Touch → List Expected
spelled_touch t = spelled_page (codes "VA") t.va ++ (spelled_address t.pa ++ spelled_value t.value)

abbrev pub action_word : Action → List ℕ
action_word (Read t) = codes "Read"
action_word (Write t) = codes "Write"
action_word Fence = codes "Fence"

-- what stands after the type names
abbrev pub spelled_action : Action → List Expected
spelled_action (Read t) = spelled_touch t
spelled_action (Write t) = spelled_touch t
spelled_action Fence = []

-- acc = (Read | Write) ANY* "(" VA t x ")" pa ("(" Data d ")" | entry)
--     | Fence ANY*
abbrev pub spelled_access : List (List ℕ) → Action → List Expected
spelled_access types action = a_word (action_word action) ∷ (map a_word types ++ spelled_action action)

-- Microop g core thread n
abbrev pub spelled_head : Head → List Expected
spelled_head h =
    word_at (codes "Microop") h.at ∷ number_at h.g ∷ number_at h.core ∷ number_at h.thread ∷ a_number h.n ∷ []

-- pa (d | entry) "."
abbrev pub spelled_statement : ValueLine → List Expected
spelled_statement v = spelled_address v.pa ++ (spelled_stated v.value ++ dot ∷ [])

-- item = Microop g core thread n "(" acc ")" "."
--      | Relationship ANY g n "->" g n "."
--      | Init pa (d | entry) "." | Final pa (d | entry) "."
--      | Permitted "." | Forbidden "."
abbrev pub spelled_item : Item → List Expected
spelled_item (microop m) = spelled_head m.head ++ (open_ ∷ (spelled_access m.types m.action ++ (close_ ∷ dot ∷ [])))
spelled_item (relationship r) =
    a_word (codes "Relationship") ∷ a_word r.kind ∷ number_at r.source.g ∷ a_number r.source.n ∷ arrow
    ∷ number_at r.target.g ∷ a_number r.target.n ∷ dot ∷ []
spelled_item (initial v) = word_at (codes "Init") v.at ∷ spelled_statement v
spelled_item (final v) = word_at (codes "Final") v.at ∷ spelled_statement v
spelled_item (permitted at) = word_at (codes "Permitted") at ∷ dot ∷ []
spelled_item (forbidden at) = word_at (codes "Forbidden") at ∷ dot ∷ []

-- item*
abbrev pub spelled_items : List Item → List Expected
spelled_items items = flat_map spelled_item items

-- the formats that may name an address, or a value: page-table entries stand in the second alone
abbrev pub IsAddressOf : Format → Address → Type 0
IsAddressOf f (PageAddress tag index) = ⊤
IsAddressOf One (EntryAddress tag) = ⊥
IsAddressOf Two (EntryAddress tag) = ⊤

abbrev pub IsValueOf : Format → ValueText → Type 0
IsValueOf f (Number d) = ⊤
IsValueOf One (Entry tag accessed dirty) = ⊥
IsValueOf Two (Entry tag accessed dirty) = ⊤

abbrev pub IsActionOf : Format → Action → Type 0
IsActionOf f (Read t) = IsAddressOf f t.pa × IsValueOf f t.value
IsActionOf f (Write t) = IsAddressOf f t.pa × IsValueOf f t.value
IsActionOf f Fence = ⊤

abbrev pub IsItemOf : Format → Item → Type 0
IsItemOf f (microop m) = IsActionOf f m.action
IsItemOf f (relationship r) = ⊤
IsItemOf f (initial v) = IsAddressOf f v.pa × IsValueOf f v.value
IsItemOf f (final v) = IsAddressOf f v.pa × IsValueOf f v.value
IsItemOf f (permitted at) = ⊤
IsItemOf f (forbidden at) = ⊤

abbrev pub AreItemsOf : Format → List Item → Type 0
AreItemsOf f [] = ⊤
AreItemsOf f (i ∷ is) = IsItemOf f i × AreItemsOf f is

abbrev pub format_word : Format → List ℕ
format_word One = codes "Litmus"
format_word Two = codes "Litmus2"

-- test = (Litmus | Litmus2) TEXT "." item*
abbrev pub spelled_test : Format → List Item → List Expected
spelled_test f items = a_word (format_word f) ∷ a_text ∷ dot ∷ spelled_items items

-- the tokens are a test of these items, in a format that has them
abbrev pub IsTestOf : List Item → List Token → Type 0
IsTestOf items ts = (f : Format) × AreItemsOf f items × Spell (spelled_test f items) ts

-- the tokens are a test
abbrev pub IsTest : List Token → Type 0
IsTest ts = (items : List Item) × IsTestOf items ts
