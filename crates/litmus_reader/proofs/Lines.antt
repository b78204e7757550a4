-- What stands in the lines of a test, place by place.
use Rattle.std.proofs.Common.{◌≡◌, ◌≢◌, ℕ, ◌+◌, ◌<◌, ◌≤◌, List, [], ◌∷◌, ◌++◌, Some, map, codes, length, slice_get, refl, sym, ap, subst, ◌∙◌, arith, append_assoc}
use Rattle.std.proofs.lemmas.List.{length-append, length-map}
use Rattle.pc_case.specs.declared.address.{Page.{Page}, Address.{Address, TheVariants.{Page as PageAddress, Entry as EntryAddress}}}
use Rattle.pc_common.specs.declared.place.Place.{Place}
use Rattle.uspec_lexer.{specs.{Token.{Token}, Expected.{Expected, a_word, a_number, a_symbol}}, proofs.Words.{terminal-of_token}}
use Rattle.litmus_reader.specs.Expected.{word_at}
use Rattle.litmus_reader.specs.Syntax.{spelled_page, spelled_address, spelled_entry, spelled_value, spelled_stated, spelled_touch, spelled_action, spelled_access, spelled_head, spelled_statement, spelled_item, action_word, open_, close_, dot}
use Rattle.litmus_reader.specs.Terminals.{word_terminal, symbol_terminal, vocabulary, terminal_of}
use Rattle.litmus_reader.specs.Reading.{StandsAt, IsPageAt, IsNameAt, BeginsAt, NamesAt, SomeAt, IsReadAt, IsValueLineAt, terminal_of_action, spelled_microop, spelled_relationship}
use Rattle.litmus_reader.specs.declared.item.{Numeral.{Numeral}, ValueText.{ValueText, TheVariants.{Number as number_text, Entry as entry_text}}, Touch.{Touch}}
use Rattle.litmus_reader.specs.declared.item.{Action.{Action, TheVariants.{Read as read, Write as write, Fence as fence}}, Microop.{Microop as MicroopLine}}
use Rattle.litmus_reader.specs.declared.item.{Relationship.{Relationship as RelationshipLine}, ValueLine.{ValueLine}, Item.{Item}}
use Rattle.litmus_reader.specs.declared.item.Item.TheVariants.{Microop as microop, Relationship as relationship, Initial as initial, Final as final, Permitted as permitted, Forbidden as forbidden}
use Rattle.litmus_reader.specs.declared.terminal.Terminal.{Terminal}
use Rattle.litmus_reader.specs.declared.terminal.Terminal.TheVariants.{Microop, Relationship, Init, Final, Permitted, Forbidden, Pa, Entry, Data, Maps, Number, Open}
use Rattle.litmus_reader.proofs.{Bridge.{terminal}, Places.{stands, place-stands, stands-first, begins-behind, begins-front, begins-within}}

-- the terminal of the token that stands there
terminal-stands : {ts : List Token} {k : ℕ} {e : Expected} (t : Token) → slice_get ts k ≡ Some t → StandsAt ts k e → terminal_of t ≡ terminal e
terminal-stands {e = e} t at s =
    let same : s.token ≡ t = let h = s.at in cc in
    ap terminal_of (sym same) ∙ terminal-of_token vocabulary e s.token s.is

-- up to the first symbol after it
up_to_symbol : {ts : List Token} {k : ℕ} (xs : List Expected) (s : List ℕ) (others : List Expected)
    → BeginsAt ts k (xs ++ a_symbol s ∷ others) → BeginsAt ts k (xs ++ a_symbol s ∷ [])
up_to_symbol {ts} {k} xs s others b =
    begins-front (xs ++ a_symbol s ∷ []) others (subst (BeginsAt ts k) (sym (append_assoc xs (a_symbol s ∷ []) others)) b)

-- an address: its word, and what stands after it
abbrev pub terminal_of_address : Address → Terminal
terminal_of_address (PageAddress tag index) = Pa
terminal_of_address (EntryAddress tag) = Entry

pub address-terminal : {ts : List Token} {k : ℕ} (a : Address) → BeginsAt ts k (spelled_address a) → (t : Token) → slice_get ts (k + 1) ≡ Some t
    → terminal_of t ≡ terminal_of_address a
unfolding word_terminal
address-terminal (PageAddress tag index) b t at = terminal-stands t at (stands (spelled_address (PageAddress tag index)) b 1 _ refl)
address-terminal (EntryAddress tag) b t at = terminal-stands t at (stands (spelled_address (EntryAddress tag)) b 1 _ refl)

-- a word that is read there is that of the address
pub address-seen : {ts : List Token} {k : ℕ} (a : Address) → BeginsAt ts k (spelled_address a) → (word : Terminal)
    → ((t : Token) → slice_get ts (k + 1) ≡ Some t → word ≡ terminal_of t) → word ≡ terminal_of_address a
address-seen {ts} {k} a b word seen = let (t, at) = second a b in seen t at ∙ address-terminal a b t at
  where
    second : (x : Address) → BeginsAt ts k (spelled_address x) → (t : Token) × (slice_get ts (k + 1) ≡ Some t)
    second (PageAddress tag index) c = let s = stands (spelled_address (PageAddress tag index)) c 1 _ refl in (s.token, s.at)
    second (EntryAddress tag) c = let s = stands (spelled_address (EntryAddress tag)) c 1 _ refl in (s.token, s.at)

pub address-room : (a : Address) → 3 < length (spelled_address a)
address-room (PageAddress tag index) = omega arith
address-room (EntryAddress tag) = omega arith

pub address-within : {ts : List Token} {k : ℕ} (a : Address) → BeginsAt ts k (spelled_address a) → k + length (spelled_address a) ≤ length ts
address-within a b = begins-within (spelled_address a) b (omega (arith, address-room a))

pub address_page : {ts : List Token} {k : ℕ} (a : Address) → BeginsAt ts k (spelled_address a) → terminal_of_address a ≡ Pa
    → (p : Page) × (a ≡ PageAddress p.tag p.index) × IsPageAt ts k p
address_page (PageAddress tag index) b w =
    let es = spelled_address (PageAddress tag index) in
    (record { tag = tag; index = index }, refl, (stands es b 2 (a_number tag) refl, stands es b 3 (a_number index) refl))
address_page (EntryAddress tag) b w = absurd (cc)

pub address_entry : {ts : List Token} {k : ℕ} (a : Address) → BeginsAt ts k (spelled_address a) → terminal_of_address a ≡ Entry
    → (tag : ℕ) × (a ≡ EntryAddress tag) × StandsAt ts (k + 2) (a_number tag)
address_entry (PageAddress tag index) b w = absurd (cc)
address_entry (EntryAddress tag) b w = (tag, refl, stands (spelled_address (EntryAddress tag)) b 2 (a_number tag) refl)

pub address_known : (a : Address) → (terminal_of_address a ≢ Pa) → (terminal_of_address a ≢ Entry) → ⊥
address_known (PageAddress tag index) p e = p refl
address_known (EntryAddress tag) p e = e refl

-- a value after its word
abbrev pub terminal_of_value : ValueText → Terminal
terminal_of_value (number_text n) = Data
terminal_of_value (entry_text tag accessed dirty) = Maps

pub value-terminal : {ts : List Token} {k : ℕ} (v : ValueText) → BeginsAt ts k (spelled_value v) → (t : Token) → slice_get ts (k + 1) ≡ Some t
    → terminal_of t ≡ terminal_of_value v
unfolding word_terminal
value-terminal (number_text n) b t at = terminal-stands t at (stands (spelled_value (number_text n)) b 1 _ refl)
value-terminal (entry_text tag accessed dirty) b t at = terminal-stands t at (stands (spelled_value (entry_text tag accessed dirty)) b 1 _ refl)

pub value-seen : {ts : List Token} {k : ℕ} (v : ValueText) → BeginsAt ts k (spelled_value v) → (word : Terminal)
    → ((t : Token) → slice_get ts (k + 1) ≡ Some t → word ≡ terminal_of t) → word ≡ terminal_of_value v
value-seen {ts} {k} v b word seen = let (t, at) = second v b in seen t at ∙ value-terminal v b t at
  where
    second : (x : ValueText) → BeginsAt ts k (spelled_value x) → (t : Token) × (slice_get ts (k + 1) ≡ Some t)
    second (number_text n) c = let s = stands (spelled_value (number_text n)) c 1 _ refl in (s.token, s.at)
    second (entry_text t a d) c = let s = stands (spelled_entry t a d) c 1 _ refl in (s.token, s.at)

pub value-room : (v : ValueText) → 3 < length (spelled_value v)
value-room (number_text n) = omega arith
value-room (entry_text tag accessed dirty) = omega arith

pub value-within : {ts : List Token} {k : ℕ} (v : ValueText) → BeginsAt ts k (spelled_value v) → k + length (spelled_value v) ≤ length ts
value-within v b = begins-within (spelled_value v) b (omega (arith, value-room v))

pub value_number : {ts : List Token} {k : ℕ} (v : ValueText) → BeginsAt ts k (spelled_value v) → terminal_of_value v ≡ Data
    → (n : ℕ) × (v ≡ number_text n) × StandsAt ts (k + 2) (a_number n)
value_number (number_text n) b w = (n, refl, stands (spelled_value (number_text n)) b 2 (a_number n) refl)
value_number (entry_text tag accessed dirty) b w = absurd (cc)

-- an entry by its parts
pub record IsEntryText (ts : List Token) (k : ℕ) (v : ValueText) : Type 0 where
  pub tag : ℕ
  pub accessed : Numeral
  pub dirty : Numeral
  pub is : v ≡ entry_text tag accessed dirty
  pub begins : BeginsAt ts k (spelled_entry tag accessed dirty)

pub value_entry : {ts : List Token} {k : ℕ} (v : ValueText) → BeginsAt ts k (spelled_value v) → terminal_of_value v ≡ Maps → IsEntryText ts k v
value_entry (number_text n) b w = absurd (cc)
value_entry (entry_text tag accessed dirty) b w = record { tag = tag; accessed = accessed; dirty = dirty; is = refl; begins = b }

pub value_known : (v : ValueText) → (terminal_of_value v ≢ Data) → (terminal_of_value v ≢ Maps) → ⊥
value_known (number_text n) d m = d refl
value_known (entry_text tag accessed dirty) d m = m refl

-- a value that a line states
abbrev pub terminal_of_stated : ValueText → Terminal
terminal_of_stated (number_text n) = Number
terminal_of_stated (entry_text tag accessed dirty) = Open

pub stated-terminal : {ts : List Token} {k : ℕ} (v : ValueText) → BeginsAt ts k (spelled_stated v) → (t : Token) → slice_get ts k ≡ Some t
    → terminal_of t ≡ terminal_of_stated v
unfolding symbol_terminal
stated-terminal (number_text n) b t at = terminal-stands t at (stands-first _ _ b)
stated-terminal (entry_text tag accessed dirty) b t at = terminal-stands t at (stands-first _ _ b)

pub stated-seen : {ts : List Token} {k : ℕ} (v : ValueText) → BeginsAt ts k (spelled_stated v) → (word : Terminal)
    → ((t : Token) → slice_get ts k ≡ Some t → word ≡ terminal_of t) → word ≡ terminal_of_stated v
stated-seen {ts} {k} v b word seen = let (t, at) = front v b in seen t at ∙ stated-terminal v b t at
  where
    front : (x : ValueText) → BeginsAt ts k (spelled_stated x) → (t : Token) × (slice_get ts k ≡ Some t)
    front (number_text n) c = let s = stands-first _ _ c in (s.token, s.at)
    front (entry_text t a d) c = let s = stands-first _ _ c in (s.token, s.at)

pub stated-within : {ts : List Token} {k : ℕ} (v : ValueText) → BeginsAt ts k (spelled_stated v) → k + length (spelled_stated v) ≤ length ts
stated-within (number_text n) b = begins-within (spelled_stated (number_text n)) b (omega arith)
stated-within (entry_text tag accessed dirty) b = begins-within (spelled_stated (entry_text tag accessed dirty)) b (omega arith)

pub stated_number : {ts : List Token} {k : ℕ} (v : ValueText) → BeginsAt ts k (spelled_stated v) → terminal_of_stated v ≡ Number
    → (n : ℕ) × (v ≡ number_text n) × StandsAt ts k (a_number n)
stated_number (number_text n) b w = (n, refl, stands-first _ _ b)
stated_number (entry_text tag accessed dirty) b w = absurd (cc)

pub stated_entry : {ts : List Token} {k : ℕ} (v : ValueText) → BeginsAt ts k (spelled_stated v) → terminal_of_stated v ≡ Open → IsEntryText ts k v
stated_entry (number_text n) b w = absurd (cc)
stated_entry (entry_text tag accessed dirty) b w = record { tag = tag; accessed = accessed; dirty = dirty; is = refl; begins = b }

pub stated_known : (v : ValueText) → (terminal_of_stated v ≢ Number) → (terminal_of_stated v ≢ Open) → ⊥
stated_known (number_text n) d m = d refl
stated_known (entry_text tag accessed dirty) d m = m refl

-- the parts of what is touched
pub touch-va : {ts : List Token} {k : ℕ} (t : Touch) → BeginsAt ts k (spelled_touch t) → IsPageAt ts k t.va
touch-va t b = (stands (spelled_touch t) b 2 (a_number t.va.tag) refl, stands (spelled_touch t) b 3 (a_number t.va.index) refl)

touch-behind : {ts : List Token} {k : ℕ} (t : Touch) → BeginsAt ts k (spelled_touch t) → BeginsAt ts (k + 5) (spelled_address t.pa ++ spelled_value t.value)
touch-behind t b = begins-behind (spelled_page (codes "VA") t.va) (spelled_address t.pa ++ spelled_value t.value) b

pub touch-pa : {ts : List Token} {k : ℕ} (t : Touch) → BeginsAt ts k (spelled_touch t) → BeginsAt ts (k + 5) (spelled_address t.pa)
touch-pa t b = begins-front (spelled_address t.pa) (spelled_value t.value) (touch-behind t b)

pub touch-value : {ts : List Token} {k : ℕ} (t : Touch) → BeginsAt ts k (spelled_touch t)
    → BeginsAt ts (k + 5 + length (spelled_address t.pa)) (spelled_value t.value)
touch-value t b = begins-behind (spelled_address t.pa) (spelled_value t.value) (touch-behind t b)

pub touch-within : {ts : List Token} {k : ℕ} (t : Touch) → BeginsAt ts k (spelled_touch t) → k + length (spelled_touch t) ≤ length ts
touch-within t b = begins-within (spelled_touch t) b (omega arith)

pub touch-length : (t : Touch) → length (spelled_touch t) ≡ 5 + length (spelled_address t.pa) + length (spelled_value t.value)
touch-length t = let n = length-append (spelled_address t.pa) (spelled_value t.value) in omega arith

-- the parts of a line that states a value
pub statement-pa : {ts : List Token} {k : ℕ} (v : ValueLine) → BeginsAt ts k (spelled_statement v) → BeginsAt ts k (spelled_address v.pa)
statement-pa v b = begins-front (spelled_address v.pa) (spelled_stated v.value ++ dot ∷ []) b

statement-behind : {ts : List Token} {k : ℕ} (v : ValueLine) → BeginsAt ts k (spelled_statement v)
    → BeginsAt ts (k + length (spelled_address v.pa)) (spelled_stated v.value ++ dot ∷ [])
statement-behind v b = begins-behind (spelled_address v.pa) (spelled_stated v.value ++ dot ∷ []) b

pub statement-value : {ts : List Token} {k : ℕ} (v : ValueLine) → BeginsAt ts k (spelled_statement v)
    → BeginsAt ts (k + length (spelled_address v.pa)) (spelled_stated v.value)
statement-value v b = begins-front (spelled_stated v.value) (dot ∷ []) (statement-behind v b)

pub statement-length : (v : ValueLine) → length (spelled_statement v) ≡ length (spelled_address v.pa) + length (spelled_stated v.value) + 1
statement-length v =
    let n = length-append (spelled_address v.pa) (spelled_stated v.value ++ dot ∷ []) in
    let m = length-append (spelled_stated v.value) (dot ∷ []) in omega arith

pub statement-within : {ts : List Token} {k : ℕ} (v : ValueLine) → BeginsAt ts k (spelled_statement v) → k + length (spelled_statement v) ≤ length ts
statement-within v b = begins-within (spelled_statement v) b (omega (arith, statement-length v))

-- the parts of what stands in a micro-op's brackets
pub access-first : {ts : List Token} {k : ℕ} (types : List (List ℕ)) (action : Action)
    → BeginsAt ts k (spelled_access types action ++ close_ ∷ []) → IsNameAt ts k
access-first types action b =
    let s = stands-first (a_word (action_word action)) ((map a_word types ++ spelled_action action) ++ close_ ∷ []) b in
    record { token = s.token; at = s.at; named = s.is.0 }

pub access-terminal : {ts : List Token} {k : ℕ} (types : List (List ℕ)) (action : Action)
    → BeginsAt ts k (spelled_access types action ++ close_ ∷ []) → (t : Token) → slice_get ts k ≡ Some t → terminal_of t ≡ terminal_of_action action
unfolding word_terminal
access-terminal types (read m) b t at = terminal-stands t at (stands-first _ _ b)
access-terminal types (write m) b t at = terminal-stands t at (stands-first _ _ b)
access-terminal types fence b t at = terminal-stands t at (stands-first _ _ b)

access-behind : {ts : List Token} {k : ℕ} (types : List (List ℕ)) (action : Action)
    → BeginsAt ts k (spelled_access types action ++ close_ ∷ [])
    → BeginsAt ts (k + 1) (map a_word types ++ (spelled_action action ++ close_ ∷ []))
access-behind {ts} {k} types action b =
    subst (BeginsAt ts (k + 1)) (append_assoc (map a_word types) (spelled_action action) (close_ ∷ []))
    (begins-behind (a_word (action_word action) ∷ []) ((map a_word types ++ spelled_action action) ++ close_ ∷ []) b)

-- after the names stands a bracket
pub access-names : {ts : List Token} {k : ℕ} (types : List (List ℕ)) (action : Action)
    → BeginsAt ts k (spelled_access types action ++ close_ ∷ []) → NamesAt ts (k + 1) types
access-names types (read t) b = record { behind = codes "("; they = up_to_symbol (map a_word types) (codes "(") _ (access-behind types (read t) b) }
access-names types (write t) b = record { behind = codes "("; they = up_to_symbol (map a_word types) (codes "(") _ (access-behind types (write t) b) }
access-names types fence b = record { behind = codes ")"; they = up_to_symbol (map a_word types) (codes ")") _ (access-behind types fence b) }

pub access-action : {ts : List Token} {k : ℕ} (types : List (List ℕ)) (action : Action)
    → BeginsAt ts k (spelled_access types action ++ close_ ∷ []) → BeginsAt ts (k + 1 + length types) (spelled_action action)
access-action {ts} {k} types action b =
    begins-front (spelled_action action) (close_ ∷ [])
    (subst (λ (n : ℕ). BeginsAt ts (k + 1 + n) (spelled_action action ++ close_ ∷ [])) (length-map types a_word)
    (begins-behind (map a_word types) (spelled_action action ++ close_ ∷ []) (access-behind types action b)))

pub access-length : (types : List (List ℕ)) (action : Action) → length (spelled_access types action) ≡ 1 + length types + length (spelled_action action)
access-length types action =
    let n = length-append (map a_word types) (spelled_action action) in let l = length-map types a_word in omega arith

-- the parts of a micro-op's line
pub microop-head : {ts : List Token} {k : ℕ} (m : MicroopLine) → BeginsAt ts k (spelled_item (microop m)) → BeginsAt ts k (spelled_head m.head)
microop-head m b = begins-front (spelled_head m.head) (open_ ∷ (spelled_access m.types m.action ++ (close_ ∷ dot ∷ []))) b

pub microop-access : {ts : List Token} {k : ℕ} (m : MicroopLine) → BeginsAt ts k (spelled_item (microop m))
    → BeginsAt ts (k + 6) (spelled_access m.types m.action ++ close_ ∷ [])
microop-access m b =
    up_to_symbol (spelled_access m.types m.action) (codes ")") (dot ∷ [])
    (begins-behind (spelled_head m.head ++ open_ ∷ []) (spelled_access m.types m.action ++ (close_ ∷ dot ∷ [])) b)

pub microop-length : (m : MicroopLine) → length (spelled_item (microop m)) ≡ 6 + length (spelled_access m.types m.action) + 2
microop-length m = let n = length-append (spelled_access m.types m.action) (close_ ∷ dot ∷ []) in omega arith

pub item-within : {ts : List Token} {k : ℕ} (i : Item) → BeginsAt ts k (spelled_item i) → k + length (spelled_item i) ≤ length ts
item-within (microop m) b = begins-within (spelled_item (microop m)) b (omega arith)
item-within (relationship r) b = begins-within (spelled_item (relationship r)) b (omega arith)
item-within (initial v) b = begins-within (spelled_item (initial v)) b (omega arith)
item-within (final v) b = begins-within (spelled_item (final v)) b (omega arith)
item-within (permitted at) b = begins-within (spelled_item (permitted at)) b (omega arith)
item-within (forbidden at) b = begins-within (spelled_item (forbidden at)) b (omega arith)

-- the first word of a line
abbrev pub item_word : Item → Terminal
item_word (microop m) = Microop
item_word (relationship r) = Relationship
item_word (initial v) = Init
item_word (final v) = Final
item_word (permitted at) = Permitted
item_word (forbidden at) = Forbidden

pub item-terminal : {ts : List Token} {k : ℕ} (i : Item) → BeginsAt ts k (spelled_item i) → (t : Token) → slice_get ts k ≡ Some t
    → terminal_of t ≡ item_word i
unfolding word_terminal
item-terminal (microop m) b t at = terminal-stands t at (stands-first _ _ b)
item-terminal (relationship r) b t at = terminal-stands t at (stands-first _ _ b)
item-terminal (initial v) b t at = terminal-stands t at (stands-first _ _ b)
item-terminal (final v) b t at = terminal-stands t at (stands-first _ _ b)
item-terminal (permitted p) b t at = terminal-stands t at (stands-first _ _ b)
item-terminal (forbidden p) b t at = terminal-stands t at (stands-first _ _ b)

pub microop-begins : {ts : List Token} {k : ℕ} (i : Item) → BeginsAt ts k (spelled_item i) → item_word i ≡ Microop → SomeAt spelled_microop ts k
microop-begins (microop m) b w = (m, b)
microop-begins i b w = absurd (cc)

pub relationship-begins : {ts : List Token} {k : ℕ} (i : Item) → BeginsAt ts k (spelled_item i) → item_word i ≡ Relationship
    → SomeAt spelled_relationship ts k
relationship-begins (relationship r) b w = (r, b)
relationship-begins i b w = absurd (cc)

pub initial-begins : {ts : List Token} {k : ℕ} (i : Item) → BeginsAt ts k (spelled_item i) → item_word i ≡ Init
    → (v : ValueLine) × BeginsAt ts (k + 1) (spelled_statement v)
initial-begins (initial v) b w = (v, begins-behind (word_at (codes "Init") v.at ∷ []) (spelled_statement v) b)
initial-begins i b w = absurd (cc)

pub final-begins : {ts : List Token} {k : ℕ} (i : Item) → BeginsAt ts k (spelled_item i) → item_word i ≡ Final
    → (v : ValueLine) × BeginsAt ts (k + 1) (spelled_statement v)
final-begins (final v) b w = (v, begins-behind (word_at (codes "Final") v.at ∷ []) (spelled_statement v) b)
final-begins i b w = absurd (cc)

-- a line has one of six words
pub one_of_six : (i : Item) → (item_word i ≢ Microop) → (item_word i ≢ Relationship) → (item_word i ≢ Init) → (item_word i ≢ Final)
    → (item_word i ≢ Permitted) → (item_word i ≢ Forbidden) → ⊥
one_of_six (microop _) m r i f p g = m refl
one_of_six (relationship _) m r i f p g = r refl
one_of_six (initial _) m r i f p g = i refl
one_of_six (final _) m r i f p g = f refl
one_of_six (permitted _) m r i f p g = p refl
one_of_six (forbidden _) m r i f p g = g refl

pub relationship-within : {ts : List Token} {k : ℕ} (i : Item) → BeginsAt ts k (spelled_item i) → item_word i ≡ Relationship → k + 8 ≤ length ts
relationship-within (relationship r) b w = item-within (relationship r) b
relationship-within i b w = absurd (cc)

-- the line that was read is the one that stands there, by its word
abbrev pub IsLine : ℕ → Item → Item × ℕ → Type 0
IsLine k i line = (line.0 ≡ i) × (line.1 ≡ k + length (spelled_item i))

pub microop-is : {ts : List Token} {k : ℕ} (i : Item) → BeginsAt ts k (spelled_item i) → item_word i ≡ Microop
    → (m : MicroopLine) (next : ℕ) → IsReadAt spelled_microop ts k m next → IsLine k i (microop m, next)
microop-is (microop n) b w m next h = let (same, at) = h n b in (ap microop same, at)
microop-is i b w m next h = absurd (cc)

pub relationship-is : {ts : List Token} {k : ℕ} (i : Item) → BeginsAt ts k (spelled_item i) → item_word i ≡ Relationship
    → (r : RelationshipLine) → ((s : RelationshipLine) → BeginsAt ts k (spelled_relationship s) → r ≡ s) → IsLine k i (relationship r, k + 8)
relationship-is (relationship s) b w r h = (ap relationship (h s b), refl)
relationship-is i b w r h = absurd (cc)

pub initial-is : {ts : List Token} {k : ℕ} (i : Item) → BeginsAt ts k (spelled_item i) → item_word i ≡ Init
    → (t : Token) → slice_get ts k ≡ Some t → (p : Place) → p.offset ≡ t.at
    → (v : ValueLine) (next : ℕ) → IsValueLineAt ts p (k + 1) v next → IsLine k i (initial v, next)
initial-is (initial u) b w t at p is v next h =
    let word = word_at (codes "Init") u.at in
    let (same, behind) = h u (place-stands p u.at t at is (stands-first word (spelled_statement u) b)) (begins-behind (word ∷ []) (spelled_statement u) b) in
    (ap initial same, omega arith)
initial-is i b w t at p is v next h = absurd (cc)

pub final-is : {ts : List Token} {k : ℕ} (i : Item) → BeginsAt ts k (spelled_item i) → item_word i ≡ Final
    → (t : Token) → slice_get ts k ≡ Some t → (p : Place) → p.offset ≡ t.at
    → (v : ValueLine) (next : ℕ) → IsValueLineAt ts p (k + 1) v next → IsLine k i (final v, next)
final-is (final u) b w t at p is v next h =
    let word = word_at (codes "Final") u.at in
    let (same, behind) = h u (place-stands p u.at t at is (stands-first word (spelled_statement u) b)) (begins-behind (word ∷ []) (spelled_statement u) b) in
    (ap final same, omega arith)
final-is i b w t at p is v next h = absurd (cc)

pub permitted-is : {ts : List Token} {k : ℕ} (i : Item) → BeginsAt ts k (spelled_item i) → item_word i ≡ Permitted
    → (t : Token) → slice_get ts k ≡ Some t → (p : Place) → p.offset ≡ t.at → IsLine k i (permitted p, k + 2)
permitted-is (permitted q) b w t at p is =
    (ap permitted (place-stands p q t at is (stands-first (word_at (codes "Permitted") q) (dot ∷ []) b)), refl)
permitted-is i b w t at p is = absurd (cc)

pub forbidden-is : {ts : List Token} {k : ℕ} (i : Item) → BeginsAt ts k (spelled_item i) → item_word i ≡ Forbidden
    → (t : Token) → slice_get ts k ≡ Some t → (p : Place) → p.offset ≡ t.at → IsLine k i (forbidden p, k + 2)
forbidden-is (forbidden q) b w t at p is =
    (ap forbidden (place-stands p q t at is (stands-first (word_at (codes "Forbidden") q) (dot ∷ []) b)), refl)
forbidden-is i b w t at p is = absurd (cc)
