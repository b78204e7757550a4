-- The table reads exactly the terminals of the tests.
use Rattle.std.proofs.Common.{◌≡◌, ℕ, Bool, true, false, List, [], ◌∷◌, ◌++◌, Some, None, IsTrue, MatchOption, map, codes, refl, sym, ap, subst, ◌∙◌, append_assoc, if◌then◌else◌}
use Rattle.std.proofs.lemmas.List.{append-nil, map-append}
use Rattle.pc_case.specs.declared.address.{Page.{Page}, Address.{Address, TheVariants.{Page as PageAddress, Entry as EntryAddress}}}
use Rattle.pc_common.specs.declared.place.Place.{Place}
use Rattle.ll_grammar.specs.{Rules.{Derives}, Texts.{IsText}, declared.grammar.Symbol.{Symbol}}
use Rattle.ll_grammar.specs.declared.grammar.Symbol.TheVariants.{Terminal as a_terminal, Nonterminal as a_nonterminal}
use Rattle.ll_grammar.proofs.DerivesLaws.{Each, meaning, derives-begin, derives-end, Each.{none, class, part}}
use Rattle.uspec_lexer.specs.{Token.{Token}, Vocabulary.{expected_terminal}, Expected.{Expected, a_word, a_number, Is, Spell}}
use Rattle.uspec_lexer.proofs.Spelling.{spell-append, map-head, map-part}
use Rattle.uspec_lexer.proofs.Words.{is_word, is_placed_word, is_symbol, is_number, is_text, is_named, word_is_name, terminals-of_tokens}
use Rattle.litmus_reader.specs.Expected.{word_at, number_at}
use Rattle.litmus_reader.specs.Syntax.{spelled_page, spelled_address, spelled_entry, spelled_value, spelled_stated, spelled_touch, spelled_access, spelled_head, spelled_statement, spelled_item, spelled_items, spelled_test, open_, close_, dot, arrow, format_word, IsAddressOf, IsValueOf, IsActionOf, IsItemOf, AreItemsOf, IsTest}
use Rattle.litmus_reader.specs.Terminals.{spelling, word_terminal, symbol_terminal, vocabulary, terminal_of, sort_of, is_name}
use Rattle.litmus_reader.specs.{Phrases.{production, is_nullable, deep, rules}, declared.item.{Numeral.{Numeral}, ValueText.{ValueText}}}
use Rattle.litmus_reader.specs.declared.item.{ValueText.TheVariants.{Number as number_text, Entry as entry_text}, Touch.{Touch}, Head.{Head}, End.{End}}
use Rattle.litmus_reader.specs.declared.item.{Action.{Action, TheVariants.{Read as read, Write as write, Fence as fence}}, ValueLine.{ValueLine}, Item.{Item}}
use Rattle.litmus_reader.specs.declared.item.Item.TheVariants.{Microop as microop, Relationship as relationship, Initial as initial, Final as final, Permitted as permitted, Forbidden as forbidden}
use Rattle.litmus_reader.specs.declared.{format.Format.{Format, TheVariants.{One, Two}}, terminal.Terminal.{Terminal}}
use Rattle.litmus_reader.specs.declared.terminal.Terminal.TheVariants.{Litmus, Litmus2, Microop, Relationship, Init, Final, Permitted, Forbidden, Read, Write, Fence, Va, Pa, Entry, Data, Maps, Name, Number, Text, Open, Close, Dot, Arrow}
use Rattle.litmus_reader.specs.declared.phrase.Phrase.{Phrase}
use Rattle.litmus_reader.specs.declared.phrase.Phrase.TheVariants.{Test, Items, Access, Types, AnyName, VirtualPage, Address as AddressPart, AddressInside, ReadValue, WriteValue, ValueInside, StatedValue}
use Rattle.litmus_reader.proofs.Words.{sorted}

-- From the table to the grammar: tokens of these terminals spell a text.

abbrev place_of : Token → Place
place_of t = record { offset = t.at }

-- what a phrase's tokens spell
abbrev Spelled : Phrase → List Token → Type 0
Spelled Test ts = IsTest ts
Spelled (Items f) ts = (is : List Item) × AreItemsOf f is × Spell (spelled_items is) ts
Spelled (Access f) ts = (types : List (List ℕ)) × (action : Action) × IsActionOf f action × Spell (spelled_access types action) ts
Spelled Types ts = (types : List (List ℕ)) × Spell (map a_word types) ts
Spelled AnyName ts = (w : List ℕ) × Spell (a_word w ∷ []) ts
Spelled VirtualPage ts = (p : Page) × Spell (spelled_page (codes "VA") p) ts
Spelled (AddressPart f) ts = (a : Address) × IsAddressOf f a × Spell (spelled_address a) ts
Spelled (AddressInside f) ts = (a : Address) × IsAddressOf f a × ((o : Token) → Is open_ o → Spell (spelled_address a) (o ∷ ts))
Spelled (ReadValue f) ts = (v : ValueText) × IsValueOf f v × Spell (spelled_value v) ts
Spelled (WriteValue f) ts = (v : ValueText) × IsValueOf f v × Spell (spelled_value v) ts
Spelled (ValueInside f) ts = (v : ValueText) × IsValueOf f v × ((o : Token) → Is open_ o → Spell (spelled_value v) (o ∷ ts))
Spelled (StatedValue f) ts = (v : ValueText) × IsValueOf f v × Spell (spelled_stated v) ts

abbrev Means : Phrase → List Terminal → List Bool → Type 0
Means n cs marks = (ts : List Token) → map terminal_of ts ≡ cs → Spelled n ts

means-end : (n : Phrase) → IsTrue (is_nullable n) → Means n [] []
means-end (Items f) h [] e = ([], tt, tt)
means-end Types h [] e = ([], tt)
means-end n h ts e = absurd (cc)

abbrev IsRule : Phrase → Terminal → List (Symbol Terminal Phrase) → Type 0
IsRule n c body = (cs : List Terminal) (marks : List Bool) → Each Means body cs marks → Means n (c ∷ cs) (false ∷ marks)

-- what a token of a terminal is
is_number_at : (t : Token) → terminal_of t ≡ Number → (n : Numeral) × Is (number_at n) t
is_number_at t e = let (n, k) = is_number sorted t e in (record { value = n; at = place_of t }, (k, refl))

is_any_name : (t : Token) → is_name (terminal_of t) ≡ true → Is (a_word t.piece) t
is_any_name t e = (is_named sorted t (terminal_of t) e refl, refl)

is_dot : (t : Token) → terminal_of t ≡ Dot → Is dot t
is_dot t e = is_symbol sorted t Dot refl (λ h. cc) e

is_open : (t : Token) → terminal_of t ≡ Open → Is open_ t
is_open t e = is_symbol sorted t Open refl (λ h. cc) e

is_close : (t : Token) → terminal_of t ≡ Close → Is close_ t
is_close t e = is_symbol sorted t Close refl (λ h. cc) e

-- "(" word t x ")"
page_of : (ts : List Token) (c : Terminal) → sort_of c ≡ 0 → (c ≡ Name → ⊥)
    → map terminal_of ts ≡ Open ∷ c ∷ Number ∷ Number ∷ Close ∷ [] → (p : Page) × Spell (spelled_page (spelling c) p) ts
page_of (o ∷ w ∷ t ∷ x ∷ z ∷ []) c s own e =
    let (tag, is_tag) = is_number sorted t cc in
    let (index, is_index) = is_number sorted x cc in
    (record { tag = tag; index = index }, (is_open o cc, (is_word sorted w c s own cc, (is_tag, (is_index, (is_close z cc, tt))))))
page_of ts c s own e = absurd (cc)

virtual_page : IsRule VirtualPage Open (a_terminal Va ∷ a_terminal Number ∷ a_terminal Number ∷ a_terminal Close ∷ [])
virtual_page _ _ (class (class (class (class none)))) ts e = page_of ts Va refl (λ h. cc) e

-- after the bracket of an address
page_inside : (f : Format) → IsRule (AddressInside f) Pa (a_terminal Number ∷ a_terminal Number ∷ a_terminal Close ∷ [])
page_inside f _ _ (class (class (class none))) (w ∷ t ∷ x ∷ z ∷ []) e =
    let (tag, is_tag) = is_number sorted t cc in
    let (index, is_index) = is_number sorted x cc in
    let is_pa = is_word sorted w Pa refl (λ h. cc) cc in
    let closes : Is close_ z = is_close z cc in
    (PageAddress tag index, tt, λ o opens. (opens, (is_pa, (is_tag, (is_index, (closes, tt))))))
page_inside f _ _ (class (class (class none))) ts e = absurd (cc)

entry_inside : IsRule (AddressInside Two) Entry (a_terminal Number ∷ a_terminal Close ∷ [])
entry_inside _ _ (class (class none)) (w ∷ t ∷ z ∷ []) e =
    let (tag, is_tag) = is_number sorted t cc in
    let is_entry = is_word sorted w Entry refl (λ h. cc) cc in
    let closes : Is close_ z = is_close z cc in
    (EntryAddress tag, tt, λ o opens. (opens, (is_entry, (is_tag, (closes, tt)))))
entry_inside _ _ (class (class none)) ts e = absurd (cc)

address : (f : Format) → IsRule (AddressPart f) Open (a_nonterminal (AddressInside f) ∷ [])
address f _ _ (part {cs = cs} inside none) (o ∷ ts) e =
    let (a, of, spells) = inside ts (let rest : map terminal_of ts ≡ cs ++ [] = cc in rest ∙ append-nil cs) in
    (a, of, spells o (is_open o cc))
address f _ _ (part inside none) [] e = absurd (cc)

-- after the bracket of a value
number_inside : (f : Format) → IsRule (ValueInside f) Data (a_terminal Number ∷ a_terminal Close ∷ [])
number_inside f _ _ (class (class none)) (w ∷ d ∷ z ∷ []) e =
    let (n, is_n) = is_number sorted d cc in
    let is_data = is_word sorted w Data refl (λ h. cc) cc in
    let closes : Is close_ z = is_close z cc in
    (number_text n, tt, λ o opens. (opens, (is_data, (is_n, (closes, tt)))))
number_inside f _ _ (class (class none)) ts e = absurd (cc)

-- Maps t a d ")"
entry_of : (ts : List Token) → map terminal_of ts ≡ Maps ∷ Number ∷ Number ∷ Number ∷ Close ∷ []
    → (tag : ℕ) × (accessed : Numeral) × (dirty : Numeral) × ((o : Token) → Is open_ o → Spell (spelled_entry tag accessed dirty) (o ∷ ts))
entry_of (w ∷ t ∷ a ∷ d ∷ z ∷ []) e =
    let (tag, is_tag) = is_number sorted t cc in
    let (accessed, is_accessed) = is_number_at a cc in
    let (dirty, is_dirty) = is_number_at d cc in
    let is_maps = is_word sorted w Maps refl (λ h. cc) cc in
    let closes : Is close_ z = is_close z cc in
    (tag, accessed, dirty, λ o opens. (opens, (is_maps, (is_tag, (is_accessed, (is_dirty, (closes, tt)))))))
entry_of ts e = absurd (cc)

maps_inside : IsRule (ValueInside Two) Maps (a_terminal Number ∷ a_terminal Number ∷ a_terminal Number ∷ a_terminal Close ∷ [])
maps_inside _ _ (class (class (class (class none)))) ts e =
    let (tag, accessed, dirty, spells) = entry_of ts e in (entry_text tag accessed dirty, tt, spells)

-- the value that a read reads, and the one that a write writes
some_value : (f : Format) (cs : List Terminal) (marks : List Bool) → Each Means (a_nonterminal (ValueInside f) ∷ []) cs marks
    → (ts : List Token) → map terminal_of ts ≡ Open ∷ cs → (v : ValueText) × IsValueOf f v × Spell (spelled_value v) ts
some_value f _ _ (part {cs = cs} inside none) (o ∷ ts) e =
    let (v, of, spells) = inside ts (let rest : map terminal_of ts ≡ cs ++ [] = cc in rest ∙ append-nil cs) in
    (v, of, spells o (is_open o cc))
some_value f _ _ (part inside none) [] e = absurd (cc)

-- what a line states
stated_number : (f : Format) → IsRule (StatedValue f) Number []
stated_number f _ _ none (d ∷ []) e = let (n, is_n) = is_number sorted d cc in (number_text n, tt, (is_n, tt))
stated_number f _ _ none ts e = absurd (cc)

stated_entry : IsRule (StatedValue Two) Open (a_terminal Maps ∷ a_terminal Number ∷ a_terminal Number ∷ a_terminal Number ∷ a_terminal Close ∷ [])
stated_entry _ _ (class (class (class (class (class none))))) (o ∷ ts) e =
    let (tag, accessed, dirty, spells) = entry_of ts cc in (entry_text tag accessed dirty, tt, spells o (is_open o cc))
stated_entry _ _ (class (class (class (class (class none))))) [] e = absurd (cc)

any_name : (c : Terminal) → is_name c ≡ true → IsRule AnyName c []
any_name c h _ _ none (t ∷ []) e =
    let same : c ≡ terminal_of t = cc in
    (t.piece, (is_any_name t (ap is_name (sym same) ∙ h), tt))
any_name c h _ _ none ts e = absurd (cc)

types : (c : Terminal) → is_name c ≡ true → IsRule Types c (a_nonterminal Types ∷ [])
types c h _ _ (part {cs = cs} names none) (t ∷ ts) e =
    let same : c ≡ terminal_of t = cc in
    let (ws, s) = names ts (let rest : map terminal_of ts ≡ cs ++ [] = cc in rest ∙ append-nil cs) in
    (t.piece ∷ ws, (is_any_name t (ap is_name (sym same) ∙ h), s))
types c h _ _ (part names none) [] e = absurd (cc)

-- names, and after them what is touched
touched : (f : Format) (value : Phrase)
    → ((ts : List Token) → Spelled value ts → (v : ValueText) × IsValueOf f v × Spell (spelled_value v) ts)
    → (cs : List Terminal) (marks : List Bool)
    → Each Means (a_nonterminal Types ∷ a_nonterminal VirtualPage ∷ a_nonterminal (AddressPart f) ∷ a_nonterminal value ∷ []) cs marks
    → (ts : List Token) → map terminal_of ts ≡ cs
    → (types : List (List ℕ)) × (t : Touch) × IsAddressOf f t.pa × IsValueOf f t.value × Spell (map a_word types ++ spelled_touch t) ts
touched f value read_value _ _ (part {cs = xs} {ds = ys} names
    (part {cs = cs} {ds = ds} virtual (part {cs = es} {ds = fs} physical (part {cs = gs} data_ none)))) ts e =
    let (us, vs, same, here, production) = map-part terminal_of ts xs ys e in
    let (vs1, vs2, same1, here1, behind1) = map-part terminal_of vs cs ds production in
    let (vs3, vs4, same2, here2, behind2) = map-part terminal_of vs2 es fs behind1 in
    let (ws, s) = names us here in
    let (va, s1) = virtual vs1 here1 in
    let (pa, of, s2) = physical vs3 here2 in
    let (d, has, s3) = read_value vs4 (data_ vs4 (behind2 ∙ append-nil gs)) in
    let all : us ++ (vs1 ++ (vs3 ++ vs4)) ≡ ts = cc in (
      ws,
      record { va = va; pa = pa; value = d },
      of,
      has,
      subst (Spell (map a_word ws ++ (spelled_page (codes "VA") va ++ (spelled_address pa ++ spelled_value d)))) all
          (spell-append (map a_word ws) (spelled_page (codes "VA") va ++ (spelled_address pa ++ spelled_value d)) us (vs1 ++ (vs3 ++ vs4)) s
          (spell-append (spelled_page (codes "VA") va) (spelled_address pa ++ spelled_value d) vs1 (vs3 ++ vs4) s1
          (spell-append (spelled_address pa) (spelled_value d) vs3 vs4 s2 s3))),
    )

access_read : (f : Format) → IsRule (Access f) Read
    (a_nonterminal Types ∷ a_nonterminal VirtualPage ∷ a_nonterminal (AddressPart f) ∷ a_nonterminal (ReadValue f) ∷ [])
access_read f cs marks each (t ∷ ts) e =
    let (ws, m, of, has, s) = touched f (ReadValue f) (λ us v. v) cs marks each ts cc in
    (ws, read m, (of, has), (is_word sorted t Read refl (λ h. cc) cc, s))
access_read f cs marks each [] e = absurd (cc)

access_write : (f : Format) → IsRule (Access f) Write
    (a_nonterminal Types ∷ a_nonterminal VirtualPage ∷ a_nonterminal (AddressPart f) ∷ a_nonterminal (WriteValue f) ∷ [])
access_write f cs marks each (t ∷ ts) e =
    let (ws, m, of, has, s) = touched f (WriteValue f) (λ us v. v) cs marks each ts cc in
    (ws, write m, (of, has), (is_word sorted t Write refl (λ h. cc) cc, s))
access_write f cs marks each [] e = absurd (cc)

access_fence : (f : Format) → IsRule (Access f) Fence (a_nonterminal Types ∷ [])
access_fence f _ _ (part {cs = cs} names none) (t ∷ ts) e =
    let (ws, s) = names ts (let rest : map terminal_of ts ≡ cs ++ [] = cc in rest ∙ append-nil cs) in (
      ws,
      fence,
      tt,
      (is_word sorted t Fence refl (λ h. cc) cc, subst (λ (es : List Expected). Spell es ts) (sym (append-nil (map a_word ws))) s),
    )
access_fence f _ _ (part names none) [] e = absurd (cc)

items_expectation : (f : Format) (c : Terminal) (item : Place → Item) → sort_of c ≡ 0 → (c ≡ Name → ⊥)
    → ((at : Place) → IsItemOf f (item at))
    → ((at : Place) → spelled_item (item at) ≡ word_at (spelling c) at ∷ dot ∷ []) → IsRule (Items f) c (a_terminal Dot ∷ a_nonterminal (Items f) ∷ [])
items_expectation f c item s own of spells _ _ (class (part {cs = cs} others none)) (t ∷ d ∷ ts) e =
    let (is, are, r) = others ts (let rest : map terminal_of ts ≡ cs ++ [] = cc in rest ∙ append-nil cs) in (
      item (place_of t) ∷ is,
      (of (place_of t), are),
      subst (λ (es : List Expected). Spell (es ++ spelled_items is) (t ∷ d ∷ ts)) (sym (spells (place_of t)))
          (is_placed_word sorted t c s own cc, (is_dot d cc, r)),
    )
items_expectation f c item s own of spells _ _ (class (part others none)) ts e = absurd (cc)

-- pa (d | entry) "."
items_value : (f : Format) (c : Terminal) (item : ValueLine → Item) → sort_of c ≡ 0 → (c ≡ Name → ⊥)
    → ((v : ValueLine) → IsAddressOf f v.pa → IsValueOf f v.value → IsItemOf f (item v))
    → ((v : ValueLine) → spelled_item (item v) ≡ word_at (spelling c) v.at ∷ spelled_statement v)
    → IsRule (Items f) c (a_nonterminal (AddressPart f) ∷ a_nonterminal (StatedValue f) ∷ a_terminal Dot ∷ a_nonterminal (Items f) ∷ [])
items_value f c item s own of spells _ _ (part {cs = xs} {ds = ys} page (part {cs = zs} {ds = ws} value (class (part {cs = cs} others none)))) (t ∷ ts) e =
    let (us, vs, same, here, production) = map-part terminal_of ts xs ys cc in
    let (ns, vs1, same1, here1, behind1) = map-part terminal_of vs zs ws production in
    let (d, vs2, same2, here2, behind2) = map-head terminal_of vs1 Dot (cs ++ []) behind1 in
    let (pa, of_pa, r) = page us here in
    let (v, of_value, is_v) = value ns here1 in
    let (is, are, q) = others vs2 (behind2 ∙ append-nil cs) in
    let line : ValueLine = record { at = place_of t; pa = pa; value = v } in
    let more : List Expected = spelled_items is in
    let all : us ++ (ns ++ (d ∷ vs2)) ≡ ts = cc in
    let ends : Spell (dot ∷ more) (d ∷ vs2) = (is_dot d here2, q) in
    let said : Spell (spelled_address pa ++ (spelled_stated v ++ (dot ∷ more))) ts =
    subst (Spell (spelled_address pa ++ (spelled_stated v ++ (dot ∷ more)))) all
    (spell-append (spelled_address pa) (spelled_stated v ++ (dot ∷ more)) us (ns ++ (d ∷ vs2)) r
    (spell-append (spelled_stated v) (dot ∷ more) ns (d ∷ vs2) is_v ends)) in
    let together : spelled_statement line ++ more ≡ spelled_address pa ++ (spelled_stated v ++ (dot ∷ more)) =
    append_assoc (spelled_address pa) (spelled_stated v ++ dot ∷ []) more
    ∙ ap (λ (es : List Expected). spelled_address pa ++ es) (append_assoc (spelled_stated v) (dot ∷ []) more) in (
      item line ∷ is,
      (of line of_pa of_value, are),
      subst (λ (es : List Expected). Spell (es ++ more) (t ∷ ts)) (sym (spells line))
          (is_placed_word sorted t c s own cc, subst (λ (es : List Expected). Spell es ts) (sym together) said),
    )
items_value f c item s own of spells _ _ (part page (part value (class (part others none)))) [] e = absurd (cc)

-- g n "->" g n ".", and whatever stands after it
ends_of : (ts : List Token) (cs : List Terminal) → map terminal_of ts ≡ Number ∷ Number ∷ Arrow ∷ Number ∷ Number ∷ Dot ∷ cs
    → (source : End) × (target : End) × (rest : List Token) × (map terminal_of rest ≡ cs)
    × ((es : List Expected) → Spell es rest
    → Spell (number_at source.g ∷ a_number source.n ∷ arrow ∷ number_at target.g ∷ a_number target.n ∷ dot ∷ es) ts)
ends_of (g1 ∷ n1 ∷ a ∷ g2 ∷ n2 ∷ d ∷ rest) cs e =
    let (sg, is_sg) = is_number_at g1 cc in
    let (sn, is_sn) = is_number sorted n1 cc in
    let (tg, is_tg) = is_number_at g2 cc in
    let (tn, is_tn) = is_number sorted n2 cc in
    let is_arrow : Is arrow a = is_symbol sorted a Arrow refl (λ h. cc) cc in
    let ends : Is dot d = is_dot d cc in
    (record { g = sg; n = sn }, record { g = tg; n = tn }, rest, cc, λ es s. (is_sg, (is_sn, (is_arrow, (is_tg, (is_tn, (ends, s)))))))
ends_of ts cs e = absurd (cc)

items_relationship : (f : Format) → IsRule (Items f) Relationship
    (a_nonterminal AnyName ∷ a_terminal Number ∷ a_terminal Number ∷ a_terminal Arrow ∷ a_terminal Number ∷ a_terminal Number
    ∷ a_terminal Dot ∷ a_nonterminal (Items f) ∷ [])
items_relationship f _ _ (part {cs = xs} {ds = ys} kind (class (class (class (class (class (class (part {cs = cs} others none)))))))) (t ∷ ts) e =
    let (us, vs, same, here, production) = map-part terminal_of ts xs ys cc in
    let (w, s) = kind us here in
    let (source, target, rest, left, spells) = ends_of vs (cs ++ []) production in
    let (is, are, q) = others rest (left ∙ append-nil cs) in
    let ends : List Expected = number_at source.g ∷ a_number source.n ∷ arrow ∷ number_at target.g ∷ a_number target.n ∷ dot ∷ spelled_items is in (
      relationship (record { kind = w; source = source; target = target }) ∷ is,
      (tt, are),
      (
        is_word sorted t Relationship refl (λ h. cc) cc,
        subst (Spell (a_word w ∷ ends)) (sym same) (spell-append (a_word w ∷ []) ends us vs s (spells (spelled_items is) q)),
      ),
    )
items_relationship f _ _ (part kind (class (class (class (class (class (class (part others none)))))))) [] e = absurd (cc)

-- Microop g core thread n "(", and whatever stands after it
head_of : (ts : List Token) (cs : List Terminal) → map terminal_of ts ≡ Microop ∷ Number ∷ Number ∷ Number ∷ Number ∷ Open ∷ cs
    → (head : Head) × (rest : List Token) × (map terminal_of rest ≡ cs)
    × ((es : List Expected) → Spell es rest → Spell (spelled_head head ++ (open_ ∷ es)) ts)
head_of (t ∷ g ∷ c ∷ h ∷ n ∷ o ∷ rest) cs e =
    let (ng, is_g) = is_number_at g cc in
    let (nc, is_c) = is_number_at c cc in
    let (nh, is_h) = is_number_at h cc in
    let (nn, is_n) = is_number sorted n cc in
    let begins : Is (word_at (codes "Microop") (place_of t)) t = is_placed_word sorted t Microop refl (λ h. cc) cc in
    let opens : Is open_ o = is_open o cc in (
      record { at = place_of t; g = ng; core = nc; thread = nh; n = nn },
      rest,
      cc,
      λ es s. (begins, (is_g, (is_c, (is_h, (is_n, (opens, s)))))),
    )
head_of ts cs e = absurd (cc)

-- ")" ".", and whatever stands after it
closed_of : (ts : List Token) (cs : List Terminal) → map terminal_of ts ≡ Close ∷ Dot ∷ cs
    → (rest : List Token) × (map terminal_of rest ≡ cs) × ((es : List Expected) → Spell es rest → Spell (close_ ∷ dot ∷ es) ts)
closed_of (z ∷ d ∷ rest) cs e =
    let closes : Is close_ z = is_close z cc in
    let ends : Is dot d = is_dot d cc in
    (rest, cc, λ es s. (closes, (ends, s)))
closed_of ts cs e = absurd (cc)

items_microop : (f : Format) → IsRule (Items f) Microop
    (a_terminal Number ∷ a_terminal Number ∷ a_terminal Number ∷ a_terminal Number ∷ a_terminal Open ∷ a_nonterminal (Access f)
    ∷ a_terminal Close ∷ a_terminal Dot ∷ a_nonterminal (Items f) ∷ [])
items_microop f _ _ (class (class (class (class (class (part {cs = xs} {ds = ys} access (class (class (part {cs = cs} others none))))))))) ts e =
    let (head, inner, left, begins) = head_of ts (xs ++ ys) e in
    let (us, vs, same, here, production) = map-part terminal_of inner xs ys left in
    let (types, action, of, s) = access us here in
    let (rest, after, closes) = closed_of vs (cs ++ []) production in
    let (is, are, q) = others rest (after ∙ append-nil cs) in
    let line : List Expected = spelled_access types action in
    let more : List Expected = spelled_items is in
    let spells : Spell (line ++ (close_ ∷ dot ∷ more)) inner =
    subst (Spell (line ++ (close_ ∷ dot ∷ more))) (sym same) (spell-append line (close_ ∷ dot ∷ more) us vs s (closes more q)) in (
      microop (record { head = head; types = types; action = action }) ∷ is,
      (of, are),
      begins ((line ++ (close_ ∷ dot ∷ [])) ++ more)
          (subst (λ (es : List Expected). Spell es inner) (sym (append_assoc line (close_ ∷ dot ∷ []) more)) spells),
    )

test_of_word : (f : Format) (c : Terminal) → sort_of c ≡ 0 → (c ≡ Name → ⊥) → format_word f ≡ spelling c
    → IsRule Test c (a_terminal Text ∷ a_terminal Dot ∷ a_nonterminal (Items f) ∷ [])
test_of_word f c s own word _ _ (class (class (part {cs = cs} others none))) (t ∷ x ∷ d ∷ ts) e =
    let (is, are, q) = others ts (let rest : map terminal_of ts ≡ cs ++ [] = cc in rest ∙ append-nil cs) in
    let begins : Is (a_word (format_word f)) t = subst (λ (w : List ℕ). Is (a_word w) t) (sym word) (is_word sorted t c s own cc) in
    (is, (f, are, (begins, (is_text sorted x Text refl cc, (is_dot d cc, q)))))
test_of_word f c s own word _ _ (class (class (part others none))) ts e = absurd (cc)

rule : (n : Phrase) (c : Terminal) → MatchOption (production n c) (Unit {0})
    (λ body. (cs : List Terminal) (marks : List Bool) → Each Means body cs marks → Means n (c ∷ cs) (rules.deep n c ∷ marks))
rule Test Litmus = test_of_word One Litmus refl (λ h. cc) refl
rule Test Litmus2 = test_of_word Two Litmus2 refl (λ h. cc) refl
rule Test _ = tt
rule (Items f) Microop = items_microop f
rule (Items f) Relationship = items_relationship f
rule (Items f) Init = items_value f Init initial refl (λ h. cc) (λ v of has. (of, has)) (λ v. refl)
rule (Items f) Final = items_value f Final final refl (λ h. cc) (λ v of has. (of, has)) (λ v. refl)
rule (Items f) Permitted = items_expectation f Permitted permitted refl (λ h. cc) (λ at. tt) (λ at. refl)
rule (Items f) Forbidden = items_expectation f Forbidden forbidden refl (λ h. cc) (λ at. tt) (λ at. refl)
rule (Items f) _ = tt
rule (Access f) Read = access_read f
rule (Access f) Write = access_write f
rule (Access f) Fence = access_fence f
rule (Access f) _ = tt
rule Types c = by (is_name c) refl
  where
    by : (b : Bool) → is_name c ≡ b → MatchOption (if b then Some (a_nonterminal Types ∷ []) else None) (Unit {0})
        (λ body. (cs : List Terminal) (marks : List Bool) → Each Means body cs marks → Means Types (c ∷ cs) (false ∷ marks))
    by true h = types c h
    by false h = tt
rule AnyName c = by (is_name c) refl
  where
    by : (b : Bool) → is_name c ≡ b → MatchOption (if b then Some [] else None) (Unit {0})
        (λ body. (cs : List Terminal) (marks : List Bool) → Each Means body cs marks → Means AnyName (c ∷ cs) (false ∷ marks))
    by true h = any_name c h
    by false h = tt
rule VirtualPage Open = virtual_page
rule VirtualPage _ = tt
rule (AddressPart f) Open = address f
rule (AddressPart f) _ = tt
rule (AddressInside f) Pa = page_inside f
rule (AddressInside Two) Entry = entry_inside
rule (AddressInside f) _ = tt
rule (ReadValue f) Open = λ cs marks each ts e. some_value f cs marks each ts e
rule (ReadValue f) _ = tt
rule (WriteValue f) Open = λ cs marks each ts e. some_value f cs marks each ts e
rule (WriteValue f) _ = tt
rule (ValueInside f) Data = number_inside f
rule (ValueInside Two) Maps = maps_inside
rule (ValueInside f) _ = tt
rule (StatedValue f) Number = stated_number f
rule (StatedValue Two) Open = stated_entry
rule (StatedValue f) _ = tt

-- tokens whose terminals the table reads are a test
pub test_of_derives : (ts : List Token) → IsText (Derives rules Test) (map terminal_of ts) → IsTest ts
test_of_derives ts (marks, reads) =
    meaning rules Means (record { empty = means-end; rule = rule }) Test (map terminal_of ts) marks reads ts refl

-- From the grammar to the table: the terminals of a test are read.

-- the terminal of what is expected
abbrev pub terminal : Expected → Terminal
terminal e = expected_terminal vocabulary e

abbrev Reads : Phrase → List Terminal → Type 0
Reads n cs = IsText (Derives rules n) cs

begin : (n : Phrase) (c : Terminal) (body : List (Symbol Terminal Phrase)) → production n c ≡ Some body
    → {cs : List Terminal} {marks : List Bool} → Each (Derives rules) body cs marks → (ds : List Terminal) → ds ≡ c ∷ cs → Reads n ds
begin n c body e {marks = marks} each ds same = (deep n c ∷ marks, derives-begin n c body e each same refl)

types_behind : (c : Terminal) → is_name c ≡ true → production Types c ≡ Some (a_nonterminal Types ∷ [])
types_behind c h = ap (λ (b : Bool). if b then Some (a_nonterminal Types ∷ []) else None) h

any_name_behind : (c : Terminal) → is_name c ≡ true → production AnyName c ≡ Some []
any_name_behind c h = ap (λ (b : Bool). if b then Some [] else None) h

read_types : (ws : List (List ℕ)) → Reads Types (map terminal (map a_word ws))
read_types [] = ([], derives-end Types refl)
read_types (w ∷ ws) =
    let (marks, d) = read_types ws in
    begin Types (word_terminal w) (a_nonterminal Types ∷ []) (types_behind (word_terminal w) (word_is_name sorted w)) (part d none)
    (word_terminal w ∷ map terminal (map a_word ws)) (ap (λ (cs : List Terminal). word_terminal w ∷ cs) (sym (append-nil (map terminal (map a_word ws)))))

read_any_name : (w : List ℕ) → Reads AnyName (word_terminal w ∷ [])
read_any_name w = begin AnyName (word_terminal w) [] (any_name_behind (word_terminal w) (word_is_name sorted w)) none (word_terminal w ∷ []) refl

read_virtual : (p : Page) → Reads VirtualPage (map terminal (spelled_page (codes "VA") p))
unfolding word_terminal symbol_terminal
read_virtual p =
    begin VirtualPage Open (a_terminal Va ∷ a_terminal Number ∷ a_terminal Number ∷ a_terminal Close ∷ []) refl (class (class (class (class none))))
    (map terminal (spelled_page (codes "VA") p)) refl

read_address : (f : Format) (a : Address) → IsAddressOf f a → Reads (AddressPart f) (map terminal (spelled_address a))
unfolding word_terminal symbol_terminal
read_address f (PageAddress tag index) of =
    let (_, d) = begin (AddressInside f) Pa (a_terminal Number ∷ a_terminal Number ∷ a_terminal Close ∷ []) refl (class (class (class none)))
    (Pa ∷ Number ∷ Number ∷ Close ∷ []) refl in
    begin (AddressPart f) Open (a_nonterminal (AddressInside f) ∷ []) refl (part d none) (map terminal (spelled_address (PageAddress tag index))) refl
read_address Two (EntryAddress tag) of =
    let (_, d) = begin (AddressInside Two) Entry (a_terminal Number ∷ a_terminal Close ∷ []) refl (class (class none)) (Entry ∷ Number ∷ Close ∷ []) refl in
    begin (AddressPart Two) Open (a_nonterminal (AddressInside Two) ∷ []) refl (part d none) (map terminal (spelled_address (EntryAddress tag))) refl
read_address One (EntryAddress tag) of = absurd of

read_inside : (f : Format) (n : Phrase) → production n Open ≡ Some (a_nonterminal (ValueInside f) ∷ []) → (v : ValueText) → IsValueOf f v
    → Reads n (map terminal (spelled_value v))
unfolding word_terminal symbol_terminal
read_inside f n e (number_text k) of =
    let (_, d) = begin (ValueInside f) Data (a_terminal Number ∷ a_terminal Close ∷ []) refl (class (class none)) (Data ∷ Number ∷ Close ∷ []) refl in
    begin n Open (a_nonterminal (ValueInside f) ∷ []) e (part d none) (map terminal (spelled_value (number_text k))) refl
read_inside Two n e (entry_text tag accessed dirty) of =
    let (_, d) = begin (ValueInside Two) Maps (a_terminal Number ∷ a_terminal Number ∷ a_terminal Number ∷ a_terminal Close ∷ [])
    refl (class (class (class (class none))))
    (Maps ∷ Number ∷ Number ∷ Number ∷ Close ∷ []) refl in
    begin n Open (a_nonterminal (ValueInside Two) ∷ []) e (part d none) (map terminal (spelled_value (entry_text tag accessed dirty))) refl
read_inside One n e (entry_text tag accessed dirty) of = absurd of

read_stated : (f : Format) (v : ValueText) → IsValueOf f v → Reads (StatedValue f) (map terminal (spelled_stated v))
unfolding word_terminal symbol_terminal
read_stated f (number_text k) of = begin (StatedValue f) Number [] refl none (Number ∷ []) refl
read_stated Two (entry_text tag accessed dirty) of =
    begin (StatedValue Two) Open (a_terminal Maps ∷ a_terminal Number ∷ a_terminal Number ∷ a_terminal Number ∷ a_terminal Close ∷ [])
    refl (class (class (class (class (class none)))))
    (map terminal (spelled_stated (entry_text tag accessed dirty))) refl
read_stated One (entry_text tag accessed dirty) of = absurd of

read_touch : (f : Format) (c : Terminal) (value : Phrase)
    → production (Access f) c ≡ Some (a_nonterminal Types ∷ a_nonterminal VirtualPage ∷ a_nonterminal (AddressPart f) ∷ a_nonterminal value ∷ [])
    → production value Open ≡ Some (a_nonterminal (ValueInside f) ∷ [])
    → (ws : List (List ℕ)) (t : Touch) → IsAddressOf f t.pa → IsValueOf f t.value → Reads (Access f) (c ∷ map terminal (map a_word ws ++ spelled_touch t))
read_touch f c value e opens ws t of has =
    let (_, d) = read_types ws in
    let (_, v) = read_virtual t.va in
    let (_, p) = read_address f t.pa of in
    let (_, x) = read_inside f value opens t.value has in
    begin (Access f) c (a_nonterminal Types ∷ a_nonterminal VirtualPage ∷ a_nonterminal (AddressPart f) ∷ a_nonterminal value ∷ [])
    e (part d (part v (part p (part x none))))
    (c ∷ map terminal (map a_word ws ++ spelled_touch t))
    (ap (λ (cs : List Terminal). c ∷ cs) (simp (map-append, append-nil)))

read_access : (f : Format) (ws : List (List ℕ)) (action : Action) → IsActionOf f action → Reads (Access f) (map terminal (spelled_access ws action))
unfolding word_terminal
read_access f ws (read t) (of, has) = read_touch f Read (ReadValue f) refl refl ws t of has
read_access f ws (write t) (of, has) = read_touch f Write (WriteValue f) refl refl ws t of has
read_access f ws fence of =
    let (_, d) = read_types ws in
    begin (Access f) Fence (a_nonterminal Types ∷ []) refl (part d none) (Fence ∷ map terminal (map a_word ws ++ []))
    (ap (λ (cs : List Terminal). Fence ∷ cs) (ap (map terminal) (append-nil (map a_word ws)) ∙ sym (append-nil (map terminal (map a_word ws)))))

read_item : (f : Format) (i : Item) (is : List Item) → IsItemOf f i → Reads (Items f) (map terminal (spelled_items is))
    → Reads (Items f) (map terminal (spelled_item i ++ spelled_items is))
unfolding word_terminal symbol_terminal
read_item f (microop m) is of (_, q) =
    let (_, a) = read_access f m.types m.action of in
    begin (Items f) Microop
    (a_terminal Number ∷ a_terminal Number ∷ a_terminal Number ∷ a_terminal Number ∷ a_terminal Open ∷ a_nonterminal (Access f)
    ∷ a_terminal Close ∷ a_terminal Dot ∷ a_nonterminal (Items f) ∷ []) refl
    (class (class (class (class (class (part a (class (class (part q none)))))))))
    (map terminal (spelled_item (microop m) ++ spelled_items is))
    (ap (λ (cs : List Terminal). Microop ∷ Number ∷ Number ∷ Number ∷ Number ∷ Open ∷ cs)
    (simp (append_assoc, map-append, append-nil)))
read_item f (relationship r) is of (_, q) =
    let (_, k) = read_any_name r.kind in
    begin (Items f) Relationship (a_nonterminal AnyName ∷ a_terminal Number ∷ a_terminal Number ∷ a_terminal Arrow
    ∷ a_terminal Number ∷ a_terminal Number ∷ a_terminal Dot ∷ a_nonterminal (Items f) ∷ []) refl
    (part k (class (class (class (class (class (class (part q none))))))))
    (map terminal (spelled_item (relationship r) ++ spelled_items is)) (simp append-nil)
read_item f (initial v) is (of, has) (_, q) =
    let (_, p) = read_address f v.pa of in
    let (_, x) = read_stated f v.value has in
    begin (Items f) Init (a_nonterminal (AddressPart f) ∷ a_nonterminal (StatedValue f) ∷ a_terminal Dot ∷ a_nonterminal (Items f) ∷ [])
    refl (part p (part x (class (part q none))))
    (map terminal (spelled_item (initial v) ++ spelled_items is))
    (ap (λ (cs : List Terminal). Init ∷ cs) (simp (append_assoc, map-append, append-nil)))
read_item f (final v) is (of, has) (_, q) =
    let (_, p) = read_address f v.pa of in
    let (_, x) = read_stated f v.value has in
    begin (Items f) Final (a_nonterminal (AddressPart f) ∷ a_nonterminal (StatedValue f) ∷ a_terminal Dot ∷ a_nonterminal (Items f) ∷ [])
    refl (part p (part x (class (part q none))))
    (map terminal (spelled_item (final v) ++ spelled_items is))
    (ap (λ (cs : List Terminal). Final ∷ cs) (simp (append_assoc, map-append, append-nil)))
read_item f (permitted at) is of (_, q) =
    begin (Items f) Permitted (a_terminal Dot ∷ a_nonterminal (Items f) ∷ []) refl (class (part q none))
    (map terminal (spelled_item (permitted at) ++ spelled_items is)) (simp append-nil)
read_item f (forbidden at) is of (_, q) =
    begin (Items f) Forbidden (a_terminal Dot ∷ a_nonterminal (Items f) ∷ []) refl (class (part q none))
    (map terminal (spelled_item (forbidden at) ++ spelled_items is)) (simp append-nil)

read_items : (f : Format) (is : List Item) → AreItemsOf f is → Reads (Items f) (map terminal (spelled_items is))
read_items f [] are = ([], derives-end (Items f) refl)
read_items f (i ∷ is) (of, are) = read_item f i is of (read_items f is are)

read_test : (f : Format) (is : List Item) → AreItemsOf f is → Reads Test (map terminal (spelled_test f is))
unfolding word_terminal symbol_terminal
read_test One is are =
    let (_, q) = read_items One is are in
    begin Test Litmus (a_terminal Text ∷ a_terminal Dot ∷ a_nonterminal (Items One) ∷ []) refl (class (class (part q none)))
    (map terminal (spelled_test One is)) (simp append-nil)
read_test Two is are =
    let (_, q) = read_items Two is are in
    begin Test Litmus2 (a_terminal Text ∷ a_terminal Dot ∷ a_nonterminal (Items Two) ∷ []) refl (class (class (part q none)))
    (map terminal (spelled_test Two is)) (simp append-nil)

-- the terminals of a test are read
pub derives_of_test : (ts : List Token) → IsTest ts → IsText (Derives rules Test) (map terminal_of ts)
derives_of_test ts (is, (f, are, s)) =
    subst (Reads Test) (sym (terminals-of_tokens vocabulary (spelled_test f is) ts s)) (read_test f is are)
