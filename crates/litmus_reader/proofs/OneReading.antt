-- Tokens are a test of one list of items at most.
use Rattle.std.proofs.Common.{◌≡◌, ℕ, ◌+◌, List, [], ◌∷◌, ◌++◌, Some, codes, length, map, drop, slice_get, refl, sym, ap, subst, ◌∙◌, arith}
use Rattle.std.proofs.lemmas.List.{length-append}
use Rattle.pc_common.specs.declared.place.Place.{Place}
use Rattle.pc_case.specs.declared.address.Address.{Address, TheVariants.{Page as PageAddress, Entry as EntryAddress}}
use Rattle.uspec_lexer.{specs.{Token.{Token, name, symbol}, Expected.{Expected, a_word, a_number, a_symbol, Spell}}, proofs.Spelling.{spell-length}}
use Rattle.litmus_reader.specs.Expected.{word_at, number_at}
use Rattle.litmus_reader.specs.Syntax.{spelled_address, spelled_entry, spelled_value, spelled_stated, spelled_touch, spelled_action, spelled_head, spelled_statement, spelled_item, spelled_items, IsTestOf}
use Rattle.litmus_reader.specs.{Reading.{StandsAt, IsNameAt, BeginsAt, NamesAt, terminal_of_action}, declared.item.{Numeral.{Numeral}, ValueText.{ValueText}}}
use Rattle.litmus_reader.specs.declared.item.{ValueText.TheVariants.{Number as number_text, Entry as entry_text}, Touch.{Touch}, ValueLine.{ValueLine}}
use Rattle.litmus_reader.specs.declared.item.{Head.{Head}, Action.{Action, TheVariants.{Read as read, Write as write, Fence as fence}}}
use Rattle.litmus_reader.specs.declared.item.{Microop.{Microop as MicroopLine}, Item.{Item}}
use Rattle.litmus_reader.specs.declared.item.Item.TheVariants.{Microop as microop, Relationship as relationship, Initial as initial, Final as final, Permitted as permitted, Forbidden as forbidden}
use Rattle.litmus_reader.proofs.Places.{stands, stands-first, spell-behind, begins-behind, names-none, names-more}
use Rattle.litmus_reader.proofs.Lines.{terminal_of_address, address-terminal, address-seen, terminal_of_value, value-terminal, value-seen, terminal_of_stated, stated-terminal, stated-seen, touch-pa, touch-value, statement-pa, statement-value, access-terminal, access-names, access-action, access-first, microop-head, microop-access, item_word, item-terminal}
use Rattle.litmus_reader.proofs.Walk.{item-some}

-- the token at a place is one
one_token : {ts : List Token} {k : ℕ} {e f : Expected} (s : StandsAt ts k e) (t : StandsAt ts k f) → s.token ≡ t.token
one_token s t = let a = s.at in let b = t.at in cc

one_number : {ts : List Token} {k : ℕ} (n m : ℕ) → StandsAt ts k (a_number n) → StandsAt ts k (a_number m) → n ≡ m
one_number n m s t = let e = one_token s t in let a = s.is in let b = t.is in let c = ap (λ (x : Token). x.kind) e in cc

one_numeral : {ts : List Token} {k : ℕ} (n m : Numeral) → StandsAt ts k (number_at n) → StandsAt ts k (number_at m) → n ≡ m
one_numeral n m s t =
    let e = one_token s t in
    let value : n.value ≡ m.value = let a = s.is.0 in let b = t.is.0 in let c = ap (λ (x : Token). x.kind) e in cc in
    let offset : n.at.offset ≡ m.at.offset = sym s.is.1 ∙ ap (λ (x : Token). x.at) e ∙ t.is.1 in
    λ i. record { value = value i; at = record { offset = offset i } }

one_word : {ts : List Token} {k : ℕ} (v w : List ℕ) → StandsAt ts k (a_word v) → StandsAt ts k (a_word w) → v ≡ w
one_word v w s t = sym s.is.1 ∙ ap (λ (x : Token). x.piece) (one_token s t) ∙ t.is.1

one_place : {ts : List Token} {k : ℕ} {v w : List ℕ} (p q : Place) → StandsAt ts k (word_at v p) → StandsAt ts k (word_at w q) → p ≡ q
one_place p q s t =
    let offset : p.offset ≡ q.offset = sym s.is.2 ∙ ap (λ (x : Token). x.at) (one_token s t) ∙ t.is.2 in
    λ i. record { offset = offset i }

one_names : {ts : List Token} (xs ys : List (List ℕ)) (k : ℕ) → NamesAt ts k xs → NamesAt ts k ys → xs ≡ ys
one_names [] ys k n m =
    let s = stands-first (a_symbol n.behind) [] n.they in
    sym (names-none ys m (λ named.
    let same : s.token ≡ named.token = let a = s.at in let b = named.at in cc in
    let a : s.token.kind ≡ symbol = s.is.0 in
    let b : s.token.kind ≡ name = ap (λ (x : Token). x.kind) same ∙ named.named in cc))
one_names (w ∷ xs) ys k n m =
    let s = stands-first (a_word w) (map a_word xs ++ a_symbol n.behind ∷ []) n.they in
    let named : IsNameAt _ _ = record { token = s.token; at = s.at; named = s.is.0 } in
    let (others, are, those) = names-more ys m named in
    let rest = one_names xs others (k + 1)
    (record { behind = n.behind; they = begins-behind (a_word w ∷ []) (map a_word xs ++ a_symbol n.behind ∷ []) n.they }) those in
    (λ i. sym s.is.1 i ∷ rest i) ∙ sym are

-- the word of an address that stands there
one_address_word : {ts : List Token} {k : ℕ} (a b : Address) → BeginsAt ts k (spelled_address a) → BeginsAt ts k (spelled_address b)
    → terminal_of_address a ≡ terminal_of_address b
one_address_word a b c d = address-seen b d (terminal_of_address a) (λ t at. sym (address-terminal a c t at))

one_address : {ts : List Token} {k : ℕ} (a b : Address) → BeginsAt ts k (spelled_address a) → BeginsAt ts k (spelled_address b) → a ≡ b
one_address (PageAddress t x) (PageAddress u y) b c =
    let es = spelled_address (PageAddress t x) in
    let fs = spelled_address (PageAddress u y) in
    let tag = one_number t u (stands es b 2 _ refl) (stands fs c 2 _ refl) in
    let index = one_number x y (stands es b 3 _ refl) (stands fs c 3 _ refl) in
    λ i. PageAddress (tag i) (index i)
one_address (EntryAddress t) (EntryAddress u) b c =
    ap EntryAddress (one_number t u (stands (spelled_address (EntryAddress t)) b 2 _ refl) (stands (spelled_address (EntryAddress u)) c 2 _ refl))
one_address (PageAddress t x) (EntryAddress u) b c = absurd (let w = one_address_word (PageAddress t x) (EntryAddress u) b c in cc)
one_address (EntryAddress t) (PageAddress u y) b c = absurd (let w = one_address_word (EntryAddress t) (PageAddress u y) b c in cc)

one_entry : {ts : List Token} {k : ℕ} (t u : ℕ) (a d x y : Numeral) → BeginsAt ts k (spelled_entry t a d) → BeginsAt ts k (spelled_entry u x y)
    → entry_text t a d ≡ entry_text u x y
one_entry t u a d x y b c =
    let es = spelled_entry t a d in
    let fs = spelled_entry u x y in
    let tag = one_number t u (stands es b 2 _ refl) (stands fs c 2 _ refl) in
    let accessed = one_numeral a x (stands es b 3 _ refl) (stands fs c 3 _ refl) in
    let dirty = one_numeral d y (stands es b 4 _ refl) (stands fs c 4 _ refl) in
    λ i. entry_text (tag i) (accessed i) (dirty i)

one_value_word : {ts : List Token} {k : ℕ} (v w : ValueText) → BeginsAt ts k (spelled_value v) → BeginsAt ts k (spelled_value w)
    → terminal_of_value v ≡ terminal_of_value w
one_value_word v w c d = value-seen w d (terminal_of_value v) (λ t at. sym (value-terminal v c t at))

one_value : {ts : List Token} {k : ℕ} (v w : ValueText) → BeginsAt ts k (spelled_value v) → BeginsAt ts k (spelled_value w) → v ≡ w
one_value (number_text m) (number_text n) b c =
    ap number_text (one_number m n (stands (spelled_value (number_text m)) b 2 _ refl) (stands (spelled_value (number_text n)) c 2 _ refl))
one_value (entry_text t a d) (entry_text u x y) b c = one_entry t u a d x y b c
one_value (number_text m) (entry_text u x y) b c = absurd (let w = one_value_word (number_text m) (entry_text u x y) b c in cc)
one_value (entry_text t a d) (number_text n) b c = absurd (let w = one_value_word (entry_text t a d) (number_text n) b c in cc)

one_stated_word : {ts : List Token} {k : ℕ} (v w : ValueText) → BeginsAt ts k (spelled_stated v) → BeginsAt ts k (spelled_stated w)
    → terminal_of_stated v ≡ terminal_of_stated w
one_stated_word v w c d = stated-seen w d (terminal_of_stated v) (λ t at. sym (stated-terminal v c t at))

one_stated : {ts : List Token} {k : ℕ} (v w : ValueText) → BeginsAt ts k (spelled_stated v) → BeginsAt ts k (spelled_stated w) → v ≡ w
one_stated (number_text m) (number_text n) b c = ap number_text (one_number m n (stands-first _ _ b) (stands-first _ _ c))
one_stated (entry_text t a d) (entry_text u x y) b c = one_entry t u a d x y b c
one_stated (number_text m) (entry_text u x y) b c = absurd (let w = one_stated_word (number_text m) (entry_text u x y) b c in cc)
one_stated (entry_text t a d) (number_text n) b c = absurd (let w = one_stated_word (entry_text t a d) (number_text n) b c in cc)

one_touch : {ts : List Token} {k : ℕ} (m n : Touch) → BeginsAt ts k (spelled_touch m) → BeginsAt ts k (spelled_touch n) → m ≡ n
one_touch {ts} {k} m n b c =
    let tag = one_number m.va.tag n.va.tag (stands (spelled_touch m) b 2 _ refl) (stands (spelled_touch n) c 2 _ refl) in
    let index = one_number m.va.index n.va.index (stands (spelled_touch m) b 3 _ refl) (stands (spelled_touch n) c 3 _ refl) in
    let pa = one_address m.pa n.pa (touch-pa m b) (touch-pa n c) in
    let value = one_value m.value n.value
    (subst (λ (a : Address). BeginsAt ts (k + 5 + length (spelled_address a)) (spelled_value m.value)) pa (touch-value m b)) (touch-value n c) in
    λ i. record { va = record { tag = tag i; index = index i }; pa = pa i; value = value i }

one_statement : {ts : List Token} {k : ℕ} (u v : ValueLine) → u.at ≡ v.at → BeginsAt ts k (spelled_statement u) → BeginsAt ts k (spelled_statement v) → u ≡ v
one_statement {ts} {k} u v at b c =
    let pa = one_address u.pa v.pa (statement-pa u b) (statement-pa v c) in
    let value = one_stated u.value v.value
    (subst (λ (a : Address). BeginsAt ts (k + length (spelled_address a)) (spelled_stated u.value)) pa (statement-value u b)) (statement-value v c) in
    λ i. record { at = at i; pa = pa i; value = value i }

one_head : {ts : List Token} {k : ℕ} (g h : Head) → BeginsAt ts k (spelled_head g) → BeginsAt ts k (spelled_head h) → g ≡ h
one_head g h b c =
    let a0 = one_place g.at h.at (stands (spelled_head g) b 0 _ refl) (stands (spelled_head h) c 0 _ refl) in
    let a1 = one_numeral g.g h.g (stands (spelled_head g) b 1 _ refl) (stands (spelled_head h) c 1 _ refl) in
    let a2 = one_numeral g.core h.core (stands (spelled_head g) b 2 _ refl) (stands (spelled_head h) c 2 _ refl) in
    let a3 = one_numeral g.thread h.thread (stands (spelled_head g) b 3 _ refl) (stands (spelled_head h) c 3 _ refl) in
    let a4 = one_number g.n h.n (stands (spelled_head g) b 4 _ refl) (stands (spelled_head h) c 4 _ refl) in
    λ i. record { at = a0 i; g = a1 i; core = a2 i; thread = a3 i; n = a4 i }

one_action : {ts : List Token} {k : ℕ} (a b : Action) → terminal_of_action a ≡ terminal_of_action b
    → BeginsAt ts k (spelled_action a) → BeginsAt ts k (spelled_action b) → a ≡ b
one_action (read m) (read n) w b c = ap read (one_touch m n b c)
one_action (write m) (write n) w b c = ap write (one_touch m n b c)
one_action fence fence w b c = refl
one_action (read m) (write n) w b c = absurd (cc)
one_action (read m) fence w b c = absurd (cc)
one_action (write m) (read n) w b c = absurd (cc)
one_action (write m) fence w b c = absurd (cc)
one_action fence (read n) w b c = absurd (cc)
one_action fence (write n) w b c = absurd (cc)

one_microop : {ts : List Token} {k : ℕ} (m n : MicroopLine) → BeginsAt ts k (spelled_item (microop m)) → BeginsAt ts k (spelled_item (microop n)) → m ≡ n
one_microop {ts} {k} m n b c =
    let head = one_head m.head n.head (microop-head m b) (microop-head n c) in
    let at_m = microop-access m b in
    let at_n = microop-access n c in
    let s = access-first m.types m.action at_m in
    let word : terminal_of_action m.action ≡ terminal_of_action n.action =
    sym (access-terminal m.types m.action at_m s.token s.at) ∙ access-terminal n.types n.action at_n s.token s.at in
    let types = one_names m.types n.types (k + 6 + 1) (access-names m.types m.action at_m) (access-names n.types n.action at_n) in
    let action = one_action m.action n.action word
    (subst (λ (ws : List (List ℕ)). BeginsAt ts (k + 6 + 1 + length ws) (spelled_action m.action)) types (access-action m.types m.action at_m))
    (access-action n.types n.action at_n) in
    λ i. record { head = head i; types = types i; action = action i }

one_item : {ts : List Token} {k : ℕ} (x y : Item) → item_word x ≡ item_word y → BeginsAt ts k (spelled_item x) → BeginsAt ts k (spelled_item y) → x ≡ y
one_item (microop m) (microop n) w b c = ap microop (one_microop m n b c)
one_item (relationship r) (relationship s) w b c =
    let es = spelled_item (relationship r) in
    let fs = spelled_item (relationship s) in
    let a1 = one_word r.kind s.kind (stands es b 1 _ refl) (stands fs c 1 _ refl) in
    let a2 = one_numeral r.source.g s.source.g (stands es b 2 _ refl) (stands fs c 2 _ refl) in
    let a3 = one_number r.source.n s.source.n (stands es b 3 _ refl) (stands fs c 3 _ refl) in
    let a5 = one_numeral r.target.g s.target.g (stands es b 5 _ refl) (stands fs c 5 _ refl) in
    let a6 = one_number r.target.n s.target.n (stands es b 6 _ refl) (stands fs c 6 _ refl) in
    λ i. relationship (record { kind = a1 i; source = record { g = a2 i; n = a3 i }; target = record { g = a5 i; n = a6 i } })
one_item (initial u) (initial v) w b c =
    ap initial (one_statement u v (one_place u.at v.at (stands-first _ _ b) (stands-first _ _ c))
    (begins-behind (word_at (codes "Init") u.at ∷ []) (spelled_statement u) b) (begins-behind (word_at (codes "Init") v.at ∷ []) (spelled_statement v) c))
one_item (final u) (final v) w b c =
    ap final (one_statement u v (one_place u.at v.at (stands-first _ _ b) (stands-first _ _ c))
    (begins-behind (word_at (codes "Final") u.at ∷ []) (spelled_statement u) b) (begins-behind (word_at (codes "Final") v.at ∷ []) (spelled_statement v) c))
one_item (permitted p) (permitted q) w b c = ap permitted (one_place p q (stands-first _ _ b) (stands-first _ _ c))
one_item (forbidden p) (forbidden q) w b c = ap forbidden (one_place p q (stands-first _ _ b) (stands-first _ _ c))
one_item x y w b c = absurd (cc)

first_token : {ts : List Token} {k : ℕ} (i : Item) → BeginsAt ts k (spelled_item i) → (t : Token) × (slice_get ts k ≡ Some t)
first_token (microop m) b = let s = stands-first _ _ b in (s.token, s.at)
first_token (relationship r) b = let s = stands-first _ _ b in (s.token, s.at)
first_token (initial v) b = let s = stands-first _ _ b in (s.token, s.at)
first_token (final v) b = let s = stands-first _ _ b in (s.token, s.at)
first_token (permitted p) b = let s = stands-first _ _ b in (s.token, s.at)
first_token (forbidden p) b = let s = stands-first _ _ b in (s.token, s.at)

one_line : {ts : List Token} {k : ℕ} (x y : Item) → BeginsAt ts k (spelled_item x) → BeginsAt ts k (spelled_item y) → x ≡ y
one_line x y b c =
    let (t, at) = first_token x b in
    one_item x y (sym (item-terminal x b t at) ∙ item-terminal y c t at) b c

begins : (ts : List Token) (k : ℕ) (i : Item) (is : List Item) → Spell (spelled_items (i ∷ is)) (drop k ts) → BeginsAt ts k (spelled_item i)
begins ts k i is s = record { others = spelled_items is; spell = s }

one_list : (ts : List Token) (k : ℕ) (xs ys : List Item) → Spell (spelled_items xs) (drop k ts) → Spell (spelled_items ys) (drop k ts) → xs ≡ ys
one_list ts k [] [] s t = refl
one_list ts k [] (y ∷ ys) s t = absurd (
    let a = spell-length [] (drop k ts) s in let b = spell-length (spelled_item y ++ spelled_items ys) (drop k ts) t in
    omega (arith, a, b, length-append (spelled_item y) (spelled_items ys), item-some y))
one_list ts k (x ∷ xs) [] s t = absurd (
    let a = spell-length [] (drop k ts) t in let b = spell-length (spelled_item x ++ spelled_items xs) (drop k ts) s in
    omega (arith, a, b, length-append (spelled_item x) (spelled_items xs), item-some x))
one_list ts k (x ∷ xs) (y ∷ ys) s t =
    let same = one_line x y (begins ts k x xs s) (begins ts k y ys t) in
    let a = spell-behind ts k (spelled_item x) (spelled_items xs) s in
    let b = spell-behind ts k (spelled_item y) (spelled_items ys) t in
    let rest = one_list ts (k + length (spelled_item x)) xs ys a
    (subst (λ (i : Item). Spell (spelled_items ys) (drop (k + length (spelled_item i)) ts)) (sym same) b) in
    λ i. same i ∷ rest i

-- tokens are a test of one list of items
pub one_test : (ts : List Token) (xs ys : List Item) → IsTestOf xs ts → IsTestOf ys ts → xs ≡ ys
one_test [] xs ys (f, _, s) t = absurd s
one_test (a ∷ []) xs ys (f, _, s) t = absurd s.1
one_test (a ∷ b ∷ []) xs ys (f, _, s) t = absurd s.1.1
one_test (a ∷ b ∷ c ∷ ts) xs ys (f, _, s) (g, _, t) = one_list ts 0 xs ys s.1.1.1 t.1.1.1
