-- A fault stands within the text.
use Rattle.std.proofs.Common.{◌≡◌, ℕ, zero, suc, map, ◌+◌, ◌≤◌, List, [], ◌∷◌, ◌++◌, Option, Some, None, codes, length, drop, slice_get, refl, sym, ap, subst, ◌∙◌, inl, inr, arith}
use Rattle.pc_common.specs.declared.{place.Place.{Place}, fault.FaultKind.{FaultKind}}
use Rattle.uspec_lexer.specs.{Token.{Token, place_or, token_place}, Spells.{Spells}, Expected.{Expected, a_word, Is, Spell}}
use Rattle.uspec_lexer.proofs.Order.{spells-get, token-within}
use Rattle.litmus_reader.specs.Expected.{word_at, number_at}
use Rattle.litmus_reader.specs.Syntax.{spelled_page, spelled_address, spelled_entry, spelled_value, spelled_stated, spelled_touch, action_word, spelled_action, spelled_access, spelled_head, spelled_statement, spelled_item, spelled_items, open_, close_, dot, IsTestOf}
use Rattle.litmus_reader.specs.{Content.{First, OverMark, MarkFault, ActionFault, IsFaultOf}, Answer.{IsCaseFault}, Laws.{IsWithin}, Reading.{BeginsAt}}
use Rattle.litmus_reader.specs.declared.item.{Numeral.{Numeral}, ValueText.{ValueText, TheVariants.{Number, Entry}}, Touch.{Touch}, Action.{Action}}
use Rattle.litmus_reader.specs.declared.item.{Action.TheVariants.{Read as reads, Write as writes, Fence as fences}, Microop.{Microop}, ValueLine.{ValueLine}}
use Rattle.litmus_reader.specs.declared.item.Item.{Item}
use Rattle.litmus_reader.specs.declared.item.Item.TheVariants.{Microop as microop, Relationship as relationship, Initial as initial, Final as final, Permitted as permitted, Forbidden as forbidden}
use Rattle.litmus_reader.{specs.declared.fault.CaseFault.{CaseFault, TheVariants.{Lexical, Syntax, Content, Memory}}, proofs.Places.{stands, spell-behind}}

-- one of these tokens stands at the place
record HasPlace (es : List Expected) (at : Place) : Type 0 where
  pub k : ℕ
  pub expected : Expected
  pub here : slice_get es k ≡ Some expected
  pub stands : (t : Token) → Is expected t → t.at ≡ at.offset

word_place : (es : List Expected) (k : ℕ) (w : List ℕ) (p at : Place) → slice_get es k ≡ Some (word_at w p) → at ≡ p → HasPlace es at
word_place es k w p at here e = record { k = k; expected = word_at w p; here = here; stands = λ t is. is.2 ∙ sym (ap (λ (q : Place). q.offset) e) }

number_place : (es : List Expected) (k : ℕ) (n : Numeral) (at : Place) → slice_get es k ≡ Some (number_at n) → at ≡ n.at → HasPlace es at
number_place es k n at here e = record { k = k; expected = number_at n; here = here; stands = λ t is. is.1 ∙ sym (ap (λ (q : Place). q.offset) e) }

get_front : (xs ys : List Expected) (i : ℕ) (x : Expected) → slice_get xs i ≡ Some x → slice_get (xs ++ ys) i ≡ Some x
get_front [] ys i x at = absurd (cc)
get_front (z ∷ xs) ys zero x at = at
get_front (z ∷ xs) ys (suc i) x at = get_front xs ys i x at

front_place : (es fs : List Expected) (at : Place) → HasPlace es at → HasPlace (es ++ fs) at
front_place es fs at h = record { k = h.k; expected = h.expected; here = get_front es fs h.k h.expected h.here; stands = h.stands }

behind_place : (es fs : List Expected) (at : Place) → HasPlace fs at → HasPlace (es ++ fs) at
behind_place [] fs at h = h
behind_place (e ∷ es) fs at h =
    let r = behind_place es fs at h in record { k = suc r.k; expected = r.expected; here = r.here; stands = r.stands }

-- a mark that is a fault stands at one of the tokens of its entry
entry_place : (tag : ℕ) (accessed dirty : Numeral) (kind : FaultKind) (at : Place) → First (OverMark accessed) (OverMark dirty) kind at
    → HasPlace (spelled_entry tag accessed dirty) at
entry_place tag accessed dirty kind at (inl over) = number_place _ 3 accessed at refl over.2
entry_place tag accessed dirty kind at (inr (_, over)) = number_place _ 4 dirty at refl over.2

value_place : (v : ValueText) (kind : FaultKind) (at : Place) → MarkFault v kind at → HasPlace (spelled_value v) at
value_place (Number n) kind at f = absurd f
value_place (Entry tag accessed dirty) kind at f = entry_place tag accessed dirty kind at f

stated_place : (v : ValueText) (kind : FaultKind) (at : Place) → MarkFault v kind at → HasPlace (spelled_stated v) at
stated_place (Number n) kind at f = absurd f
stated_place (Entry tag accessed dirty) kind at f = entry_place tag accessed dirty kind at f

touch_place : (t : Touch) (kind : FaultKind) (at : Place) → MarkFault t.value kind at → HasPlace (spelled_touch t) at
touch_place t kind at f =
    behind_place (spelled_page (codes "VA") t.va) (spelled_address t.pa ++ spelled_value t.value) at
    (behind_place (spelled_address t.pa) (spelled_value t.value) at (value_place t.value kind at f))

action_place : (a : Action) (kind : FaultKind) (at : Place) → ActionFault a kind at → HasPlace (spelled_action a) at
action_place (reads t) kind at f = touch_place t kind at f
action_place (writes t) kind at f = touch_place t kind at f
action_place fences kind at f = absurd f

microop_place : (m : Microop) (kind : FaultKind) (at : Place) → ActionFault m.action kind at → HasPlace (spelled_item (microop m)) at
microop_place m kind at f =
    let access = spelled_access m.types m.action in
    behind_place (spelled_head m.head ++ open_ ∷ []) (access ++ (close_ ∷ dot ∷ [])) at
    (front_place access (close_ ∷ dot ∷ []) at
    (behind_place (a_word (action_word m.action) ∷ map a_word m.types) (spelled_action m.action) at (action_place m.action kind at f)))

statement_place : (word : Expected) (v : ValueLine) (kind : FaultKind) (at : Place) → MarkFault v.value kind at
    → HasPlace (word ∷ spelled_statement v) at
statement_place word v kind at f =
    behind_place (word ∷ []) (spelled_statement v) at
    (behind_place (spelled_address v.pa) (spelled_stated v.value ++ dot ∷ []) at
    (front_place (spelled_stated v.value) (dot ∷ []) at (stated_place v.value kind at f)))

-- the fault of an item stands at one of its tokens
item_place : (before : List Item) (i : Item) (kind : FaultKind) (at : Place) → IsFaultOf before i kind at → HasPlace (spelled_item i) at
item_place before (microop m) kind at (inl (inl over)) = number_place _ 2 m.head.core at refl over.2
item_place before (microop m) kind at (inl (inr (_, inl many))) = word_place _ 0 (codes "Microop") m.head.at at refl many.2
item_place before (microop m) kind at (inl (inr (_, inr (_, inl (e, c, (same, inl core)))))) = number_place _ 2 m.head.core at refl core.2
item_place before (microop m) kind at (inl (inr (_, inr (_, inl (e, c, (same, inr thread)))))) = number_place _ 3 m.head.thread at refl thread.3
item_place before (microop m) kind at (inl (inr (_, inr (_, inr (_, (e, c, twice)))))) = number_place _ 1 m.head.g at refl twice.3
item_place before (microop m) kind at (inr (_, mark)) = microop_place m kind at mark
item_place before (relationship r) kind at (inl source) = number_place _ 2 r.source.g at refl source.2
item_place before (relationship r) kind at (inr (_, target)) = number_place _ 5 r.target.g at refl target.2
item_place before (initial v) kind at (inl (e, c, same, is, here)) = word_place _ 0 (codes "Init") v.at at refl here
item_place before (initial v) kind at (inr (_, mark)) = statement_place (word_at (codes "Init") v.at) v kind at mark
item_place before (final v) kind at (inl (e, c, same, is, here)) = word_place _ 0 (codes "Final") v.at at refl here
item_place before (final v) kind at (inr (_, mark)) = statement_place (word_at (codes "Final") v.at) v kind at mark
item_place before (permitted p) kind at (e, c, is, here) = word_place _ 0 (codes "Permitted") p at refl here
item_place before (forbidden p) kind at (e, c, is, here) = word_place _ 0 (codes "Forbidden") p at refl here

-- each item begins somewhere among the tokens
item_begins : (ts : List Token) (k : ℕ) (before : List Item) (i : Item) (after : List Item) → Spell (spelled_items (before ++ i ∷ after)) (drop k ts)
    → (n : ℕ) × BeginsAt ts n (spelled_item i)
item_begins ts k [] i after s = (k, record { others = spelled_items after; spell = s })
item_begins ts k (b ∷ before) i after s =
    item_begins ts (k + length (spelled_item b)) before i after (spell-behind ts k (spelled_item b) (spelled_items (before ++ i ∷ after)) s)

test_item : (ts : List Token) (before : List Item) (i : Item) (after : List Item) → IsTestOf (before ++ i ∷ after) ts → (n : ℕ) × BeginsAt ts n (spelled_item i)
test_item [] before i after (f, _, s) = absurd s
test_item (t ∷ []) before i after (f, _, s) = absurd s.1
test_item (t ∷ x ∷ []) before i after (f, _, s) = absurd s.1.1
test_item (t ∷ x ∷ d ∷ ts) before i after (f, _, s) = item_begins (t ∷ x ∷ d ∷ ts) 3 before i after s.1.1.1

place_within : {bytes : List ℕ} {ts : List Token} (k : ℕ) (t : Token) → Spells bytes ts → slice_get ts k ≡ Some t → t.at ≤ length bytes
place_within k t spelled at = omega (arith, (token-within (spells-get k spelled at)).1)

syntax_within : {bytes : List ℕ} {ts : List Token} (k : ℕ) → Spells bytes ts → token_place bytes ts k ≤ length bytes
syntax_within {bytes} {ts} k spelled = by (slice_get ts k) refl
  where
    by : (o : Option Token) → slice_get ts k ≡ o → place_or (length bytes) o ≤ length bytes
    by None e = omega arith
    by (Some t) e = place_within k t spelled e

-- a fault stands within the text
pub fault_within : (bytes : List ℕ) (fault : CaseFault) → IsCaseFault bytes fault → IsWithin bytes fault
fault_within bytes (Lexical place) f = omega (arith, f.inside)
fault_within bytes (Syntax place) f = omega (arith, f.at, syntax_within f.k f.spelled)
fault_within bytes (Content kind place) (items, said, f) =
    let h = item_place f.before f.item kind place f.here in
    let (n, begins) = test_item said.tokens f.before f.item f.after (subst (λ (is : List Item). IsTestOf is said.tokens) f.are said.test) in
    let s = stands (spelled_item f.item) begins h.k h.expected h.here in
    omega (arith, h.stands s.token s.is, place_within (n + h.k) s.token said.spelled s.at)
fault_within bytes Memory f = tt
