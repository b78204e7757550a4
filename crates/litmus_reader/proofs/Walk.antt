-- The walk over the lines of a test.
use Rattle.std.proofs.Common.{◌≡◌, ℕ, ◌+◌, ◌<◌, ◌≤◌, List, [], ◌∷◌, ◌++◌, length, drop, refl, sym, ap, subst, ◌∙◌, arith, append_assoc}
use Rattle.std.proofs.lemmas.List.{append-nil, length-append, length-drop, drop_all}
use Rattle.pc_common.specs.declared.{place.Place.{Place}, fault.FaultKind.{FaultKind}}
use Rattle.uspec_lexer.{specs.{Token.{Token}, Expected.{Expected, Spell}}, proofs.Spelling.{spell-length}}
use Rattle.litmus_reader.specs.{Syntax.{spelled_item, spelled_items, IsTestOf, IsTest}, Content.{Never, IsFaultOf, IsClean, IsContentFault}}
use Rattle.litmus_reader.specs.{Answer.{IsContentFaultIn}, Builder.{HasLines, IsLineFault}, Reading.{BeginsAt, SomeAt, IsReadAt}}
use Rattle.litmus_reader.specs.declared.{fault.CaseFault.{CaseFault, TheVariants.{Lexical, Syntax, Content, Memory}}, item.Item.{Item}}
use Rattle.litmus_reader.specs.declared.item.Item.TheVariants.{Microop as microop, Relationship as relationship, Initial as initial, Final as final, Permitted as permitted, Forbidden as forbidden}
use Rattle.litmus_reader.{specs.declared.builder.CaseBuilder.{CaseBuilder}, proofs.{Places.{spell-behind, begins-front}, Lines.{item-within}}}
use Rattle.litmus_reader.proofs.CleanFacts.{clean-none, clean-push}

-- the lines up to `at` are read and have no fault, and the builder holds them
pub record Reached (ts : List Token) (at : ℕ) (k : CaseBuilder) : Type 0 where
  pub within : at ≤ length ts
  pub before : List Item
  pub rest : List Item
  pub test : IsTestOf (before ++ rest) ts
  pub behind : Spell (spelled_items rest) (drop at ts)
  pub clean : IsClean before
  pub keeps : HasLines k before

pub reached-first : (ts : List Token) (k : CaseBuilder) → IsTest ts → HasLines k [] → Reached ts 3 k
reached-first [] k (items, (f, are, s)) keeps = absurd s
reached-first (t ∷ []) k (items, (f, are, s)) keeps = absurd s.1
reached-first (t ∷ x ∷ []) k (items, (f, are, s)) keeps = absurd s.1.1
reached-first (t ∷ x ∷ d ∷ ts) k (items, (f, are, s)) keeps = record {
  within = omega arith;
  before = [];
  rest = items;
  test = (f, are, s);
  behind = s.1.1.1;
  clean = clean-none;
  keeps = keeps;
}

pub item-some : (i : Item) → 0 < length (spelled_item i)
item-some (microop m) = omega arith
item-some (relationship r) = omega arith
item-some (initial v) = omega arith
item-some (final v) = omega arith
item-some (permitted at) = omega arith
item-some (forbidden at) = omega arith

-- the next line
record Next (ts : List Token) (at : ℕ) (rest : List Item) : Type 0 where
  pub item : Item
  pub after : List Item
  pub are : rest ≡ item ∷ after
  pub begins : BeginsAt ts at (spelled_item item)
  pub behind : Spell (spelled_items after) (drop (at + length (spelled_item item)) ts)

next : (ts : List Token) (at : ℕ) (rest : List Item) → at < length ts → Spell (spelled_items rest) (drop at ts) → Next ts at rest
next ts at [] below s = absurd (let n = spell-length [] (drop at ts) s in omega (arith, n, length-drop at ts))
next ts at (i ∷ rest) below s =
    let b : BeginsAt ts at (spelled_item i ++ spelled_items rest) =
    record { others = []; spell = subst (λ (es : List Expected). Spell es (drop at ts)) (sym (append-nil (spelled_item i ++ spelled_items rest))) s } in
    record {
      item = i;
      after = rest;
      are = refl;
      begins = begins-front (spelled_item i) (spelled_items rest) b;
      behind = spell-behind ts at (spelled_item i) (spelled_items rest) s;
    }

pub reached-item : {ts : List Token} {at : ℕ} {k : CaseBuilder} → Reached ts at k → at < length ts → SomeAt spelled_item ts at
reached-item {ts} {at} r below = let n = next ts at r.rest below r.behind in (n.item, n.begins)

-- the line that was read
pub record ReadLine (ts : List Token) (at : ℕ) (rest : List Item) (item : Item) (to : ℕ) : Type 0 where
  pub after : List Item
  pub are : rest ≡ item ∷ after
  pub behind : Spell (spelled_items after) (drop to ts)
  pub rises : at < to
  pub within : to ≤ length ts

pub read_line : {ts : List Token} {at : ℕ} {k : CaseBuilder} (r : Reached ts at k) → at < length ts → (item : Item) (to : ℕ)
    → IsReadAt spelled_item ts at item to
    → ReadLine ts at r.rest item to
read_line {ts} {at} r below item to is =
    let n = next ts at r.rest below r.behind in
    let (same, reaches) = is n.item n.begins in
    record {
      after = n.after;
      are = n.are ∙ ap (λ (i : Item). i ∷ n.after) (sym same);
      behind = subst (λ (j : ℕ). Spell (spelled_items n.after) (drop j ts)) (sym reaches) n.behind;
      rises = omega (arith, reaches, item-some n.item);
      within = omega (arith, reaches, item-within n.item n.begins);
    }

pub reached-next : {ts : List Token} {at : ℕ} {k : CaseBuilder} (r : Reached ts at k) (item : Item) (to : ℕ) (s : ReadLine ts at r.rest item to)
    → (new : CaseBuilder) → Never (IsFaultOf r.before item) → HasLines new (r.before ++ item ∷ []) → Reached ts to new
reached-next {ts} r item to s new never keeps = record {
  within = s.within;
  before = r.before ++ item ∷ [];
  rest = s.after;
  test = subst (λ (items : List Item). IsTestOf items ts)
      (ap (λ (is : List Item). r.before ++ is) s.are ∙ sym (append_assoc r.before (item ∷ []) s.after)) r.test;
  behind = s.behind;
  clean = clean-push r.before item r.clean never;
  keeps = keeps;
}

fault-of : {ts : List Token} {at : ℕ} {k : CaseBuilder} (r : Reached ts at k) (item : Item) (to : ℕ) (s : ReadLine ts at r.rest item to)
    → (kind : FaultKind) (place : Place) → IsFaultOf r.before item kind place
    → (items : List Item) × IsTestOf items ts × IsContentFault items kind place
fault-of r item to s kind place here = (
  r.before ++ r.rest,
  r.test,
  record {
    before = r.before;
    item = item;
    after = s.after;
    are = ap (λ (is : List Item). r.before ++ is) s.are;
    clean = r.clean;
    here = here;
  },
)

pub content_fault-of : {ts : List Token} {at : ℕ} {k : CaseBuilder} (r : Reached ts at k) (item : Item) (to : ℕ) (s : ReadLine ts at r.rest item to)
    → (fault : CaseFault) → IsLineFault r.before item fault → IsContentFaultIn ts fault
content_fault-of r item to s (Content kind place) here = fault-of r item to s kind place here
content_fault-of r item to s Memory here = tt
content_fault-of r item to s (Lexical place) here = absurd here
content_fault-of r item to s (Syntax place) here = absurd here

none_left : (rest : List Item) → Spell (spelled_items rest) [] → rest ≡ []
none_left [] s = refl
none_left (i ∷ rest) s = absurd (
    let n = spell-length (spelled_item i ++ spelled_items rest) [] s in
    omega (arith, n, length-append (spelled_item i) (spelled_items rest), item-some i))

pub reached-end : {ts : List Token} {at : ℕ} {k : CaseBuilder} (r : Reached ts at k) → length ts ≤ at → IsTestOf r.before ts
reached-end {ts} {at} r past =
    let none = none_left r.rest (subst (Spell (spelled_items r.rest)) (drop_all at ts past) r.behind) in
    subst (λ (items : List Item). IsTestOf items ts) (ap (λ (is : List Item). r.before ++ is) none ∙ append-nil r.before) r.test
