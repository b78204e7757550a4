-- A reader's steps over the tokens of a listing.
use Rattle.std.proofs.Common.{◌≡◌, ℕ, ◌+◌, ◌<◌, ◌≤◌, Bool, true, false, List, ◌∷◌, length, drop, slice_get, Option, Some, None, codes, if◌then◌else◌, refl, sym, ap, ◌∙◌, arith}
use Rattle.std.proofs.lemmas.{List.{drop_more}, Option.{get_or_from_slice_get}}
use Rattle.pc_common.specs.Names.{same_name}
use Rattle.uspec_lexer.specs.Token.{Token, Kind, name, number, text, symbol}
use Rattle.x86_litmus.specs.{Listing.{Named, fence}, Items.{Item, instructed, row_ended, denied}, Said.{Said, add}}
use Rattle.x86_litmus.specs.Spots.{Spot, block, valued, head, row, moving, storing, stored, loading, asking, thread, register, behind, goes, tells, after_word, after_name, after_number, after_row_symbol, after_symbol, after_kind, after, with_item, items_from, column_of}
use Rattle.x86_litmus.specs.{Faults.{Found, found, fault_of, faulty, unless, judged, outcome_of}, Reading.{items_in, IsFaultIn}, Takes.{IsListingRefusal}}
use Rattle.x86_litmus.specs.declared.fault.X86Fault.{X86Fault, TheVariants.{Lexical, Syntax, Content, Memory}}

next_tokens : (ts : List Token) (k : ℕ) (t : Token) → slice_get ts k ≡ Some t → k < length ts → drop k ts ≡ t ∷ drop (k + 1) ts
next_tokens ts k t at lt =
    drop_more ts k t lt ∙ ap (λ (u : Token). u ∷ drop (k + 1) ts) (get_or_from_slice_get ts k t t at)

module _ (s : Spot) (said : Said) (ts : List Token) (k : ℕ) (t : Token) (at : slice_get ts k ≡ Some t) (lt : k < length ts) (next : Spot)
    (goes_to : next ≡ (after s t).next) where
  reads_on : judged said (items_from s (drop k ts)) ≡ judged said (with_item (after s t).item (items_from next (drop (k + 1) ts)))
  reads_on =
      ap (λ (us : List Token). judged said (items_from s us)) (next_tokens ts k t at lt)
      ∙ ap (λ (x : Spot). judged said (with_item (after s t).item (items_from x (drop (k + 1) ts)))) (sym goes_to)

  pub step_none : None ≡ (after s t).item → judged said (items_from s (drop k ts)) ≡ judged said (items_from next (drop (k + 1) ts))
  step_none none =
      reads_on ∙ ap (λ (o : Option Item). judged said (with_item o (items_from next (drop (k + 1) ts)))) (sym none)

  reads_item : (i : Item) → Some i ≡ (after s t).item
      → judged said (items_from s (drop k ts)) ≡ unless (fault_of said i) (judged (add said i) (items_from next (drop (k + 1) ts)))
  reads_item i is =
      reads_on ∙ ap (λ (o : Option Item). judged said (with_item o (items_from next (drop (k + 1) ts)))) (sym is)

  pub step_some : (i : Item) (more : Said) → Some i ≡ (after s t).item → fault_of said i ≡ None → more ≡ add said i
      → judged said (items_from s (drop k ts)) ≡ judged more (items_from next (drop (k + 1) ts))
  step_some i more is none added =
      reads_item i is ∙ ap (λ (o : Option Found). unless o (judged (add said i) (items_from next (drop (k + 1) ts)))) none
      ∙ ap (λ (x : Said). judged x (items_from next (drop (k + 1) ts))) (sym added)

  pub step_fault : (i : Item) (f : Found) → Some i ≡ (after s t).item → fault_of said i ≡ Some f → judged said (items_from s (drop k ts)) ≡ faulty f
  step_fault i f is here =
      reads_item i is ∙ ap (λ (o : Option Found). unless o (judged (add said i) (items_from next (drop (k + 1) ts)))) here

-- a column rises by one at most
column_word : (k : ℕ) (n : Named) → column_of (after_word k n).next ≤ k + 1
column_word k n = by (same_name n.word (codes "MOV")) (same_name n.word (codes "MFENCE"))
  where
    by : (a b : Bool)
        → column_of (if a then goes (moving k n.at) else if b then tells (row k) (instructed k n.at fence) else goes asking).next ≤ k + 1
    by true b = omega arith
    by false true = omega arith
    by false false = omega arith

column_name : (s : Spot) (n : Named) → column_of (after_name s n).next ≤ column_of s + 1
column_name block n = omega arith
column_name (valued m) n = omega arith
column_name head n = omega arith
column_name (row k) n = column_word k n
column_name (moving k at) n = omega arith
column_name (storing k at) n = omega arith
column_name (stored k at m) n = omega arith
column_name (loading k at r) n = omega arith
column_name asking n = omega arith
column_name (thread t at) n = omega arith
column_name (register t at r) n = omega arith
column_name (behind m) n = omega arith

column_number : (s : Spot) (v at : ℕ) → column_of (after_number s v at).next ≤ column_of s + 1
column_number block v at = omega arith
column_number (valued m) v at = omega arith
column_number head v at = omega arith
column_number (row k) v at = omega arith
column_number (moving k word) v at = omega arith
column_number (storing k word) v at = omega arith
column_number (stored k word m) v at = omega arith
column_number (loading k word r) v at = omega arith
column_number asking v at = omega arith
column_number (thread t word) v at = omega arith
column_number (register t word r) v at = omega arith
column_number (behind m) v at = omega arith

column_row : (k : ℕ) (w : List ℕ) (at : ℕ) → column_of (after_row_symbol k w at).next ≤ k + 1
column_row k w at = by (same_name w (codes "|")) (same_name w (codes ";")) (same_name w (codes "~"))
  where
    by : (a b c : Bool)
        → column_of (if a then goes (row (k + 1)) else if b then tells (row 0) (row_ended (k + 1) at)
        else if c then tells (row k) denied else goes (row k)).next ≤ k + 1
    by true b c = omega arith
    by false true c = omega arith
    by false false true = omega arith
    by false false false = omega arith

column_block : (b : Bool) (x y : Spot) → column_of x ≡ 0 → column_of y ≡ 0 → column_of (if b then goes x else goes y).next ≤ 0 + 1
column_block true x y e f = omega (arith, e)
column_block false x y e f = omega (arith, f)

column_symbol : (s : Spot) (w : List ℕ) (at : ℕ) → column_of (after_symbol s w at).next ≤ column_of s + 1
column_symbol block w at = column_block (same_name w (codes "}")) head block refl refl
column_symbol head w at = column_block (same_name w (codes ";")) (row 0) head refl refl
column_symbol (row k) w at = column_row k w at
column_symbol (valued m) w at = omega arith
column_symbol (moving k word) w at = omega arith
column_symbol (storing k word) w at = omega arith
column_symbol (stored k word m) w at = omega arith
column_symbol (loading k word r) w at = omega arith
column_symbol asking w at = omega arith
column_symbol (thread t word) w at = omega arith
column_symbol (register t word r) w at = omega arith
column_symbol (behind m) w at = omega arith

column_kind : (s : Spot) (k : Kind) (piece : List ℕ) (at : ℕ) → column_of (after_kind s k piece at).next ≤ column_of s + 1
column_kind s name piece at = column_name s (record { word = piece; at = at })
column_kind s (number v) piece at = column_number s v at
column_kind s text piece at = omega arith
column_kind s symbol piece at = column_symbol s piece at

pub column_after : (s : Spot) (t : Token) (next : Spot) (k : ℕ) → next ≡ (after s t).next → column_of s ≤ k → column_of next ≤ k + 1
column_after s t next k e low = omega (arith, ap column_of e, column_kind s t.kind t.piece t.at, low)

-- why the code takes no item more is the fault of what the tokens say
pub refused_in : (s : Spot) (said : Said) (ts : List Token) (k : ℕ) (t : Token) → slice_get ts k ≡ Some t → k < length ts → (i : Item)
    → Some i ≡ (after s t).item → outcome_of (items_in ts) ≡ judged said (items_from s (drop k ts)) → (fault : X86Fault)
    → IsListingRefusal (fault_of said i) fault → IsFaultIn ts fault
refused_in s said ts k t at lt i is reads (Content kind place) here =
    reads ∙ step_fault s said ts k t at lt (after s t).next refl i (found kind place.offset) is here
refused_in s said ts k t at lt i is reads Memory here = tt
refused_in s said ts k t at lt i is reads (Lexical place) here = absurd here
refused_in s said ts k t at lt i is reads (Syntax place) here = absurd here
