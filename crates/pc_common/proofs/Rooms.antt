-- Texts put into a room by several calls, and what of them the sink took.
use Rattle.std.proofs.Common.{◌≡◌, ◌<◌, ◌≤◌, ◌+◌, ◌-◌, ℕ, Bool, List, [], ◌++◌, Result, Ok, Err, length, take, drop, refl, sym, ◌∙◌, ap, subst, arith, append_assoc, length-append}
use Rattle.std.proofs.lemmas.List.{append_cancel_left, take_at, take-take, take_all, drop_all, length-take-le, length-drop, append-nil}
use Rattle.std.{proofs.Math.Seq.{take-add, take-length}, specs.Prelude.{IsOk, IsErr, IsTrue, OnErr, OnOk}}
use Rattle.pc_common.specs.{Faults.{Rose}, Pieces.{IsCutShort}, Outside.{SinkView}, Writes.{Went, Writes, success}, Waiting.{waiting_bytes}}
use Rattle.pc_common.specs.{Room.{waits, room_view, Puts, Flushes}, declared.{room.Room.{Room}, waiting.Waiting.{Waiting}}}
use Rattle.pc_common.proofs.Writes.{writes_then, writes_stop, on_more}

still : (b c : Bool) → c ≡ b → IsTrue b → IsTrue c
still b c same is = let P : Bool → Type 0 = λ x. IsTrue x in subst P (sym same) is

-- what a sink took only grew in each of two calls
grows_then : {K : Type 0} (view : K → SinkView) (a b c : K) → (view b).modelled ≡ (view a).modelled
    → (IsTrue (view a).modelled → (sent : List ℕ) × ((view b).taken ≡ (view a).taken ++ sent))
    → (IsTrue (view b).modelled → (sent : List ℕ) × ((view c).taken ≡ (view b).taken ++ sent))
    → IsTrue (view a).modelled → (sent : List ℕ) × ((view c).taken ≡ (view a).taken ++ sent)
grows_then view a b c same first next is =
    let f = first is in
    let n = next (still (view a).modelled (view b).modelled same is) in
    (f.0 ++ n.0, n.1 ∙ ap (λ xs. xs ++ n.0) f.1 ∙ append_assoc (view a).taken f.0 n.0)

-- all of a first text was put, and then the next call put
pub puts_then : {K : Type 0} {view : K → SinkView} {old mid new : Room K}
    {T E U F : Type 0} {r : Result T E} {s : Result U F} {first next : List ℕ}
    → IsOk r → Puts view old mid r first → Puts view mid new s next
    → Puts view old new s (first ++ next)
puts_then {view = view} {old} {mid} {new} ok one two = record {
  same_sink = two.same_sink ∙ one.same_sink;
  writes = writes_then ok one.writes two.writes;
  grows = grows_then view old.out.now mid.out.now new.out.now one.writes.same_modelled one.grows two.grows;
}

-- the call of a first text failed, and the next was not made
pub puts_stop : {K : Type 0} {view : K → SinkView} {old new : Room K}
    {T E U F : Type 0} {r : Result T E} {s : Result U F} {first : List ℕ} (next : List ℕ)
    → IsErr r → IsErr s → Puts view old new r first → Puts view old new s (first ++ next)
puts_stop next err fails one =
    record { same_sink = one.same_sink; writes = writes_stop next err fails one.writes; grows = one.grows }

-- a call that left all as it was
pub puts_nothing : {K : Type 0} (view : K → SinkView) (old new : Room K) → new ≡ old
    → Puts view old new success []
puts_nothing {K} view old new same =
    let P : Room K → Type 0 = λ room. Puts view old room success [] in
    subst P (sym same) (record {
      same_sink = refl;
      writes = record { same_modelled = refl; count = omega arith; cause = tt; went = λ is. sym (append-nil (room_view view old).taken) };
      grows = λ is. ([], sym (append-nil (view old.out.now).taken));
    })

-- bytes that were put after what waits
pub puts_behind : {K : Type 0} (view : K → SinkView) (old : Room K) (w : Waiting) (text : List ℕ)
    → waiting_bytes w ≡ waits old ++ text → Puts view old (record { out = old.out; waiting = w }) success text
puts_behind view old w text behind = record {
  same_sink = refl;
  writes = record {
    same_modelled = refl;
    count = omega arith;
    cause = tt;
    went = λ is. ap (λ xs. (view old.out.now).taken ++ xs) behind ∙ sym (append_assoc (view old.out.now).taken (waits old) text);
  };
  grows = λ is. ([], sym (append-nil (view old.out.now).taken));
}

-- the same text
pub puts_text : {K : Type 0} {view : K → SinkView} {old new : Room K}
    {T E : Type 0} {r : Result T E} {text : List ℕ} (other : List ℕ) → text ≡ other
    → Puts view old new r text → Puts view old new r other
puts_text {view = view} {old} {new} {r = r} other same puts =
    let P : List ℕ → Type 0 = λ t. Puts view old new r t in subst P same puts

-- the first bytes of a piece, and the next ones of what is left of it
pub next_bytes : (piece : List ℕ) (at n : ℕ)
    → take at piece ++ ([] ++ take n (take (length piece - at) (drop at piece))) ≡ take (at + n) piece
next_bytes piece at n =
    ap (λ xs. take at piece ++ take n xs) (take_all (length piece - at) (drop at piece) (omega (arith, length-drop at piece)))
    ∙ sym (take-add at n piece)

went_cut : {U F : Type 0} (s : Result U F) (before piece after : List ℕ) (at : ℕ) → at < length piece → IsErr s
    → after ≡ before ++ take at piece → Went s before piece after
went_cut (Ok x) before piece after at within fails is = cc
went_cut (Err e) before piece after at within fails is = record { shown = at; short = within; bytes = is }

on_err : {T E U F : Type 0} (r : Result T E) (s : Result U F) (P Q : Type 0) → IsErr r → (P → Q) → OnErr r P → OnErr s Q
on_err (Ok x) s P Q err f given = cc
on_err (Err e) (Ok y) P Q err f given = tt
on_err (Err e) (Err g) P Q err f given = f given

-- the room could not be handed on before the rest of the piece
pub puts_cut : {K : Type 0} {view : K → SinkView} {old mid new : Room K}
    {T E U F : Type 0} {r : Result T E} (s : Result U F) (piece : List ℕ) (at : ℕ) → at < length piece → IsErr r → IsErr s
    → Puts view old mid success (take at piece) → Flushes view mid new r → Puts view old new s piece
puts_cut {view = view} {old} {mid} {new} {r = r} s piece at within err fails puts flush =
    let both = puts_then refl puts flush.puts in record {
      same_sink = both.same_sink;
      writes = record {
        same_modelled = both.writes.same_modelled;
        count = both.writes.count;
        cause = on_err r s (Rose (view mid.out.now).faults (view new.out.now).faults) (Rose (view old.out.now).faults (view new.out.now).faults) err
            (λ rose below. let after = rose below in omega (arith, puts.writes.count)) flush.cause;
        went = λ is. went_cut s (room_view view old).taken piece (room_view view new).taken at within fails
            (both.writes.went is ∙ ap (λ xs. (room_view view old).taken ++ xs) (append-nil (take at piece)));
      };
      grows = both.grows;
    }

-- what a sink took of a text of which the first n bytes were put, where some bytes are missing or wait
sent_cut : (before sent wait text after : List ℕ) (n : ℕ) → after ≡ before ++ sent → after ++ wait ≡ before ++ take n text → n ≤ length text
    → n < length text + length wait → IsCutShort before text after
sent_cut before sent wait text after n is whole within fewer =
    let both : sent ++ wait ≡ take n text =
    append_cancel_left before (sent ++ wait) (take n text) (sym (append_assoc before sent wait) ∙ ap (λ xs. xs ++ wait) (sym is) ∙ whole) in
    let lengths : length sent + length wait ≡ n = sym (length-append sent wait) ∙ ap length both ∙ length-take-le n text within in
    record {
      shown = length sent;
      short = omega arith;
      bytes = is ∙ ap (λ xs. before ++ xs) (sym (take_at sent wait (length sent) refl) ∙ ap (take (length sent)) both
          ∙ take-take (length sent) n text (omega arith));
    }

cut_err : {U F : Type 0} (s : Result U F) (before text after : List ℕ) → IsErr s → IsCutShort before text after → Went s before text after
cut_err (Ok x) before text after fails cut = cc
cut_err (Err e) before text after fails cut = cut

stop_went : {T E U F : Type 0} (r : Result T E) (s : Result U F) (before wait sent text after : List ℕ) → IsErr r → IsErr s
    → after ≡ before ++ sent → Went r (before ++ []) text (after ++ wait) → Went s before text after
stop_went (Ok x) s before wait sent text after err fails is went = cc
stop_went (Err e) s before wait sent text after err fails is cut =
    let inside = cut.short in
    cut_err s before text after fails (sent_cut before sent wait text after cut.shown is
    (cut.bytes ∙ ap (λ xs. xs ++ take cut.shown text) (append-nil before)) (omega arith) (omega arith))

stopped : {K : Type 0} {view : K → SinkView} {old new : Room K}
    {T E U F : Type 0} {r : Result T E} (s : Result U F) {text : List ℕ} → waits old ≡ [] → IsErr r → IsErr s
    → Puts view old new r text → Writes view old.out.now new.out.now s text
stopped {view = view} {old} {new} {r = r} s {text} empty err fails puts = record {
  same_modelled = puts.writes.same_modelled;
  count = puts.writes.count;
  cause = on_err r s (Rose (view old.out.now).faults (view new.out.now).faults) (Rose (view old.out.now).faults (view new.out.now).faults) err
      (λ rose. rose) puts.writes.cause;
  went = λ is.
      let sent = puts.grows is in
      let P : List ℕ → Type 0 = λ xs. Went r ((view old.out.now).taken ++ xs) text (room_view view new).taken in
      stop_went r s (view old.out.now).taken (waits new) sent.0 text (view new.out.now).taken err fails sent.1 (subst P empty (puts.writes.went is));
}

flush_went : {U F : Type 0} (s : Result U F) (before sent wait text after : List ℕ) → after ≡ before ++ sent → after ++ wait ≡ before ++ text
    → OnOk s (wait ≡ []) → OnErr s (0 < length wait) → Went s before text after
flush_went (Ok x) before sent wait text after is whole empty left = sym (append-nil after) ∙ ap (λ xs. after ++ xs) (sym empty) ∙ whole
flush_went (Err e) before sent wait text after is whole empty left =
    sent_cut before sent wait text after (length text) is (whole ∙ ap (λ xs. before ++ xs) (sym (take-length text))) (omega arith) (omega arith)

none_waits : {K U F : Type 0} (s : Result U F) (room : Room K) → OnOk s (room.waiting.used ≡ 0) → OnOk s (waits room ≡ [])
none_waits (Ok x) room used = ap (λ n. drop room.waiting.from (take n room.waiting.bytes)) used ∙ drop_all room.waiting.from [] (omega arith)
none_waits (Err e) room used = tt

flushed : {K : Type 0} {view : K → SinkView} {old mid new : Room K}
    {T E U F : Type 0} {r : Result T E} {s : Result U F} {text : List ℕ} → waits old ≡ [] → IsOk r
    → Puts view old mid r text → Flushes view mid new s → Writes view old.out.now new.out.now s text
flushed {view = view} {old} {mid} {new} {s = s} {text} empty ok puts flush =
    let both = puts_then ok puts flush.puts in record {
      same_modelled = both.writes.same_modelled;
      count = both.writes.count;
      cause = on_more s (Rose (view mid.out.now).faults (view new.out.now).faults) (Rose (view old.out.now).faults (view new.out.now).faults)
          (λ rose below. let after = rose below in omega (arith, puts.writes.count)) flush.cause;
      went = λ is.
          let sent = both.grows is in
          flush_went s (view old.out.now).taken sent.0 (waits new) text (view new.out.now).taken sent.1
          (both.writes.went is ∙ ap (λ xs. ((view old.out.now).taken ++ xs) ++ (text ++ [])) empty
          ∙ ap (λ xs. xs ++ (text ++ [])) (append-nil (view old.out.now).taken) ∙ ap (λ xs. (view old.out.now).taken ++ xs) (append-nil text))
          (none_waits s new flush.empty) flush.left;
    }

at_ends : {K : Type 0} (view : K → SinkView) {a b first last : K} {U F : Type 0} {s : Result U F} {text : List ℕ}
    → a ≡ first → last ≡ b → Writes view a b s text → Writes view first last s text
at_ends {K} view {last = last} {s = s} {text} from to writes =
    let P : K → K → Type 0 = λ x y. Writes view x y s text in
    subst (λ x. P x last) from (subst (P _) (sym to) writes)

-- a text was put into an empty room in front of a sink until a call failed: so much of it the sink took
pub room_stop : {K : Type 0} {view : K → SinkView} {first last : K} {old new : Room K}
    {T E U F : Type 0} {r : Result T E} {s : Result U F} {text : List ℕ} → old.out.now ≡ first → last ≡ new.out.now → waits old ≡ []
    → IsErr r → IsErr s → Puts view old new r text → Writes view first last s text
room_stop {view = view} {s = s} from to empty err fails puts = at_ends view from to (stopped s empty err fails puts)

-- a text was put into an empty room in front of a sink, and the room flushed: so much of it the sink took
pub room_flushed : {K : Type 0} {view : K → SinkView} {first last : K} {old mid new : Room K}
    {T E U F : Type 0} {r : Result T E} {s : Result U F} {text : List ℕ} → old.out.now ≡ first → last ≡ new.out.now → waits old ≡ []
    → IsOk r → Puts view old mid r text → Flushes view mid new s → Writes view first last s text
room_flushed {view = view} from to empty ok puts flush = at_ends view from to (flushed empty ok puts flush)
