-- The texts of rows by their pieces.
use Rattle.std.proofs.{Common.{◌≡◌, ℕ, suc, ◌<◌, List, [], ◌∷◌, ◌++◌, Some, Ok, length, get_or, refl, sym, ◌∙◌, ap, arith}, lemmas.List.{length-map}}
use Rattle.std.{proofs.lemmas.{List.FromFn.{get_or-range_with_len, length-range_with_len}, Option.{get_or_from_slice_get}}, specs.Prelude.{codes}}
use Rattle.std.specs.{List.{range_with_len, slice_get}, Fmt.{decimal}}
use Rattle.pc_common.{specs.{Case.{Value}, Outside.{SinkView}, Writes.{success}, Room.{Puts}, declared.room.Room.{Room}}, proofs.Rooms.{puts_text}}
use Rattle.pattern_reader.specs.Rows.{Pattern, values_of, choices_of, row_values, values_in_row}

pub text_at : {X : Type 0} (f : X → List ℕ) (xs : List X) (k : ℕ) (x : X) → slice_get xs k ≡ Some x → f x ≡ f (get_or xs k x)
text_at f xs k x e = ap f (sym (get_or_from_slice_get xs k x x e))

length_digits : (css : List (List Value)) (row : ℕ) → length (row_values css row) ≡ length css
length_digits [] row = refl
length_digits (vs ∷ css) row = ap suc (length_digits css row)

-- a row has a value for each open read
pub length_values : (p : Pattern) (row : ℕ) → length (values_in_row p row) ≡ length p.opens
length_values p row = length_digits (choices_of p.case p.opens) row ∙ length-map p.opens (values_of p.case)

-- the rows are numbered from 0
pub row_in : (n row : ℕ) → row < n → row < length (range_with_len 0 n)
row_in n row within = let all = length-range_with_len 0 n in omega (arith, all, within)

pub row_at : (f : ℕ → List ℕ) (n row : ℕ) → row < n → f row ≡ f (get_or (range_with_len 0 n) row 0)
row_at f n row within =
    let at = get_or-range_with_len 0 n row 0 within in
    let same : row ≡ get_or (range_with_len 0 n) row 0 = omega (arith, at) in ap f same

pub length_rows : (n : ℕ) → length (range_with_len 0 n) ≡ n
length_rows n = length-range_with_len 0 n

-- the last three lines by their pieces
pub counts_of : (x y : List ℕ) (a b : ℕ) → x ≡ decimal a → y ≡ decimal b
    → codes "observable " ++ (x ++ (codes "\nunobservable " ++ (y ++ codes "\nend\n")))
    ≡ codes "observable " ++ (decimal a ++ (codes "\nunobservable " ++ (decimal b ++ codes "\nend\n")))
counts_of x y a b p q = rw (p, q) refl

-- a text that was put is this one
pub puts_whole : {K T E : Type 0} {view : K → SinkView} {old new : Room K} {x : T} {text : List ℕ} (other : List ℕ) → text ≡ other
    → Puts view old new success text → Puts view old new {T = T} {E = E} (Ok x) other
puts_whole other same puts =
    let whole = puts_text other same puts in record {
      same_sink = whole.same_sink;
      writes = record {
        same_modelled = whole.writes.same_modelled;
        count = whole.writes.count;
        cause = tt;
        went = whole.writes.went;
      };
      grows = whole.grows;
    }
