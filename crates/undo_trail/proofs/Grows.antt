-- A trail that grows as words change.
use Rattle.std.proofs.Common.{◌≡◌, ◌≢◌, ℕ, ◌+◌, ◌<◌, List, [], ◌∷◌, ◌++◌, length, take, drop, get_or, set, refl, sym, ◌∙◌, ap, subst, arith, slice_get, Some, ◌*◌}
use Rattle.std.proofs.lemmas.List.{set-set, set-get_or, get_or-set_same, length-set, take_at, length_push, Elements.{All-push, All-take}}
use Rattle.undo_trail.specs.{declared.trail.Change.{Change}, BitTable.{IsBitTable}, Trail.{back, past, table_of, IsChanging, IsTrail, Grows}}
use Rattle.undo_trail.proofs.{ExtendsLaws.{extends_then}, Back.{back_push, past_push, changing_push, length-back, back_split, changing_split, history}}

-- the change of a word
abbrev pub change : List ℕ → ℕ → Change
change t place = record { place = place; old = get_or t place 0 }

taken_back : (t : List ℕ) (place word : ℕ) → set (set t place word) place (get_or t place 0) ≡ t
taken_back t place word = set-set t place word (get_or t place 0) ∙ set-get_or t place 0

pub grows_one : (cs : List Change) (t : List ℕ) (place word : ℕ) → place < length t → (word ≢ get_or t place 0)
    → Grows cs t (cs ++ change t place ∷ []) (set t place word) 1
grows_one cs t place word inside other =
    let c : Change = change t place in
    let u : List ℕ = set t place word in
    let again : set u place c.old ≡ t = taken_back t place word in
    let back_is : back (cs ++ c ∷ []) u ≡ back cs t = back_push cs c u ∙ ap (back cs) again in
    let past_is : past (cs ++ c ∷ []) u ≡ past cs t ++ t ∷ [] = past_push cs c u ∙ ap (λ x. past cs x ++ x ∷ []) again in
    record {
      same_size = length-set t place word;
      keeps = λ size k. record {
        all = length-set t place word ∙ k.all;
        inside = All-push (λ d. d.place < size) cs c k.inside (let s = k.all in omega arith);
        changing = changing_push cs c u (let P : List ℕ → Type 0 = IsChanging cs in subst P (sym again) k.changing)
            (λ e. other (sym (get_or-set_same t place word 0 inside) ∙ sym e));
        cleared = back_is ∙ k.cleared;
      };
      extends = λ rows words room left. record {
        same_rows = refl;
        same_words = refl;
        same_tables = rw past_is (take_at (past cs t ++ t ∷ []) (u ∷ []) (length (past cs t) + 1) (length_push (past cs t) t));
        at_least = rw past_is (omega (arith, length_push (past cs t) t));
        at_most = rw past_is (omega (arith, length_push (past cs t) t));
      };
    }

pub grows_then : (xs : List Change) (t : List ℕ) (ys : List Change) (u : List ℕ) (zs : List Change) (v : List ℕ) (m n : ℕ)
    → Grows xs t ys u m → Grows ys u zs v n → Grows xs t zs v (m + n)
grows_then xs t ys u zs v m n g h = record {
  same_size = h.same_size ∙ g.same_size;
  keeps = λ size k. h.keeps size (g.keeps size k);
  extends = λ rows words room left.
      extends_then (table_of rows words room xs t) (table_of rows words left ys u) (table_of rows words left zs v) m n
      (g.extends rows words room left) (h.extends rows words left left);
}

-- what is left of the trail after the later changes are taken back
pub trail_cut : (size n : ℕ) (cs : List Change) (t : List ℕ) → IsTrail size cs t → IsTrail size (take n cs) (back (drop n cs) t)
trail_cut size n cs t k = record {
  all = length-back (drop n cs) t ∙ k.all;
  inside = All-take (λ d. d.place < size) n cs k.inside;
  changing = changing_split n cs t k.changing;
  cleared = back_split n cs t ∙ k.cleared;
}

first_is : (cs : List Change) (t : List ℕ) → slice_get (past cs t ++ t ∷ []) 0 ≡ Some (back cs t)
first_is [] t = refl
first_is (c ∷ cs) t = refl

pub is_bit_table : (rows words room : ℕ) (cs : List Change) (t : List ℕ) → IsTrail (rows * words) cs t → IsBitTable (table_of rows words room cs t)
is_bit_table rows words room cs t k = record {
  first = first_is cs t ∙ ap Some k.cleared;
  history = history cs t (rw k.all k.inside) k.changing;
  size = k.all;
}
