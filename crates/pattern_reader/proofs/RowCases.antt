-- The lists of a row's case, and the bytes of a closed pattern.
use Rattle.std.proofs.Common.{◌≡◌, ℕ, ◌<◌, ◌+◌, List, [], ◌∷◌, ◌++◌, Option, Some, length, map, take, set, refl, sym, ◌∙◌, ap, subst, arith}
use Rattle.std.{proofs.lemmas.{List.{map-append, length-map, take-map, length-set}, Option.{slice_get-map}}, specs.List.{fold, slice_get}}
use Rattle.std.specs.Option.{option_map}
use Rattle.pc_common.specs.{Case.{Value}, declared.value.Value.{Value as CodeValue}}
use Rattle.pc_case.specs.{declared.op.Op.{Op}, Plain.{plain_value, micro_op, dependency, stated_value}, MicroOps.{AreMicroOps}}
use Rattle.pc_case.specs.Stated.{IsStatedOnce, AreWithin}
use Rattle.litmus_reader.specs.{Lists.{AreLists}, declared.lists.CaseLists.{CaseLists}}
use Rattle.pattern_reader.specs.{Opens.{Open}, Closing.{with_zero, closed_bytes}, Rows.{reading, filled}}
use Rattle.pattern_reader.proofs.Filling.{length_filled, filled_kept, filled_more}

-- one micro-op more of a row
pub rows_more : (value : ℕ → Option Value) (ops : List Op) (k : ℕ) (o x : Op) (v : Option CodeValue) (copies new : List Op) → slice_get ops k ≡ Some o
    → new ≡ copies ++ x ∷ [] → micro_op x ≡ reading (option_map plain_value v) (micro_op o) → option_map plain_value v ≡ value k
    → map micro_op copies ≡ filled value 0 (map micro_op (take k ops)) → map micro_op new ≡ filled value 0 (map micro_op (take (k + 1) ops))
rows_more value ops k o x v copies new here grown is same before =
    let plain : slice_get (map micro_op ops) k ≡ Some (micro_op o) = slice_get-map micro_op ops k ∙ ap (option_map micro_op) here in
    ap (map micro_op) grown ∙ map-append micro_op copies (x ∷ []) ∙ ap (λ os. os ++ micro_op x ∷ []) before
    ∙ ap (λ y. filled value 0 (map micro_op (take k ops)) ++ y ∷ []) (is ∙ ap (λ w. reading w (micro_op o)) same)
    ∙ ap (λ os. filled value 0 os ++ reading (value k) (micro_op o) ∷ []) (sym (take-map micro_op k ops))
    ∙ sym (filled_more value k (map micro_op ops) (micro_op o) plain) ∙ ap (filled value 0) (take-map micro_op (k + 1) ops)

-- lists with other values in their micro-ops
pub kept_lists : (old new : CaseLists) (value : ℕ → Option Value) → AreLists old → map micro_op new.ops ≡ filled value 0 (map micro_op old.ops)
    → new.dependencies ≡ old.dependencies → new.initial ≡ old.initial → new.final_values ≡ old.final_values → AreLists new
kept_lists old new value are ops dependencies initial final =
    let count : length old.ops ≡ length new.ops =
    sym (length-map old.ops micro_op) ∙ sym (length_filled value 0 (map micro_op old.ops)) ∙ sym (ap length ops) ∙ length-map new.ops micro_op in record {
      kept = subst AreMicroOps (sym ops) (filled_kept value (map micro_op old.ops) are.kept);
      within = subst (λ n. AreWithin n (map dependency new.dependencies)) count
          (subst (λ ds. AreWithin (length old.ops) (map dependency ds)) (sym dependencies) are.within);
      initial_once = subst (λ ss. IsStatedOnce (map stated_value ss)) (sym initial) are.initial_once;
      final_once = subst (λ ss. IsStatedOnce (map stated_value ss)) (sym final) are.final_once;
    }

-- closing keeps the number of bytes
length_closed : (opens : List Open) (bytes : List ℕ) → length (fold with_zero bytes opens) ≡ length bytes
length_closed [] bytes = refl
length_closed (o ∷ opens) bytes =
    length_closed opens (with_zero bytes o) ∙ length-set (set (set bytes o.at 0x30) (o.at + 1) 0x20) (o.at + 2) 0x20
    ∙ length-set (set bytes o.at 0x30) (o.at + 1) 0x20 ∙ length-set bytes o.at 0x30

pub closed_short : (bytes : List ℕ) (opens : List Open) (xs : List ℕ) → xs ≡ closed_bytes bytes opens → length bytes < 4294967296 → length xs < 4294967296
closed_short bytes opens xs is short =
    let same = ap length is in let kept = length_closed opens bytes in omega (arith, same, kept, short)
