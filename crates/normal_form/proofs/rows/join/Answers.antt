use Rattle.std.proofs.{Common.{◌≡◌, ◌+◌, ◌-◌, ℕ, List, ◌++◌, length, map, refl, sym, ap, ◌∙◌, length-append, arith}, lemmas.List.{map_push, length-map}}
use Rattle.pc_common.specs.World.{Node}
use Rattle.pc_ground.specs.{Tree.{Tree, size_of}, Keys.{row_node, key_node, renamed_kind}, declared.row.{Row.{Row}, RowKind.{RowKind}}}
use Rattle.normal_form.specs.{declared.{joint.Junction.{Junction, TheVariants.{And, Or}}, part.Part.TheVariants.{Rows}}, Parts.{backward, part_of}}
use Rattle.normal_form.{specs.Spine.{row_kind}, proofs.JunctionOf.{part_of-junction, push_root, length-backward}}
use Rattle.normal_form.proofs.rows.join.Goals as goal

same_row : {N : Type 0} (k l : RowKind N) (m n : ℕ) → k ≡ l → m ≡ n
    → (let r : Row N = record { kind = k; skip = m } in r) ≡ record { kind = l; skip = n }
same_row k l m n e f = cc

kind_node : (c : Junction) → renamed_kind key_node (row_kind c) ≡ row_kind c
kind_node And = refl
kind_node Or = refl

skip_is : (len start : ℕ) (first old : List (Row Node)) (a b : Tree Node) → Rows ≡ part_of a → Rows ≡ part_of b → length first ≡ start
    → old ≡ first ++ backward b ++ backward a → len ≡ length old → len - start + 1 ≡ 1 + (size_of a + size_of b)
skip_is len start first old a b e f from written is =
    omega (
      arith,
      ap length written,
      length-append (first ++ backward b) (backward a),
      length-append first (backward b),
      length-backward a e,
      length-backward b f,
    )

pub returns-in_ok-push-in-Rows-Rows : goal.returns-in_ok-push-in-Rows-Rows
returns-in_ok-push-in-Rows-Rows c = λ first a b start right written.
    let e : Rows ≡ part_of a = sym c.in-Rows-Rows.is-0 ∙ written.0 in
    let f : Rows ≡ part_of b = sym c.in-Rows-Rows.is-1 ∙ right in
    let old = c.args.rows.now.items in
    let len : c.len.result ≡ length (map row_node old) = omega (arith, length-map old row_node) in (
      part_of-junction c.args.junction a b e f,
      ap (map row_node) c.in_ok-push-in-Rows-Rows.ensures.items ∙ map_push row_node old _
          ∙ push_root c.args.junction first (map row_node old) a b _ e f written.1
          (same_row _ _ _ _ (ap (renamed_kind key_node) c.kind.ensures ∙ kind_node c.args.junction)
          (skip_is c.len.result c.args.start first (map row_node old) a b e f start written.1 len)),
    )
