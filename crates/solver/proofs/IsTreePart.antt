-- The rows of a subtree, by themselves.
use Rattle.std.proofs.Common.{◌≡◌, ◌≤◌, ◌<◌, ℕ, ◌+◌, ◌-◌, Bool, List, Some, take, drop, length, sym, ap, ◌∙◌, subst, arith}
use Rattle.std.{proofs.Math.Seq.{take-append_seam}, specs.Prelude.{slice_get, slice_range, IsTrue, ◌↔◌}}
use Rattle.pc_ground.specs.{declared.{literal.Literal.{Literal}, row.Row.{Row}}, Tree.{Tree, size_of}, Rows.{rows_of, IsPart}, Refutes.{subtree_at}}
use Rattle.pc_ground.proofs.{FlatRows.{subtree_part, subtree_size, length_rows}, StageWalks.{some_same}}
use Rattle.solver.{specs.{Spelled.{spelled, IsSpelled}, Met.{IsMet}, Flags.{IsTreePart}}, proofs.IsSpelled.{spelled_is}}
use Rattle.solver.proofs.HasAsserted.{row_root, length_spelled}

pub tree_part : (rows : List (Row ℕ)) (p end : ℕ) (r : Row ℕ) → IsSpelled rows → p < length rows → slice_get rows p ≡ Some r → end ≡ p + r.skip
    → IsTreePart (spelled rows) p (slice_range rows p end) × (end ≤ length rows)
tree_part rows p end r flat inside at e =
    let t = spelled rows in
    let len = length_spelled rows flat in
    let there = row_root rows t p r flat (omega (arith, inside, len)) at in
    let s = there.0 in
    let skip : r.skip ≡ size_of s = ap (λ (x : Row ℕ). x.skip) there.2 in
    let size = subtree_size t p s there.1 in
    let P : List (Row ℕ) → Type 0 = λ xs. IsPart xs p s in
    let part : IsPart rows p s = subst P (sym flat) (subtree_part t p s there.1) in
    let long : end - p ≡ length (rows_of s) = omega (arith, e, skip, length_rows s) in
    let same : slice_range rows p end ≡ rows_of s = ap (λ n. take n (drop p rows)) long ∙ ap (take (length (rows_of s))) part.1
    ∙ take-append_seam (rows_of s) part.0 in
    ((s, there.1, same), omega (arith, e, skip, size, len))

-- what is so of the part by itself is so of the subtree there
pub part_met : (t : Tree ℕ) (p : ℕ) (part : List (Row ℕ)) (ls : List (Literal ℕ)) (b : Bool) (s : Tree ℕ) → IsTreePart t p part → subtree_at t p ≡ Some s
    → IsTrue b ↔ IsMet ls (spelled part) → IsTrue b ↔ IsMet ls s
part_met t p part ls b s (x, at, e) there told =
    let same : spelled part ≡ s = spelled_is part x e ∙ some_same (sym at ∙ there) in
    rw same at told
