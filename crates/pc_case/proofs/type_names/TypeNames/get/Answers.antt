use Rattle.std.{proofs.Common.{◌≡◌, ◌<◌, ◌≤◌, ◌∷◌, ◌-◌, ◌∙◌, ap, ℕ, List, Some, length, get_or, take, drop, arith}, specs.Prelude.{slice_get}}
use Rattle.pc_case.{specs.Cuts.{cuts, Rises}, proofs.Pieces.{length-cuts, piece}}
use Rattle.pc_case.proofs.type_names.TypeNames.get.Goals as goal

-- there are as many ends as names
within : (bytes ends : List ℕ) (names : List (List ℕ)) (k : ℕ) → cuts bytes 0 ends ≡ names → k < length names → k < length ends
within bytes ends names k are below = omega (arith, below, ap length are, length-cuts bytes 0 ends)

place : (bytes ends row read : List ℕ) (names : List (List ℕ)) (k begin end : ℕ) → cuts bytes 0 ends ≡ names → k < length names
    → Rises 0 ends (length bytes) → row ≡ ends → read ≡ bytes → begin ≡ get_or (0 ∷ row) k 0 → end ≡ get_or ends k end
    → (begin ≤ end) × (end ≤ length read) × (slice_get names k ≡ Some (take (end - begin) (drop begin read)))
place bytes ends row read names k begin end are below rises is_row is_read begins ends_at =
    let found = piece bytes ends k begin end rises (within bytes ends names k are below) (begins ∙ ap (λ es. get_or (0 ∷ es) k 0) is_row) ends_at in
    (found.0, rw is_read found.1, rw (← are, is_read) found.2)

pub begin_of-requires : goal.begin_of-requires
begin_of-requires c =
    let below = within c.self.inside.bytes.items c.self.inside.ends.items c.args.self.now c.args.k c.self.view_is c.requires in
    omega (arith, below, ap length c.as_slice.ensures.value)

pub index-requires : goal.index-requires
index-requires c =
    let below = within c.self.inside.bytes.items c.self.inside.ends.items c.args.self.now c.args.k c.self.view_is c.requires in
    omega (arith, below, c.self.inside.ends.ok.0)

pub slice_bounds-result-count : goal.slice_bounds-result-count
slice_bounds-result-count c =
    (place c.self.inside.bytes.items c.self.inside.ends.items c.as_slice.result.now c.deref.result.now c.args.self.now
    c.args.k c.begin_of.result c.index.result.now
    c.self.view_is c.requires c.self.invariant.0 c.as_slice.ensures.value c.deref.ensures.value c.begin_of.ensures c.index.ensures).0

pub slice_bounds-result-start : goal.slice_bounds-result-start
slice_bounds-result-start c =
    (place c.self.inside.bytes.items c.self.inside.ends.items c.as_slice.result.now c.deref.result.now c.args.self.now
    c.args.k c.begin_of.result c.index.result.now
    c.self.view_is c.requires c.self.invariant.0 c.as_slice.ensures.value c.deref.ensures.value c.begin_of.ensures c.index.ensures).0

pub slice_bounds-result-end : goal.slice_bounds-result-end
slice_bounds-result-end c =
    (place c.self.inside.bytes.items c.self.inside.ends.items c.as_slice.result.now c.deref.result.now c.args.self.now
    c.args.k c.begin_of.result c.index.result.now
    c.self.view_is c.requires c.self.invariant.0 c.as_slice.ensures.value c.deref.ensures.value c.begin_of.ensures c.index.ensures).1

pub returns : goal.returns
returns c =
    (place c.self.inside.bytes.items c.self.inside.ends.items c.as_slice.result.now c.deref.result.now c.args.self.now
    c.args.k c.begin_of.result c.index.result.now
    c.self.view_is c.requires c.self.invariant.0 c.as_slice.ensures.value c.deref.ensures.value c.begin_of.ensures c.index.ensures).2
