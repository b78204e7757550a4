-- Whether an Or is a candidate of its branch, from what is asked of it.
use Rattle.std.proofs.Common.{◌≡◌, ◌≤◌, ◌<◌, inl, inr, ℕ, ◌+◌, Bool, true, false, List, [], ◌∷◌, Some, length, refl, sym, ap, ◌∙◌, arith}
use Rattle.std.{proofs.lemmas.List.{length-map, Elements.{All-contains}}, specs.Prelude.{slice_get, Contains, IsTrue, ◌↔◌, All, MatchBool}}
use Rattle.pc_common.proofs.Elements.{In, in_from_contains, contains_from_in, in_map}
use Rattle.pc_ground.specs.declared.{literal.Literal.{Literal}, row.{Row.{Row}, RowKind.TheVariants.{Or}}, version.Version.TheVariants.{One}}
use Rattle.pc_ground.specs.{Rows.{turned_row, turned_rows}, Tree.{Tree, either, turned, size_of}}
use Rattle.pc_ground.specs.Refutes.{Signed, signed, subtree_at, part_at, literals_of}
use Rattle.pc_ground.proofs.{Turned.{subtree_denied, size_turned}, FlatRows.{subtree_size, size_pos}}
use Rattle.solver.specs.{Spelled.{spelled, IsSpelled}, Met.{IsMet, IsMetUnder}, Opens.{positions}, declared.{tree.place.Place.{Place}, tree.side.Side.{Side}}}
use Rattle.solver.specs.Places.{place_signed, IsOr, AreSides, IsUntaken, IsTaken, IsPending, IsPassed, IsCandidate, IsChosen, AreChosen}
use Rattle.solver.proofs.{IsSpelled.{turned_flat}, IsIndexed.{place_is}, AreTruths.{or_tree}, HasAsserted.{length_spelled, root_row}}

-- an Or's row, another one, and none
pub or_row : (rows : List (Row ℕ)) (q : Signed) (r : Row ℕ) → IsSpelled rows → q.position < length rows
    → slice_get (turned_rows q.negated rows) q.position ≡ Some r → r.kind ≡ Or → IsOr (spelled rows) q
or_row rows q r flat inside at kind =
    or_tree (turned_rows q.negated rows) (turned q.negated (spelled rows)) q.position r (turned_flat q.negated rows flat)
    (omega (arith, inside, length-map rows (turned_row q.negated))) at kind

pub other_row : (rows : List (Row ℕ)) (q : Signed) (r : Row ℕ) → IsSpelled rows → q.position < length rows
    → slice_get (turned_rows q.negated rows) q.position ≡ Some r → (r.kind ≡ Or → ⊥) → IsOr (spelled rows) q → ⊥
other_row rows q r flat inside at other (a, b, e) =
    other (ap (λ (x : Row ℕ). x.kind)
    (root_row (turned_rows q.negated rows) (turned q.negated (spelled rows)) q.position r (either a b) (turned_flat q.negated rows flat) at e))

pub past_rows : (rows : List (Row ℕ)) (q : Signed) → IsSpelled rows → length rows ≤ q.position → IsOr (spelled rows) q → ⊥
past_rows rows q flat past (a, b, e) =
    let size = subtree_size (turned q.negated (spelled rows)) q.position (either a b) e in
    omega (arith, past, size, size_pos (either a b), size_turned q.negated (spelled rows), length_spelled rows flat)

-- what its sides are, where they are asked for
sides_at : (t : Tree ℕ) (q : Place) (sides : Side × Side) → AreSides One t (place_signed q) sides → (a b : Tree ℕ) → part_at t (place_signed q) ≡ Some (either a b)
    → (sides.0.root ≡ q.position + 1) × (sides.1.root ≡ q.position + 1 + size_of a)
sides_at t q sides are a b e = (let is = are a b e in (ap (λ (s : Side). s.root) is.0, ap (λ (s : Side). s.root) is.1))

pub pending : (t : Tree ℕ) (xs : List Place) (q : Place) (sides : Side × Side) (b : Bool) → IsOr t (place_signed q) → AreSides One t (place_signed q) sides
    → MatchBool b (IsUntaken xs q sides.0.root sides.1.root) (IsTaken xs q sides.0.root sides.1.root)
    → MatchBool b (IsPending t xs q) (IsPassed t xs q)
pending t xs q sides true (a, b, is) are untaken =
    let at = sides_at t q sides are a b is in
    (a, b, is, rw (at.0, at.1) at untaken)
pending t xs q sides false there are taken = λ a b is.
    let at = sides_at t q sides are a b is in
    rw (at.0, at.1) at taken

pub has_signed : (xs : List Place) (q : Place) → Contains xs q → Contains (positions xs) (place_signed q)
has_signed xs q has = contains_from_in (place_signed q) (positions xs) (in_map place_signed q xs (in_from_contains q xs has))

in_back : (xs : List Place) (q : Place) → In (place_signed q) (positions xs) → In q xs
in_back [] q i = absurd i
in_back (x ∷ xs) q (inl e) = inl (place_is x q (ap (λ (s : Signed). s.negated) e) (ap (λ (s : Signed). s.position) e))
in_back (x ∷ xs) q (inr i) = inr (in_back xs q i)

pub signed_has : (xs : List Place) (q : Place) → Contains (positions xs) (place_signed q) → Contains xs q
signed_has xs q has = contains_from_in q xs (in_back xs q (in_from_contains (place_signed q) (positions xs) has))

-- what tells of the tree's part there tells of the Or there
abbrev pub Tells : Tree ℕ → List (Literal ℕ) → Place → Bool → Type 0
Tells t ls q truth = (s : Tree ℕ) → subtree_at t q.position ≡ Some s → IsTrue truth ↔ IsMet ls s

pub plain_part : (t : Tree ℕ) (n : Bool) (p : ℕ) (s : Tree ℕ) → subtree_at (turned n t) p ≡ Some s → subtree_at t p ≡ Some (turned n s)
plain_part t false p s e = e
plain_part t true p s e = subtree_denied t true p s e

unmet : (n : Bool) (ls : List (Literal ℕ)) (s : Tree ℕ) (b : Bool) → IsTrue b ↔ IsMet ls s → b ≡ n → IsMetUnder n ls s → ⊥
unmet false ls s b told e = λ h. (let no : false ≡ true → ⊥ = λ f. cc in no (sym e ∙ told.1 h))
unmet true ls s b told e = λ h. h (told.0 e)

met : (n : Bool) (ls : List (Literal ℕ)) (s : Tree ℕ) (b : Bool) → IsTrue b ↔ IsMet ls s → (b ≡ n → ⊥) → IsMetUnder n ls s
met false ls s true told other = told.0 refl
met false ls s false told other = absurd (other refl)
met true ls s b told other = λ h. other (told.1 h)

-- a pending Or is a candidate, where it is not true
pub pending_candidate : (t : Tree ℕ) (xs : List Place) (q : Place) (truth b : Bool) → IsPending t xs q → Tells t (literals_of t (positions xs)) q truth
    → MatchBool b (truth ≡ q.negated) (truth ≡ q.negated → ⊥)
    → MatchBool b (IsCandidate t (positions xs) (place_signed q)) (IsChosen t (positions xs) (place_signed q))
pending_candidate t xs q truth true (a, b, is, untaken) told equal =
    let n = q.negated in
    let off : (r : ℕ) → (Contains xs (record { negated = n; position = r }) → ⊥) → Contains (positions xs) (signed n r) → ⊥ =
    λ r h has. h (signed_has xs (record { negated = n; position = r }) has) in
    let part = turned n (either a b) in record {
      left = a;
      right = b;
      is_or = is;
      on_branch = has_signed xs q untaken.0;
      no_left = off (q.position + 1) untaken.1;
      no_right = off (q.position + 1 + size_of a) untaken.2;
      is_false = unmet n (literals_of t (positions xs)) part truth (told part (plain_part t n q.position (either a b) is)) equal;
    }
pending_candidate t xs q truth false there told other = λ a b on is.
    let part = turned q.negated (either a b) in
    inl (met q.negated (literals_of t (positions xs)) part truth (told part (plain_part t q.negated q.position (either a b) is)) other)

-- where each asserted one is chosen, all are
pub all_chosen : (t : Tree ℕ) (xs : List Place) → All (λ q. IsChosen t (positions xs) (place_signed q)) xs → AreChosen t (positions xs)
all_chosen t xs all = λ q a b on.
    let place : Place = record { negated = q.negated; position = q.position } in
    All-contains (λ x. IsChosen t (positions xs) (place_signed x)) xs place all (signed_has xs place on) a b on
