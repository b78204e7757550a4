-- Edges that are linked to the one before them from the same node: one more, and a walk over those from one node.
use Rattle.std.proofs.Common.{◌≡◌, ℕ, zero, suc, ◌+◌, ◌-◌, ◌<◌, ◌≤◌, ◌⊎◌, inl, inr, List, [], ◌∷◌, ◌++◌, Some, length, set, slice_get, refl, sym, ◌∙◌, ap, subst, arith}
use Rattle.std.proofs.lemmas.{Bool.{cases_lt, cases_eq}, List.{length-append, get_or-set_same, get_or-set_other, length-set}, Option.{slice_get_within}}
use Rattle.std.specs.Prelude.{◌↔◌, slice_index}
use Rattle.pc_common.proofs.Places.{slice_get-more, get_last, one_item}
use Rattle.graph_check.specs.{declared.adjacency.Arc.{Arc}, Arcs.{Arcs, Joins, IsOn, here, earlier, IsWalk, ComesTo, AreLinked}}

pub at_old : {X : Type 0} (xs : List X) (y : X) (k : ℕ) (x : X) → k < length xs → slice_get (xs ++ y ∷ []) k ≡ Some x → slice_get xs k ≡ Some x
at_old [] y k x low e = absurd (omega (arith, low))
at_old (z ∷ zs) y zero x low e = e
at_old (z ∷ zs) y (suc k) x low e = at_old zs y k x (omega (arith, low)) e

on_front : (xs ys : List Arc) (h k : ℕ) → IsOn xs h k → IsOn (xs ++ ys) h k
on_front xs ys _ _ (here k) = here k
on_front xs ys _ _ (earlier e k x at rest) = earlier e k x (slice_get-more xs ys e x at) (on_front xs ys x.before k rest)

-- links fall, so that a walk from an old edge comes to no new one
on_old : (xs : List Arc) (y : Arc) (h k : ℕ) → ((e : ℕ) (x : Arc) → slice_get xs e ≡ Some x → x.before ≤ e) → h ≤ length xs
    → IsOn (xs ++ y ∷ []) h k → IsOn xs h k
on_old xs y _ _ falling low (here k) = here k
on_old xs y _ _ falling low (earlier e k x at rest) =
    let there = at_old xs y e x (omega (arith, low)) at in
    let falls = falling e x there in
    earlier e k x there (on_old xs y x.before k falling (omega (arith, low, falls)) rest)

on_low : (xs : List Arc) (h k : ℕ) → ((e : ℕ) (x : Arc) → slice_get xs e ≡ Some x → x.before ≤ e) → h ≤ length xs → IsOn xs h k → k < length xs
on_low xs _ _ falling low (here k) = omega (arith, low)
on_low xs _ _ falling low (earlier e k x at rest) =
    let falls = falling e x at in on_low xs x.before k falling (omega (arith, low, falls)) rest

-- with one edge more
module _ (v : Arcs) (from to : ℕ) (from_in : from < length v.heads) (to_in : to < length v.heads) where
  abbrev new_arc : Arc
  new_arc = record { from = from; to = to; before = slice_index v.heads from }

  abbrev pub with_arc : Arcs
  with_arc = record { heads = set v.heads from (length v.arcs + 1); arcs = v.arcs ++ record { from = from; to = to; before = slice_index v.heads from } ∷ [] }

  head_same : slice_index with_arc.heads from ≡ length v.arcs + 1
  head_same = get_or-set_same v.heads from (length v.arcs + 1) 0 from_in

  head_other : (a : ℕ) → (a ≡ from → ⊥) → slice_index with_arc.heads a ≡ slice_index v.heads a
  head_other a other = get_or-set_other v.heads from a (length v.arcs + 1) 0 other

  -- an edge is an old one or the new one
  either_arc : (e : ℕ) (x : Arc) → slice_get with_arc.arcs e ≡ Some x → (slice_get v.arcs e ≡ Some x) ⊎ ((e ≡ length v.arcs) × (x ≡ new_arc))
  either_arc e x at = elim (cases_lt e (length v.arcs)) [
    | inl below ↦ inl (at_old v.arcs new_arc e x below at)
    | inr past ↦
        let low = slice_get_within with_arc.arcs e x at in
        let longer = length-append v.arcs (new_arc ∷ []) in
        let last : e ≡ length v.arcs = omega (arith, low, longer, past) in
        inr (last, one_item x new_arc (sym at ∙ ap (slice_get with_arc.arcs) last ∙ get_last v.arcs new_arc))
  ]

  pub linked_more : AreLinked v → AreLinked with_arc
  linked_more l = record {
    low = λ a. (let longer = length-append v.arcs (new_arc ∷ []) in elim (cases_eq a from) [
      | inl same ↦ (let h : slice_index with_arc.heads a ≡ length v.arcs + 1 = ap (slice_index with_arc.heads) same ∙ head_same in omega (arith, h, longer))
      | inr other ↦ (let h = head_other a other in let old = l.low a in omega (arith, h, old, longer))
    ]);
    falling = λ e x at. elim (either_arc e x at) [
      | inl old ↦ l.falling e x old
      | inr new ↦ (let before : x.before ≡ slice_index v.heads from = ap (λ (y : Arc). y.before) new.1 in let low = l.low from in let last = new.0 in omega
          (arith, before, low, last))
    ];
    within = λ e x at. (let same = length-set v.heads from (length v.arcs + 1) in elim (either_arc e x at) [
      | inl old ↦ (let w = l.within e x old in let a = w.0 in let b = w.1 in (omega (arith, a, same), omega (arith, b, same)))
      | inr new ↦ (let a : x.from ≡ from = ap (λ (y : Arc). y.from) new.1 in let b : x.to ≡ to = ap (λ (y : Arc). y.to) new.1 in
          (omega (arith, a, same, from_in), omega (arith, b, same, to_in)))
    ]);
    listed = λ e x at. elim (either_arc e x at) [
      | inl old ↦ elim (cases_eq x.from from) [
        | inl same ↦
            let P : ℕ → Type 0 = λ h. IsOn with_arc.arcs h e in
            subst P (sym (ap (slice_index with_arc.heads) same ∙ head_same ∙ plus_one (length v.arcs)))
            (earlier (length v.arcs) e new_arc (get_last v.arcs new_arc)
            (on_front v.arcs (new_arc ∷ []) (slice_index v.heads from) e (subst (λ a. IsOn v.arcs (slice_index v.heads a) e) same (l.listed e x old))))
        | inr other ↦
            let P : ℕ → Type 0 = λ h. IsOn with_arc.arcs h e in
            subst P (sym (head_other x.from other)) (on_front v.arcs (new_arc ∷ []) (slice_index v.heads x.from) e (l.listed e x old))
      ]
      | inr new ↦
          let P : ℕ → Type 0 = λ h. IsOn with_arc.arcs h e in
          let a : x.from ≡ from = ap (λ (y : Arc). y.from) new.1 in
          let last = new.0 in
          let h : slice_index with_arc.heads x.from ≡ suc e = ap (slice_index with_arc.heads) a ∙ head_same ∙ plus_one (length v.arcs) ∙ ap suc (sym new.0) in
          subst P (sym h) (here e)
    ];
    only = λ a e x on at. elim (cases_eq a from) [
      | inl same ↦ (let P : ℕ → Type 0 = λ h. IsOn with_arc.arcs h e in
          of_from a same e x (subst P (ap (slice_index with_arc.heads) same ∙ head_same ∙ plus_one (length v.arcs)) on) at)
      | inr other ↦ (let P : ℕ → Type 0 = λ h. IsOn with_arc.arcs h e in of_old a e x (subst P (head_other a other) on) at)
    ];
  }
    where
      plus_one : (n : ℕ) → n + 1 ≡ suc n
      plus_one n = omega arith

      of_old : (a e : ℕ) (x : Arc) → IsOn with_arc.arcs (slice_index v.heads a) e → slice_get with_arc.arcs e ≡ Some x → x.from ≡ a
      of_old a e x on at =
          let old = on_old v.arcs new_arc (slice_index v.heads a) e l.falling (l.low a) on in
          let low = on_low v.arcs (slice_index v.heads a) e l.falling (l.low a) old in
          l.only a e x old (at_old v.arcs new_arc e x low at)

      of_from : (a : ℕ) → a ≡ from → (e : ℕ) (x : Arc) → IsOn with_arc.arcs (suc (length v.arcs)) e → slice_get with_arc.arcs e ≡ Some x → x.from ≡ a
      of_from a same _ x (here e) at =
          let is : x ≡ new_arc = one_item x new_arc (sym at ∙ get_last v.arcs new_arc) in
          ap (λ (y : Arc). y.from) is ∙ sym same
      of_from a same _ x (earlier f e y there rest) at =
          let is : y ≡ new_arc = one_item y new_arc (sym there ∙ get_last v.arcs new_arc) in
          let P : Arc → Type 0 = λ z. IsOn with_arc.arcs z.before e in
          of_old from e x (subst P is rest) at ∙ sym same

  pub joins_more : (a b : ℕ) → Joins with_arc a b ↔ (Joins v a b ⊎ ((a ≡ from) × (b ≡ to)))
  joins_more a b = (forth, back)
    where
      forth : Joins with_arc a b → Joins v a b ⊎ ((a ≡ from) × (b ≡ to))
      forth (e, x, at, is_from, is_to) = elim (either_arc e x at) [
        | inl old ↦ inl (e, x, old, is_from, is_to)
        | inr new ↦ inr (sym is_from ∙ ap (λ (y : Arc). y.from) new.1, sym is_to ∙ ap (λ (y : Arc). y.to) new.1)
      ]

      back : Joins v a b ⊎ ((a ≡ from) × (b ≡ to)) → Joins with_arc a b
      back (inl (e, x, at, is_from, is_to)) = (e, x, slice_get-more v.arcs (new_arc ∷ []) e x at, is_from, is_to)
      back (inr (is_from, is_to)) = (length v.arcs, new_arc, get_last v.arcs new_arc, sym is_from, sym is_to)

-- the same, as the code enters it
pub entered_so : (P : Arcs → Type 0) (v : Arcs) (from to before h : ℕ) (arcs : List Arc) → before ≡ slice_index v.heads from → h ≡ length v.arcs + 1
    → arcs ≡ v.arcs ++ record { from = from; to = to; before = before } ∷ []
    → P (record { heads = set v.heads from (length v.arcs + 1); arcs = v.arcs ++ record { from = from; to = to; before = slice_index v.heads from } ∷ [] })
    → P (record { heads = set v.heads from h; arcs = arcs })
entered_so P v from to before h arcs is_before is_head are p =
    let A : List Arc → Type 0 = λ xs. P (record { heads = set v.heads from h; arcs = xs }) in
    let B : ℕ → Type 0 = λ n. P (record { heads = set v.heads from h; arcs = v.arcs ++ record { from = from; to = to; before = n } ∷ [] }) in
    let H : ℕ → Type 0 = λ n. P (record {
      heads = set v.heads from n;
      arcs = v.arcs ++ record
          { from = from; to = to; before = slice_index v.heads from } ∷ [];
    }) in
    subst A (sym are) (subst B (sym is_before) (subst H (sym is_head) p))

pub walk_on : (v : Arcs) (at : ℕ) (x : Arc) → AreLinked v → 0 < at → slice_get v.arcs (at - 1) ≡ Some x
    → (a : ℕ) → IsWalk v a at → IsWalk v a x.before × Joins v a x.to
walk_on v at x l some there a w = go (at - 1) there (let P : ℕ → Type 0 = λ n. IsWalk v a n in subst P (omega (arith, some)) w)
  where
    go : (e : ℕ) → slice_get v.arcs e ≡ Some x → IsWalk v a (suc e) → IsWalk v a x.before × Joins v a x.to
    go e there w = (
      record {
        low = (let falls = l.falling e x there in let low = w.low in omega (arith, falls, low));
        only = λ k y on at. w.only k y (earlier e k x there on) at;
      },
      (e, x, there, w.only e x (here e) there, refl),
    )

pub walk_rest : (v : Arcs) (at : ℕ) (x : Arc) → 0 < at → slice_get v.arcs (at - 1) ≡ Some x
    → (b : ℕ) → ComesTo v at b → (x.to ≡ b) ⊎ ComesTo v x.before b
walk_rest v at x some there b (k, y, on, at_k, is_to) =
    go (at - 1) k y there (let P : ℕ → Type 0 = λ n. IsOn v.arcs n k in subst P (omega (arith, some)) on) at_k is_to
  where
    go : (e k : ℕ) (y : Arc) → slice_get v.arcs e ≡ Some x → IsOn v.arcs (suc e) k → slice_get v.arcs k ≡ Some y → y.to ≡ b → (x.to ≡ b) ⊎ ComesTo v x.before b
    go _ _ y there (here k) at_k is_to = inl (ap (λ (z : Arc). z.to) (one_item x y (sym there ∙ at_k)) ∙ is_to)
    go _ _ y there (earlier e k z there_z rest) at_k is_to =
        let P : Arc → Type 0 = λ u. IsOn v.arcs u.before k in
        inr (k, y, subst P (one_item z x (sym there_z ∙ there)) rest, at_k, is_to)

pub walk_done : (v : Arcs) (b : ℕ) → ComesTo v 0 b → ⊥
walk_done v b (k, y, on, at, is_to) = elim on [ ]
