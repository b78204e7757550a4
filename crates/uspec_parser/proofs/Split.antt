-- The split of a list of operands exists, it is one, and it is what grouping makes.
use Rattle.std.proofs.Common.{◌≡◌, ◌≢◌, Option, Some, None, refl, sym, ap, subst, ◌∙◌}
use Rattle.pc_syntax.specs.Written.{Written, and_, or_, implies_}
use Rattle.uspec_parser.specs.declared.operands.Connective.{Connective, TheVariants.{And as conjoins, Or as disjoins, Implies as implies}}
use Rattle.uspec_parser.specs.Operands.{Operands, only, chain, beside, Lacks, IsSplit, Grouped, or_now, implies_now, disjunction, whole, before, group, formula_of}

-- the list `l` is the list `c`, and after it, if something is disjoined with it, a list that this is the split of
abbrev Disjoined : Operands → Option Written → Operands → Type 0
Disjoined c None l = l ≡ c
Disjoined c (Some d) l = (r : Operands) × IsSplit r d × Lacks implies r × (l ≡ beside c disjoins r)

abbrev Implied : Operands → Option Written → Operands → Type 0
Implied c None l = l ≡ c
Implied c (Some i) l = (r : Operands) × IsSplit r i × (l ≡ beside c implies r)

-- the list, parted as its grouping is
record IsParted (l : Operands) (g : Grouped) : Type 0 where
  pub conjunction : Operands
  pub disjoints : Operands
  pub no_implies : Lacks implies conjunction
  pub no_disjoins : Lacks disjoins conjunction
  pub split : IsSplit conjunction g.now
  pub disjoined : Disjoined conjunction g.disjoined disjoints
  pub implied : Implied disjoints g.implied l

lacks_beside : (op first : Connective) (l r : Operands) → first ≢ op → Lacks op l → Lacks op r → Lacks op (beside l first r)
lacks_beside op first (only a) r not h k = (not, k)
lacks_beside op first (chain a other l) r not h k = (h.0, lacks_beside op first l r not h.1 k)

disjoints_lack : (c l : Operands) (d : Option Written) → Lacks implies c → Disjoined c d l → Lacks implies l
disjoints_lack c l None h e = subst (λ (m : Operands). Lacks implies m) (sym e) h
disjoints_lack c l (Some d) h (r, _, k, e) =
    subst (λ (m : Operands). Lacks implies m) (sym e) (lacks_beside implies disjoins c r (λ same. cc) h k)

disjoints_split : (c l : Operands) (now : Written) (d : Option Written) → Lacks implies c → Lacks disjoins c → IsSplit c now → Disjoined c d l
    → IsSplit l (or_now now d)
disjoints_split c l now None h k s e = subst (λ (m : Operands). IsSplit m now) (sym e) s
disjoints_split c l now (Some d) h k s (r, t, n, e) =
    subst (λ (m : Operands). IsSplit m (or_ now d)) (sym e)
    (IsSplit.at_disjoins (lacks_beside implies disjoins c r (λ same. cc) h n) k s t)

whole_split : (c l : Operands) (now : Written) (i : Option Written) → Lacks implies c → IsSplit c now → Implied c i l
    → IsSplit l (implies_now now i)
whole_split c l now None h s e = subst (λ (m : Operands). IsSplit m now) (sym e) s
whole_split c l now (Some i) h s (r, t, e) =
    subst (λ (m : Operands). IsSplit m (implies_ now i)) (sym e) (IsSplit.at_implies h s t)

split_of : (l : Operands) (g : Grouped) → IsParted l g → IsSplit l (whole g)
split_of l g p =
    whole_split p.disjoints l (disjunction g) g.implied (disjoints_lack p.conjunction p.disjoints g.disjoined p.no_implies p.disjoined)
    (disjoints_split p.conjunction p.disjoints g.now g.disjoined p.no_implies p.no_disjoins p.split p.disjoined) p.implied

conjoined : (a : Written) (c l : Operands) (d : Option Written) → Disjoined c d l → Disjoined (chain a conjoins c) d (chain a conjoins l)
conjoined a c l None e = ap (chain a conjoins) e
conjoined a c l (Some d) (r, s, n, e) = (r, s, n, ap (chain a conjoins) e)

longer : (a : Written) (op : Connective) (c l : Operands) (i : Option Written) → Implied c i l → Implied (chain a op c) i (chain a op l)
longer a op c l None e = ap (chain a op) e
longer a op c l (Some i) (r, s, e) = (r, s, ap (chain a op) e)

parted_before : (a : Written) (op : Connective) (l : Operands) (g : Grouped) → IsParted l g → IsParted (chain a op l) (before a op g)
parted_before a conjoins l g p = record {
  conjunction = chain a conjoins p.conjunction;
  disjoints = chain a conjoins p.disjoints;
  no_implies = (λ same. cc, p.no_implies);
  no_disjoins = (λ same. cc, p.no_disjoins);
  split = IsSplit.at_conjoins {l = only a} (λ same. cc, p.no_implies) (λ same. cc, p.no_disjoins) tt IsSplit.single p.split;
  disjoined = conjoined a p.conjunction p.disjoints g.disjoined p.disjoined;
  implied = longer a conjoins p.disjoints l g.implied p.implied;
}
parted_before a disjoins l g p = record {
  conjunction = only a;
  disjoints = chain a disjoins p.disjoints;
  no_implies = tt;
  no_disjoins = tt;
  split = IsSplit.single;
  disjoined = (
    p.disjoints,
    disjoints_split p.conjunction p.disjoints g.now g.disjoined p.no_implies p.no_disjoins p.split p.disjoined,
    disjoints_lack p.conjunction p.disjoints g.disjoined p.no_implies p.disjoined,
    refl,
  );
  implied = longer a disjoins p.disjoints l g.implied p.implied;
}
parted_before a implies l g p = record {
  conjunction = only a;
  disjoints = only a;
  no_implies = tt;
  no_disjoins = tt;
  split = IsSplit.single;
  disjoined = refl;
  implied = (l, split_of l g p, refl);
}

parted : (l : Operands) → IsParted l (group l)
parted (only a) = record {
  conjunction = only a;
  disjoints = only a;
  no_implies = tt;
  no_disjoins = tt;
  split = IsSplit.single;
  disjoined = refl;
  implied = refl;
}
parted (chain a op l) = parted_before a op l (group l) (parted l)

-- what grouping makes is a split
pub grouped_split : (l : Operands) → IsSplit l (formula_of l)
grouped_split l = split_of l (group l) (parted l)

lacks_first : (op first : Connective) (l r : Operands) → Lacks op (beside l first r) → Lacks op l
lacks_first op first (only a) r h = tt
lacks_first op first (chain a other l) r h = (h.0, lacks_first op first l r h.1)

lacks_second : (op first : Connective) (l r : Operands) → Lacks op (beside l first r) → Lacks op r
lacks_second op first (only a) r h = h.1
lacks_second op first (chain a other l) r h = lacks_second op first l r h.1

nothing_implied : (l : Operands) → Lacks implies l → (group l).implied ≡ None
nothing_implied (only a) h = refl
nothing_implied (chain a conjoins l) h = nothing_implied l h.1
nothing_implied (chain a disjoins l) h = nothing_implied l h.1
nothing_implied (chain a implies l) h = absurd (h.0 refl)

nothing_disjoined : (l : Operands) → Lacks implies l → Lacks disjoins l → (group l).disjoined ≡ None
nothing_disjoined (only a) h k = refl
nothing_disjoined (chain a conjoins l) h k = nothing_disjoined l h.1 k.1
nothing_disjoined (chain a disjoins l) h k = absurd (k.0 refl)
nothing_disjoined (chain a implies l) h k = absurd (h.0 refl)

group_implies : (l r : Operands) → Lacks implies l
    → group (beside l implies r) ≡ record { now = (group l).now; disjoined = (group l).disjoined; implied = Some (formula_of r) }
group_implies (only a) r h = refl
group_implies (chain a conjoins l) r h = ap (before a conjoins) (group_implies l r h.1)
group_implies (chain a disjoins l) r h = ap (before a disjoins) (group_implies l r h.1)
group_implies (chain a implies l) r h = absurd (h.0 refl)

group_disjoins : (l r : Operands) → Lacks implies l → Lacks disjoins l
    → group (beside l disjoins r) ≡ record { now = (group l).now; disjoined = Some (disjunction (group r)); implied = (group r).implied }
group_disjoins (only a) r h k = refl
group_disjoins (chain a conjoins l) r h k = ap (before a conjoins) (group_disjoins l r h.1 k.1)
group_disjoins (chain a disjoins l) r h k = absurd (k.0 refl)
group_disjoins (chain a implies l) r h k = absurd (h.0 refl)

grouped_disjunction : (l : Operands) → Lacks implies l → formula_of l ≡ disjunction (group l)
grouped_disjunction l h = ap (implies_now (disjunction (group l))) (nothing_implied l h)

grouped_now : (l : Operands) → Lacks implies l → Lacks disjoins l → formula_of l ≡ (group l).now
grouped_now l h k = grouped_disjunction l h ∙ ap (or_now (group l).now) (nothing_disjoined l h k)

grouped_implies : (l r : Operands) → Lacks implies l → formula_of (beside l implies r) ≡ implies_ (formula_of l) (formula_of r)
grouped_implies l r h = ap whole (group_implies l r h) ∙ ap (λ (w : Written). implies_ w (formula_of r)) (sym (grouped_disjunction l h))

grouped_disjoins : (l r : Operands) → Lacks implies (beside l disjoins r) → Lacks disjoins l
    → formula_of (beside l disjoins r) ≡ or_ (formula_of l) (formula_of r)
grouped_disjoins l r h k =
    let first = lacks_first implies disjoins l r h in
    let second = lacks_second implies disjoins l r h in
    let left = grouped_now l first k in
    let right = grouped_disjunction r second in
    grouped_disjunction (beside l disjoins r) h ∙ ap disjunction (group_disjoins l r first k)
    ∙ ap (λ (w : Written). or_ w (disjunction (group r))) (sym left) ∙ ap (or_ (formula_of l)) (sym right)

grouped_conjoins : (l r : Operands) → Lacks implies (beside l conjoins r) → Lacks disjoins (beside l conjoins r) → Lacks conjoins l
    → formula_of (beside l conjoins r) ≡ and_ (formula_of l) (formula_of r)
grouped_conjoins (only a) r h k n =
    grouped_now (chain a conjoins r) h k ∙ ap (and_ a) (sym (grouped_now r h.1 k.1))
grouped_conjoins (chain a conjoins l) r h k n = absurd (n.0 refl)
grouped_conjoins (chain a disjoins l) r h k n = absurd (k.0 refl)
grouped_conjoins (chain a implies l) r h k n = absurd (h.0 refl)

-- and each split is that
pub split_grouped : {l : Operands} {w : Written} → IsSplit l w → w ≡ formula_of l
split_grouped IsSplit.single = refl
split_grouped (IsSplit.at_implies {l = l} {r = r} {a = a} {b = b} h s t) =
    let left = split_grouped s in let right = split_grouped t in
    ap (λ (w : Written). implies_ w b) left ∙ ap (implies_ (formula_of l)) right ∙ sym (grouped_implies l r h)
split_grouped (IsSplit.at_disjoins {l = l} {r = r} {a = a} {b = b} h k s t) =
    let left = split_grouped s in let right = split_grouped t in
    ap (λ (w : Written). or_ w b) left ∙ ap (or_ (formula_of l)) right ∙ sym (grouped_disjoins l r h k)
split_grouped (IsSplit.at_conjoins {l = l} {r = r} {a = a} {b = b} h k n s t) =
    let left = split_grouped s in let right = split_grouped t in
    ap (λ (w : Written). and_ w b) left ∙ ap (and_ (formula_of l)) right ∙ sym (grouped_conjoins l r h k n)
