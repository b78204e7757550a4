use Rattle.std.proofs.{Common.{◌≡◌, ◌<◌, ◌⊎◌, ◌∷◌, [], ℕ, length, sym, ◌∙◌, ap, subst, arith}, lemmas.{List.{length-append}, Grind.{get_or_default_zero}}}
use Rattle.std.specs.Prelude.{◌↔◌}
use Rattle.graph_check.{specs.Arcs.{Arcs, Joins, AreLinked}, proofs.Links.{linked_more, joins_more, entered_so}}
use Rattle.graph_check.proofs.adjacency.Adjacency.push.Goals as goal

pub invariant_of-self-2 : goal.invariant_of-self-2
invariant_of-self-2 c =
    let v : Arcs = record { heads = c.self.inside.heads.items; arcs = c.self.inside.arcs.items } in
    let P : Arcs → Type 0 = λ u. c.args.from < length u.heads in
    let Q : Arcs → Type 0 = λ u. c.args.to < length u.heads in
    let from_in = subst P (sym c.self.view_is) c.requires.from in
    entered_so AreLinked v c.args.from c.args.to c.index-before.result.now c.len.result c.push.new.self.items
    (c.index-before.ensures ∙ get_or_default_zero c.self.inside.heads.items c.args.from c.index-before.result.now from_in)
    (let n = ap length c.in_ok-push.ensures.items in
    let m = length-append c.self.inside.arcs.items (record { from = c.args.from; to = c.args.to; before = c.index-before.result.now } ∷ []) in
    omega (arith, c.len.ensures, n, m))
    c.in_ok-push.ensures.items
    (linked_more v c.args.from c.args.to from_in (subst Q (sym c.self.view_is) c.requires.to) c.self.invariant)

pub returns-clause-joins : goal.returns-clause-joins
returns-clause-joins c =
    let v : Arcs = record { heads = c.self.inside.heads.items; arcs = c.self.inside.arcs.items } in
    let P : Arcs → Type 0 = λ u. c.args.from < length u.heads in
    let Q : Arcs → Type 0 = λ u. c.args.to < length u.heads in
    let R : Arcs → Type 0 = λ u. (a b : ℕ) → Joins u a b ↔ (Joins v a b ⊎ ((a ≡ c.args.from) × (b ≡ c.args.to))) in
    let from_in = subst P (sym c.self.view_is) c.requires.from in
    rw (sym c.self.view_is) (entered_so R v c.args.from c.args.to c.index-before.result.now c.len.result c.push.new.self.items
    (c.index-before.ensures ∙ get_or_default_zero c.self.inside.heads.items c.args.from c.index-before.result.now from_in)
    (let n = ap length c.in_ok-push.ensures.items in
    let m = length-append c.self.inside.arcs.items (record { from = c.args.from; to = c.args.to; before = c.index-before.result.now } ∷ []) in
    omega (arith, c.len.ensures, n, m))
    c.in_ok-push.ensures.items
    (joins_more v c.args.from c.args.to from_in (subst Q (sym c.self.view_is) c.requires.to)))

pub returns-clause-linked : goal.returns-clause-linked
returns-clause-linked c =
    let v : Arcs = record { heads = c.self.inside.heads.items; arcs = c.self.inside.arcs.items } in
    let P : Arcs → Type 0 = λ u. c.args.from < length u.heads in
    let Q : Arcs → Type 0 = λ u. c.args.to < length u.heads in
    let from_in = subst P (sym c.self.view_is) c.requires.from in
    entered_so AreLinked v c.args.from c.args.to c.index-before.result.now c.len.result c.push.new.self.items
    (c.index-before.ensures ∙ get_or_default_zero c.self.inside.heads.items c.args.from c.index-before.result.now from_in)
    (let n = ap length c.in_ok-push.ensures.items in
    let m = length-append c.self.inside.arcs.items (record { from = c.args.from; to = c.args.to; before = c.index-before.result.now } ∷ []) in
    omega (arith, c.len.ensures, n, m))
    c.in_ok-push.ensures.items
    (linked_more v c.args.from c.args.to from_in (subst Q (sym c.self.view_is) c.requires.to) c.self.invariant)
