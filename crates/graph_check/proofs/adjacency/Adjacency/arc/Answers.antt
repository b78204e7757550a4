use Rattle.std.proofs.{Common.{◌≡◌, ◌≤◌, ◌-◌, ◌⊎◌, ℕ, length, refl, subst, arith}, lemmas.Option.{slice_get_read}}
use Rattle.graph_check.{specs.Arcs.{Arcs, Joins, IsWalk, ComesTo}, proofs.Links.{walk_on, walk_rest}}
use Rattle.graph_check.proofs.adjacency.Adjacency.arc.Goals as goal

pub returns-clause-walk : goal.returns-clause-walk
returns-clause-walk c =
    let x = c.index.result.now in let items = c.self.inside.arcs.items in
    let P : Arcs → Type 0 = λ v. c.args.at ≤ length v.arcs → (a : ℕ) → IsWalk v a c.args.at → IsWalk v a x.before × Joins v a x.to in
    subst P c.self.view_is
    (λ low. walk_on (record { heads = c.self.inside.heads.items; arcs = items }) c.args.at x c.self.invariant c.requires.some
    (slice_get_read items (length items) (c.args.at - 1) x refl (omega (arith, low, c.requires.some)) c.index.ensures))
    c.requires.low

pub returns-clause-rest : goal.returns-clause-rest
returns-clause-rest c =
    let x = c.index.result.now in let items = c.self.inside.arcs.items in
    let P : Arcs → Type 0 = λ v. c.args.at ≤ length v.arcs → (b : ℕ) → ComesTo v c.args.at b → (x.to ≡ b) ⊎ ComesTo v x.before b in
    subst P c.self.view_is
    (λ low. walk_rest (record { heads = c.self.inside.heads.items; arcs = items }) c.args.at x c.requires.some
    (slice_get_read items (length items) (c.args.at - 1) x refl (omega (arith, low, c.requires.some)) c.index.ensures))
    c.requires.low
