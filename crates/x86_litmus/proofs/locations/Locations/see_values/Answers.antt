use Rattle.std.proofs.Common.{List, ℕ, ap, sym, ◌∙◌}
use Rattle.x86_litmus.{specs.Cases.{seen, seen_value}, proofs.Loops.{fold_at}}
use Rattle.x86_litmus.proofs.locations.Locations.see_values.Goals as goal

pub loop-k-preserved : goal.loop-k-preserved
loop-k-preserved c =
    let e = c.entry.result in
    c.in_ok-see.ensures ∙ ap (λ (ws : List (List ℕ)). seen ws e.0.now) c.loop-k.invariant
    ∙ sym (fold_at seen_value c.args.self.now c.args.values.now c.loop-k.k (e.0.now, e.1) c.entry.ensures)
