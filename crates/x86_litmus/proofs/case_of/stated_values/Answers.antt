use Rattle.std.proofs.{Common.{List, ℕ, [], ◌∷◌, ◌++◌, map, ap, sym, ◌∙◌}, lemmas.List.{map-append}}
use Rattle.pc_common.specs.Case.{number}
use Rattle.pc_case.specs.Plain.{stated_value}
use Rattle.x86_litmus.{specs.Cases.{address_of, number_of}, proofs.Loops.{map_at}}
use Rattle.x86_litmus.proofs.case_of.stated_values.Goals as goal

pub loop-k-preserved : goal.loop-k-preserved
loop-k-preserved c =
    let e = c.entry-value.result in
    let words = c.args.locations.now in
    ap (map stated_value) c.in_ok-push.ensures
    ∙ map-append stated_value c.loop-k.lines _
    ∙ (λ i. c.loop-k.invariant i ++ (address_of (c.number.ensures i), number e.1) ∷ [])
    ∙ sym (map_at (λ (x : List ℕ × ℕ). (address_of (number_of words x.0), number x.1)) c.args.values.now c.loop-k.k (e.0.now, e.1) c.entry-value.ensures)
