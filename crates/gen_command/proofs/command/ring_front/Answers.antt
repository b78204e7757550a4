use Rattle.std.proofs.Common.{◌≤◌, ◌∙◌, ℕ, List, length, sym, subst}
use Rattle.pc_front.specs.declared.limits.TheConstants.{MAX_FILE}
use Rattle.gen_command.{specs.Ring.{ring_model, ring_test}, proofs.{TextSizes.{ring_short}, ReportedRings.{front_moved}}}
use Rattle.gen_command.proofs.command.ring_front.Goals as goal

pub front_of-requires-clause-second_short : goal.front_of-requires-clause-second_short
front_of-requires-clause-second_short c =
    let P : List ℕ → Type 0 = λ t. length t ≤ MAX_FILE in
    subst P (sym (c.deref-in-Ok.ensures.value ∙ c.in-Ok.ensures.1)) (ring_short c.args.n c.requires.1)

pub returns-in-Ok : goal.returns-in-Ok
returns-in-Ok c =
    front_moved c.front_of.result c.deref.result.now c.deref-in-Ok.result.now ring_model (ring_test c.args.n)
    (c.deref.ensures.value ∙ c.in-Ok.ensures.0) (c.deref-in-Ok.ensures.value ∙ c.in-Ok.ensures.1) c.front_of.ensures
