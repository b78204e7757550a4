use Rattle.std.proofs.{Common.{◌++◌, ◌∷◌, [], List, ap, sym, ◌∙◌, subst}, lemmas.List.{map-append}}
use Rattle.pc_syntax.specs.{declared.{term.Sort.{Sort}, bound.Bound.{Bound}}, Closed.{plain_closed}, IsClosed.{IsClosed}}
use Rattle.static_preds.{specs.{Slots.{AreInRange}, Values.{sort_bound, scope_of}}, proofs.SlotLaws.{slot_more}}
use Rattle.lifted_facts.proofs.inside.at_place.Goals as goal

pub returns-clause-proper : goal.returns-clause-proper
returns-clause-proper c =
    let slots = c.args.said.now.env.items in let v = c.in_ok-value.value in
    let P : List Sort → Type 0 = λ ss. IsClosed ss (plain_closed c.args.body.now) in
    let R : List Bound → Type 0 = λ bs. AreInRange c.args.case.now bs in
    let scope = ap scope_of c.with_value.ensures ∙ map-append sort_bound slots (v ∷ []) ∙ ap (λ s. scope_of slots ++ s ∷ []) c.in_ok-value.ensures.sort in (
      subst P (sym scope) c.requires.closed,
      subst R (sym c.with_value.ensures) (slot_more c.args.case.now slots v c.requires.range c.in_ok-value.ensures.range),
    )
