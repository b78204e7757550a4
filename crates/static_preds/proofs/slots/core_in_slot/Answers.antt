use Rattle.std.proofs.Common.{Some, ap, subst, ◌∙◌}
use Rattle.pc_syntax.specs.declared.{term.Sort.TheVariants.{Core}, pred.Takes.TheVariants.{Core as takes_core}}
use Rattle.pc_syntax.specs.{Truth.{core_of}, Closed.{meaning_of, closed_value}, IsClosed.{FitsArg}}
use Rattle.static_preds.{specs.Values.{sort_bound, scope_of, meanings}, proofs.SlotValues.{slot_within, sort_in_slot, meaning_in_slot}}
use Rattle.static_preds.proofs.slots.core_in_slot.Goals as goal

pub value_in_slot-requires : goal.value_in_slot-requires
value_in_slot-requires c =
    let env = c.args.env.now.items in
    slot_within env c.in-Slot.slot Core (subst (FitsArg (scope_of env) takes_core) c.in-Slot.is c.requires)

pub unreachable-requires : goal.unreachable-requires
unreachable-requires c =
    let env = c.args.env.now.items in
    let is_core = sort_in_slot env c.in-Slot.slot c.value_in_slot.result Core c.value_in_slot.ensures
    (subst (FitsArg (scope_of env) takes_core) c.in-Slot.is c.requires) in
    let is_op = ap sort_bound c.in-Op.is in
    cc (is_core, is_op)

pub unreachable-requires-in-Plain : goal.unreachable-requires-in-Plain
unreachable-requires-in-Plain c = subst (FitsArg (scope_of c.args.env.now.items) takes_core) c.in-Plain.is c.requires

pub returns-in-Core-value_in_slot-clause-value : goal.returns-in-Core-value_in_slot-clause-value
returns-in-Core-value_in_slot-clause-value c =
    let env = c.args.env.now.items in
    ap (λ a. core_of (Some (closed_value (meanings env) a))) c.in-Slot.is
    ∙ ap (λ m. core_of (Some m)) (meaning_in_slot env c.in-Slot.slot c.value_in_slot.result c.value_in_slot.ensures)
    ∙ ap (λ b. core_of (Some (meaning_of b))) c.in-Core-value_in_slot.is

pub returns-in-Core-value_in_slot-clause-range : goal.returns-in-Core-value_in_slot-clause-range
returns-in-Core-value_in_slot-clause-range c =
    λ d all. all.cores c.in-Slot.slot c.in-Core-value_in_slot.core (c.value_in_slot.ensures ∙ ap Some c.in-Core-value_in_slot.is)

pub returns-in-Core : goal.returns-in-Core
returns-in-Core c =
    record {
      value = ap (λ a. core_of (Some (closed_value (meanings c.args.env.now.items) a))) c.in-Core.is;
      range = λ d all. subst (FitsArg (scope_of c.args.env.now.items) takes_core) c.in-Core.is c.requires;
    }
