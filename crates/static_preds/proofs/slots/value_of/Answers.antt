use Rattle.std.proofs.Common.{ap, subst, sym, ◌∙◌}
use Rattle.pc_syntax.specs.{Closed.{closed_value}, IsClosed.{HasValue, sort_of}}
use Rattle.static_preds.{specs.Values.{scope_of, meanings}, proofs.SlotValues.{has_slot, sort_there, meaning_in_slot, slot_in_range}}
use Rattle.static_preds.proofs.slots.value_of.Goals as goal

pub value_in_slot-requires : goal.value_in_slot-requires
value_in_slot-requires c =
    let env = c.args.env.now.items in
    has_slot env c.in-Slot.slot (subst (HasValue (scope_of env)) c.in-Slot.is c.requires)

pub unreachable-requires : goal.unreachable-requires
unreachable-requires c = subst (HasValue (scope_of c.args.env.now.items)) c.in-Plain.is c.requires

pub returns-in-Slot : goal.returns-in-Slot
returns-in-Slot c =
    let env = c.args.env.now.items in let there = c.value_in_slot.ensures in let b = c.value_in_slot.result in
    record {
      value = sym (ap (closed_value (meanings env)) c.in-Slot.is ∙ meaning_in_slot env c.in-Slot.slot b there);
      sort = sym (ap (sort_of (scope_of env)) c.in-Slot.is ∙ sort_there env c.in-Slot.slot b there);
      range = λ d all. slot_in_range d env c.in-Slot.slot b all there;
    }

pub returns-in-Core : goal.returns-in-Core
returns-in-Core c =
    let env = c.args.env.now.items in
    record {
      value = sym (ap (closed_value (meanings env)) c.in-Core.is);
      sort = sym (ap (sort_of (scope_of env)) c.in-Core.is);
      range = λ d all. subst (HasValue (scope_of env)) c.in-Core.is c.requires;
    }
