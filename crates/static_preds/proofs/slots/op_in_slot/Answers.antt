use Rattle.std.proofs.Common.{Some, ap, ◌∙◌}
use Rattle.pc_syntax.specs.{declared.term.Sort.TheVariants.{Microop}, Truth.{op_of}, Closed.{meaning_of}}
use Rattle.static_preds.{specs.Values.{sort_bound}, proofs.SlotValues.{slot_within, sort_in_slot, meaning_in_slot}}
use Rattle.static_preds.proofs.slots.op_in_slot.Goals as goal

pub value_in_slot-requires : goal.value_in_slot-requires
value_in_slot-requires c = slot_within c.args.env.now.items c.args.slot Microop c.requires

pub unreachable-requires : goal.unreachable-requires
unreachable-requires c =
    let is_op = sort_in_slot c.args.env.now.items c.args.slot c.value_in_slot.result Microop c.value_in_slot.ensures c.requires in
    let is_core = ap sort_bound c.in-Core.is in
    cc (is_op, is_core)

pub returns-clause-value : goal.returns-clause-value
returns-clause-value c =
    ap (λ m. op_of (Some m)) (meaning_in_slot c.args.env.now.items c.args.slot c.value_in_slot.result c.value_in_slot.ensures)
    ∙ ap (λ b. op_of (Some (meaning_of b))) c.in-Op.is

pub returns-clause-range : goal.returns-clause-range
returns-clause-range c = λ d all. all.ops c.args.slot c.in-Op.place (c.value_in_slot.ensures ∙ ap Some c.in-Op.is)
