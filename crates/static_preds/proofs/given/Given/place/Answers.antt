use Rattle.std.proofs.Common.{◌≡◌, Some, length}
use Rattle.pc_syntax.specs.{Arguments.{place_in}, Predicates.{takes_of}}
use Rattle.static_preds.{specs.Values.{values_of, scope_of}, proofs.GivenLaws.{slot_given, place_is, place_below}}
use Rattle.static_preds.proofs.given.Given.place.Goals as goal

pub op_in_slot-requires : goal.op_in_slot-requires
op_in_slot-requires c =
    let g = c.args.self.now in
    (slot_given (scope_of g.env.now.items) (takes_of g.pred) g.args.now c.args.k c.in-Slot.slot c.index-self-k.result
    c.requires.given.fit c.requires.taken c.in-Slot.is).1

pub returns-clause-value : goal.returns-clause-value
returns-clause-value c =
    let g = c.args.self.now in
    let at = slot_given (scope_of g.env.now.items) (takes_of g.pred) g.args.now c.args.k c.in-Slot.slot c.index-self-k.result
    c.requires.given.fit c.requires.taken c.in-Slot.is in
    place_is g.env.now.items g.args.now c.args.k c.in-Slot.slot c.op_in_slot.result at.0 c.op_in_slot.ensures.value

pub returns-clause-below : goal.returns-clause-below
returns-clause-below c =
    let g = c.args.self.now in
    let at = slot_given (scope_of g.env.now.items) (takes_of g.pred) g.args.now c.args.k c.in-Slot.slot c.index-self-k.result
    c.requires.given.fit c.requires.taken c.in-Slot.is in
    let is : place_in (values_of g.env.now.items g.args.now) c.args.k ≡ Some c.op_in_slot.result =
    place_is g.env.now.items g.args.now c.args.k c.in-Slot.slot c.op_in_slot.result at.0 c.op_in_slot.ensures.value in
    place_below (length g.case.now.ops) (values_of g.env.now.items g.args.now) c.args.k c.op_in_slot.result c.requires.given.below is
