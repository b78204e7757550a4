use Rattle.std.proofs.Common.{List, subst, sym, ◌∙◌}
use Rattle.pc_common.specs.{declared.place.Place.{Place}, Case.{Expectation}}
use Rattle.litmus_reader.specs.{Content.{IsFaultOf, HeadFault, ActionFault, First, Unknown, AgainExpected}, Rows.{Answers}, declared.item.Head.{Head}}
use Rattle.litmus_reader.specs.declared.item.Item.{Item}
use Rattle.litmus_reader.proofs.builder.CaseBuilder.fault.Goals as goal

pub returns-in-Microop : goal.returns-in-Microop
returns-in-Microop c = λ before k.
    subst (λ (i : Item). Answers (IsFaultOf before i) c.microop_fault.result) (sym c.in-Microop.is)
    (subst (λ (hs : List Head). Answers (First (HeadFault hs c.in-Microop.microop.head) (ActionFault c.in-Microop.microop.action))
    c.microop_fault.result) (c.deref.ensures.value ∙ k.heads) c.microop_fault.ensures)

pub returns-in-Relationship : goal.returns-in-Relationship
returns-in-Relationship c = λ before k.
    let r = c.in-Relationship.line in
    subst (λ (i : Item). Answers (IsFaultOf before i) c.relationship_fault.result) (sym c.in-Relationship.is)
    (subst (λ (hs : List Head). Answers (First (Unknown hs r.source) (Unknown hs r.target)) c.relationship_fault.result)
    (c.deref-in-Relationship.ensures.value ∙ k.heads) c.relationship_fault.ensures)

pub returns-in-Initial : goal.returns-in-Initial
returns-in-Initial c = λ before k.
    subst (λ (i : Item). Answers (IsFaultOf before i) c.value_fault.result) (sym c.in-Initial.is) (c.value_fault.ensures _ k.initial)

pub returns-in-Final : goal.returns-in-Final
returns-in-Final c = λ before k.
    subst (λ (i : Item). Answers (IsFaultOf before i) c.value_fault-in-Final.result) (sym c.in-Final.is) (c.value_fault-in-Final.ensures _ k.final_values)

pub returns-in-Permitted : goal.returns-in-Permitted
returns-in-Permitted c = λ before k.
    subst (λ (i : Item). Answers (IsFaultOf before i) c.expectation_fault.result) (sym c.in-Permitted.is)
    (subst (λ (es : List (Expectation × Place)). Answers (AgainExpected es c.in-Permitted.at) c.expectation_fault.result)
    k.expected c.expectation_fault.ensures)

pub returns-in-Forbidden : goal.returns-in-Forbidden
returns-in-Forbidden c = λ before k.
    subst (λ (i : Item). Answers (IsFaultOf before i) c.expectation_fault-in-Forbidden.result) (sym c.in-Forbidden.is)
    (subst (λ (es : List (Expectation × Place)). Answers (AgainExpected es c.in-Forbidden.at) c.expectation_fault-in-Forbidden.result)
    k.expected c.expectation_fault-in-Forbidden.ensures)
