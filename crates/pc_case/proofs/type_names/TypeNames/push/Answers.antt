use Rattle.std.proofs.Common.{◌∷◌, ◌++◌, [], ◌∙◌, ap}
use Rattle.pc_case.proofs.Pieces.{one_more_cut, one_more_held}
use Rattle.pc_case.proofs.type_names.TypeNames.push.Goals as goal

pub invariant_of-self-2 : goal.invariant_of-self-2
invariant_of-self-2 c =
    let name = c.args.name.now in let bytes = c.extend_from_slice.new.self in let old = c.self.inside in
    one_more_held old.bytes.items name old.ends.items bytes.items c.push.new.self.items
    (c.in_ok-extend_from_slice.ensures.items ∙ ap (λ bs. bs ++ name) c.reserve.ensures.items)
    (c.in_ok-push.ensures.items ∙ (λ i. c.reserve-2.ensures.items i ++ (c.len.ensures ∙ bytes.ok.0) i ∷ []))
    c.self.invariant.0 old.known c.add.new.self c.in_ok-add.ensures c.self.invariant.1

pub returns : goal.returns
returns c =
    let name = c.args.name.now in let bytes = c.extend_from_slice.new.self in let old = c.self.inside in
    one_more_cut old.bytes.items name old.ends.items bytes.items c.push.new.self.items
    (c.in_ok-extend_from_slice.ensures.items ∙ ap (λ bs. bs ++ name) c.reserve.ensures.items)
    (c.in_ok-push.ensures.items ∙ (λ i. c.reserve-2.ensures.items i ++ (c.len.ensures ∙ bytes.ok.0) i ∷ []))
    c.self.invariant.0
    ∙ ap (λ names. names ++ name ∷ []) c.self.view_is
