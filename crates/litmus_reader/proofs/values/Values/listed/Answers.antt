use Rattle.std.proofs.{Common.{◌≡◌, List, [], ◌∷◌, ◌++◌, take, get_or, ap, sym, ◌∙◌, arith}, lemmas.{List.{take_more}, Option.{get_or_from_slice_get}}}
use Rattle.pc_case.specs.declared.stated.Stated.{Stated}
use Rattle.litmus_reader.proofs.values.Values.listed.Goals as goal

pub loop-k-preserved : goal.loop-k-preserved
loop-k-preserved c =
    let lines = c.args.self.now in
    let x = c.line_at.result in
    let here : get_or lines c.loop-k.k x ≡ x = get_or_from_slice_get lines c.loop-k.k x x c.line_at.ensures in
    c.in_ok-push.ensures
    ∙ ap (λ (ls : List Stated). ls ++ x ∷ []) c.loop-k.invariant
    ∙ ap (λ (y : Stated). take c.loop-k.k lines ++ y ∷ []) (sym here)
    ∙ sym (take_more lines c.loop-k.k x (omega arith))
