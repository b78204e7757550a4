use Rattle.std.proofs.{Common.{◌≡◌, ◌+◌, [], None, map, take, drop, reverse, sym, subst, arith}, lemmas.Result.{err_from_is_err_and}}
use Rattle.pc_syntax.specs.{Written.{written_item}, MacroFaults.{items_fault}}
use Rattle.macro_expand.{specs.{Faults.{IsFault}, Tables.{item_fault, first_of_names}}, proofs.FaultLaws.{first_kept}}
use Rattle.macro_expand.proofs.ItemWalk.{macros_of_items, next_judged, walked_on}
use Rattle.macro_expand.proofs.items.check_items.Goals as goal

pub returns-in_err-earlier-clause-judged : goal.returns-in_err-earlier-clause-judged
returns-in_err-earlier-clause-judged c =
    let items = c.args.items.now in let i = c.loop-item.item-index in let x = c.item-item.result in
    let answer = c.in_err-earlier.field-0.0 in
    let all = macros_of_items items in
    let here : IsFault (item_fault (first_of_names all) c.loop-item.earlier (written_item x)) answer =
    subst (λ ms. IsFault (item_fault ms c.loop-item.earlier (written_item x)) answer) c.requires.macros c.in_err-earlier.ensures.judged in
    let kept : IsFault (items_fault all [] (map written_item items)) answer =
    subst (λ o. IsFault o answer) (sym (next_judged items i c.loop-item.earlier x (omega arith) c.item-item.is c.loop-item.invariant))
    (first_kept (item_fault (first_of_names all) c.loop-item.earlier (written_item x))
    (items_fault all (reverse (macros_of_items (take (i + 1) items))) (map written_item (drop (i + 1) items))) answer here) in
    let p = err_from_is_err_and c.from_residual.result c.from_residual.ensures.1 in
    rw (p.1, p.2) kept

pub loop-item-preserved : goal.loop-item-preserved
loop-item-preserved c =
    let items = c.args.items.now in let x = c.item-item.result in
    let fine : item_fault (first_of_names (macros_of_items items)) c.loop-item.earlier (written_item x) ≡ None =
    subst (λ ms. item_fault ms c.loop-item.earlier (written_item x) ≡ None) c.requires.macros c.in_ok-earlier.ensures.judged in
    walked_on items c.loop-item.item-index c.loop-item.earlier x (omega arith) c.item-item.is c.loop-item.invariant c.in_ok-earlier.earlier fine
    c.in_ok-earlier.ensures.counted
