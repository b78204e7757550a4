use Rattle.std.proofs.{Common.{Result, IfErr, subst, sym, arith}, lemmas.Result.{err_from_is_err_and}}
use Rattle.litmus_reader.specs.{Answer.{IsContentFaultIn}, Builder.{IsLineFault}, declared.fault.CaseFault.{CaseFault}}
use Rattle.litmus_reader.proofs.Walk.{reached-first, reached-item, read_line, reached-next, content_fault-of, reached-end}
use Rattle.litmus_reader.proofs.read.read_lines.Goals as goal

pub loop-at-init : goal.loop-at-init
loop-at-init c = reached-first c.args.tokens.now c.args.builder.now c.requires.test c.requires.first

pub item_at-requires-clause-begins : goal.item_at-requires-clause-begins
item_at-requires-clause-begins c = reached-item c.loop-at.invariant (omega arith)

pub add-requires : goal.add-requires
add-requires c =
    let r = c.loop-at.invariant in (r.before, r.keeps, r.clean)

pub returns-in_err-add-clause-err : goal.returns-in_err-add-clause-err
returns-in_err-add-clause-err c =
    let r = c.loop-at.invariant in
    let s = read_line r (omega arith) c.in_ok-item.item c.in_ok-item.next c.in_ok-item.ensures in
    let (fault, is, same) = err_from_is_err_and c.from_residual-in_err-add.result c.from_residual-in_err-add.ensures.1 in
    subst (λ (result : Result Unit CaseFault). IfErr result (IsContentFaultIn c.args.tokens.now)) (sym is)
    (content_fault-of r c.in_ok-item.item c.in_ok-item.next s fault
    (subst (IsLineFault r.before c.in_ok-item.item) (sym same) (c.in_err-add.ensures.err r.before r.keeps)))

pub loop-at-smaller : goal.loop-at-smaller
loop-at-smaller c =
    let r = c.loop-at.invariant in
    let s = read_line r (omega arith) c.in_ok-item.item c.in_ok-item.next c.in_ok-item.ensures in
    omega (arith, s.rises, s.within)

pub loop-at-preserved : goal.loop-at-preserved
loop-at-preserved c =
    let r = c.loop-at.invariant in
    let s = read_line r (omega arith) c.in_ok-item.item c.in_ok-item.next c.in_ok-item.ensures in
    let (never, keeps) = c.in_ok-add.ensures.ok r.before r.keeps r.clean in
    reached-next r c.in_ok-item.item c.in_ok-item.next s c.add.new.self never keeps

pub returns-clause-ok : goal.returns-clause-ok
returns-clause-ok c =
    let r = c.loop-at.invariant in (r.before, reached-end r (omega arith), r.clean, r.keeps)
