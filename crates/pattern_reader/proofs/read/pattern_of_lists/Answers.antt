use Rattle.std.proofs.{Common.{rules, arith}, lemmas.Result.{err_from_is_err_and}}
use Rattle.litmus_reader.specs.Lists.{case_by}
use Rattle.pattern_reader.proofs.Building.{read_none, next_read, too_many_here, all_read, pattern_made, pattern_is}
use Rattle.pattern_reader.proofs.read.pattern_of_lists.Goals as goal

pub loop-k-init : goal.loop-k-init
loop-k-init c = read_none (case_by c.args.lists) c.new-reads.result.items (search rules)

pub add_read-requires : goal.add_read-requires
add_read-requires c = c.loop-k.invariant.few

pub returns-in_err-rows-clause-err : goal.returns-in_err-rows-clause-err
returns-in_err-rows-clause-err c =
    let end = err_from_is_err_and c.from_residual.result c.from_residual.ensures.1 in
    let opens = c.args.opens.now in
    let own = c.nth.ensures in
    rw (end.1, end.2)
    (λ some. too_many_here (case_by c.args.lists) c.loop-k.reads.items c.loop-k.rows opens c.loop-k.k c.nth.result c.in_err-rows.field-0.0 own
    c.loop-k.invariant (c.in_err-rows.ensures.err some))

pub loop-k-preserved : goal.loop-k-preserved
loop-k-preserved c =
    let opens = c.args.opens.now in
    let own = c.nth.ensures in
    next_read (case_by c.args.lists) c.loop-k.reads.items c.add_read.new.reads.items c.loop-k.rows c.in_ok-rows.rows opens c.loop-k.k c.nth.result own
    c.loop-k.invariant c.in_ok-rows.ensures.ok

pub new-requires : goal.new-requires
new-requires c =
    pattern_made c.args.lists c.loop-k.reads.items c.loop-k.rows c.args.opens.now c.requires.lists c.requires.few_opens
    (all_read (case_by c.args.lists) c.loop-k.reads.items c.loop-k.rows c.args.opens.now c.loop-k.k (omega arith) c.loop-k.invariant)

pub returns-clause-ok : goal.returns-clause-ok
returns-clause-ok c =
    pattern_is c.args.lists c.loop-k.reads.items c.loop-k.rows c.args.opens.now c.new.result
    (all_read (case_by c.args.lists) c.loop-k.reads.items c.loop-k.rows c.args.opens.now c.loop-k.k (omega arith) c.loop-k.invariant) c.new.ensures
