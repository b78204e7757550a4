use Rattle.std.{proofs.Common.{◌≡◌, ◌∙◌, reverse, sym, arith}, specs.List.{list_all}}
use Rattle.ll_grammar.{specs.Rules.{is_nullable_symbol}, proofs.Progress.{passed, refused, deepened, ended, unended, list_all-reverse}}
use Rattle.ll_grammar.proofs.fault.first_fault.Goals.{then-is_over, else-is_over}
use Rattle.ll_grammar.proofs.fault.first_fault.Goals as goal

pub returns-in-Absent : goal.returns-in-Absent
returns-in-Absent g c =
    refused g.N.Grammar.rules g.N.Grammar.follow c.args.start c.args.classes.now c.loop-at.at (reverse c.loop-at.stack.items)
    c.loop-at.invariant c.index-classes-at.result (reverse c.read.new.stack.items) c.loop-at-test.true c.index-classes-at.is
    g.met.N.Grammar.has_texts (rw c.in-Absent.is at c.in_ok-read.ensures)

pub returns-in-Deep : goal.returns-in-Deep
returns-in-Deep g c =
    deepened g.N.Grammar.rules g.N.Grammar.follow c.args.start c.args.classes.now c.loop-at.at (reverse c.loop-at.stack.items)
    c.loop-at.invariant c.index-classes-at.result (reverse c.read.new.stack.items) c.loop-at-test.true c.index-classes-at.is
    (rw c.in-Deep.is at c.in_ok-read.ensures)

pub loop-at-preserved : goal.loop-at-preserved
loop-at-preserved g c =
    passed g.N.Grammar.rules g.N.Grammar.follow c.args.start c.args.classes.now c.loop-at.at (reverse c.loop-at.stack.items)
    c.loop-at.invariant c.index-classes-at.result (reverse c.read.new.stack.items) c.loop-at-test.true c.index-classes-at.is
    (rw c.in-Pushed.is at c.in_ok-read.ensures)

pub returns : goal.returns
returns g c =
    let table = g.N.Grammar.rules in let follow = g.N.Grammar.follow in let items = c.loop-at.stack.items in
    let same = list_all-reverse (is_nullable_symbol table) items in
    let over : c.is_over.result ≡ list_all (is_nullable_symbol table) items = cc (c.is_over.ensures, c.deref.ensures.value) in
    elim c.if-is_over.branch [
      | then-is_over w ↦
          rw w.result-is
          (ended table follow c.args.start c.args.classes.now c.loop-at.at (reverse items) c.loop-at.invariant
          (omega arith) (same ∙ sym over ∙ w.if-is_over.true))
      | else-is_over w ↦
          rw w.result-is
          (unended table follow c.args.start c.args.classes.now c.loop-at.at (reverse items) c.loop-at.invariant
          (omega arith) g.met.N.Grammar.has_texts (same ∙ sym over ∙ w.if-is_over.false))
    ]
