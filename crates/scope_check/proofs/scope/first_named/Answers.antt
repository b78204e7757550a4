use Rattle.std.proofs.Common.{sym, ◌∙◌}
use Rattle.scope_check.proofs.ScopeLists.{named_here, named_later, none_named}
use Rattle.scope_check.proofs.scope.first_named.Goals as goal

pub returns-then-eq : goal.returns-then-eq
returns-then-eq c =
    sym (c.loop-k.invariant ∙ named_here c.args.variables.now c.args.name.now c.loop-k.k _ c.loop-k-test.true c.if-eq.ensures)

pub loop-k-preserved : goal.loop-k-preserved
loop-k-preserved c =
    c.loop-k.invariant ∙ named_later c.args.variables.now c.args.name.now c.loop-k.k _ c.loop-k-test.true c.if-eq.ensures

pub returns : goal.returns
returns c = sym (c.loop-k.invariant ∙ none_named c.args.variables.now c.args.name.now c.loop-k.k c.loop-k-test.false)
