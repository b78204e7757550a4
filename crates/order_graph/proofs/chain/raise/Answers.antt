use Rattle.std.proofs.Common.{refl, arith}
use Rattle.order_graph.specs.Levels.{fresh, nearer, known}
use Rattle.order_graph.proofs.chain.raise.Goals as goal

pub overflow_add-level : goal.overflow_add-level
overflow_add-level c = let low = c.requires.low in omega arith

pub returns-then-levels-from : goal.returns-then-levels-from
returns-then-levels-from c = fresh c.if-levels-from.true refl refl c.in_ok-push.ensures.items

pub returns-then-to-nexts : goal.returns-then-to-nexts
returns-then-to-nexts c = nearer c.if-levels-from-2.true refl refl refl

pub returns : goal.returns
returns c = known c.if-levels-from.false refl refl refl
