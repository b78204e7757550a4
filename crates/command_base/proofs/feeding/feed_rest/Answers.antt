use Rattle.std.proofs.Common.{rules, arith, drop, take}
use Rattle.command_base.proofs.PieceByPiece.{took_none, took_read, took_all, took_most}
use Rattle.command_base.proofs.feeding.feed_rest.Goals as goal

pub loop-left-init : goal.loop-left-init
loop-left-init g c = record {
  room = c.requires.room;
  started = c.requires.started;
  same_modelled = search rules;
  same_held = search rules;
  same_failing = search rules;
  count = omega arith;
  most = omega arith;
  took = λ told. took_none g.C.TextCheck.is_fed c.args.checker c.args.limit (g.F.Files.view c.args.files.now).left;
}

pub loop-left-preserved : goal.loop-left-preserved
loop-left-preserved g c = record {
  room = search rules;
  started = search rules;
  same_modelled = search rules;
  same_held = search rules;
  same_failing = search rules;
  count = (let a = c.read.ensures.count in let b = c.loop-left.invariant.count in omega arith);
  most = (let a = c.loop-left.invariant.most in omega arith);
  took = λ told. took_read g.C.TextCheck.is_fed (c.loop-left.invariant.took told) c.in_ok-n.n c.read.new.buf
      (drop c.min-most.result c.loop-left.buf) (c.in_ok-n.ensures.bytes (rw c.loop-left.invariant.same_modelled told))
      (search rules) (search rules) c.in_ok-checker.ensures.took;
}

pub returns-then-n-eq0-clause-took : goal.returns-then-n-eq0-clause-took
returns-then-n-eq0-clause-took g c = λ told. took_all g.C.TextCheck.is_fed (c.loop-left.invariant.took told) (take c.in_ok-n.n c.read.new.buf)
    (c.in_ok-n.ensures.bytes (rw c.loop-left.invariant.same_modelled told))
    (c.in_ok-n.ensures.end (rw c.loop-left.invariant.same_modelled told) (search rules) (search rules))

pub returns-clause-took : goal.returns-clause-took
returns-clause-took g c = λ told. took_most g.C.TextCheck.is_fed (c.loop-left.invariant.took told) (search rules)
