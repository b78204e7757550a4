use Rattle.std.proofs.Common.{rules, inl, inr, take}
use Rattle.command_base.proofs.PieceByPiece.{none_left, same_left}
use Rattle.verify_command.proofs.reading.read_first.Goals as goal

pub returns-then-n-eq0-clause-bytes : goal.returns-then-n-eq0-clause-bytes
returns-then-n-eq0-clause-bytes g c = λ told.
    same_left (g.F.Files.view c.args.files.now).left c.loop-bytes.bytes.items (take c.in_ok-n.n c.read.new.buf) (g.F.Files.view c.read.new.self).left
    (c.loop-bytes.invariant.bytes told)
    (c.in_ok-n.ensures.bytes (rw c.loop-bytes.invariant.same_modelled told))
    (c.in_ok-n.ensures.end (rw c.loop-bytes.invariant.same_modelled told) (search rules) (search rules))

pub returns-then-n-eq0-clause-enough : goal.returns-then-n-eq0-clause-enough
returns-then-n-eq0-clause-enough g c = λ told.
    inr (none_left (take c.in_ok-n.n c.read.new.buf) (g.F.Files.view c.read.new.self).left
    (c.in_ok-n.ensures.bytes (rw c.loop-bytes.invariant.same_modelled told))
    (c.in_ok-n.ensures.end (rw c.loop-bytes.invariant.same_modelled told) (search rules) (search rules)))

pub returns-clause-enough : goal.returns-clause-enough
returns-clause-enough g c = λ told. inl (search rules)
