-- The steps of the code.
use Rattle.lifter.specs.declared.line.Line.{Line, TheVariants.{Derive, Split, False, Cycle, Path, Absent}}
use Rattle.lifted_facts.specs.Lifted.{LiftedStep, derive, split, close, falsity, cycle, path, absent}

abbrev pub plain_line : Line → LiftedStep
plain_line (Derive way k) = derive way k
plain_line (Split k) = split k
plain_line (False k) = close (falsity k)
plain_line (Cycle k ks) = close (cycle k ks)
plain_line (Path k ks denial) = close (path k ks denial)
plain_line (Absent denial k) = close (absent denial k)
