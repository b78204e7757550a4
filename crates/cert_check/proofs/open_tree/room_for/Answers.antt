use Rattle.std.{proofs.{Common.{arith}, lemmas.List.Sums.{count_by-le-length}}, specs.Prelude.{◌==◌}}
use Rattle.cert_check.proofs.open_tree.room_for.Goals as goal

pub returns-then-line-le-SHORT : goal.returns-then-line-le-SHORT
returns-then-line-le-SHORT c = omega (arith, count_by-le-length (λ c. c == 32) c.args.line.now)
