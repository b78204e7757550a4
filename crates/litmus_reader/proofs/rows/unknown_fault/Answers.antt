use Rattle.std.proofs.Common.{refl, arith}
use Rattle.litmus_reader.proofs.RowFacts.{place_in-named, place_in-none, nobody}
use Rattle.litmus_reader.proofs.rows.unknown_fault.Goals as goal

pub returns-then-place_of-before : goal.returns-then-place_of-before
returns-then-place_of-before c = λ kind at h. place_in-named c.args.before.now c.args.end nobody (omega (arith, c.place_of.ensures)) h.0

pub returns : goal.returns
returns c = (place_in-none c.args.before.now c.args.end (omega (arith, c.place_of.ensures)), refl, refl)
