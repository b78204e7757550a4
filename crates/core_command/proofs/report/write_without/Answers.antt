use Rattle.std.proofs.Common.{refl}
use Rattle.pc_common.proofs.Writes.{writes_then, writes_stop}
use Rattle.core_command.specs.Found.{graph_text}
use Rattle.core_command.proofs.report.write_without.Goals as goal

pub returns-in_err-write_line : goal.returns-in_err-write_line
returns-in_err-write_line g c = writes_stop (graph_text c.args.shown.now) refl c.from_residual.ensures.0 c.in_err-write_line.ensures

pub returns : goal.returns
returns g c = writes_then refl c.in_ok-write_line.ensures c.write_shown.ensures
