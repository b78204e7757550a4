use Rattle.std.proofs.Common.{subst, arith, ◌<◌, length}
use Rattle.pc_common.specs.Lines.{Names}
use Rattle.pc_ground.specs.NodeForm.{AreReadable}
use Rattle.cert_check.proofs.Shown.{asked_of}
use Rattle.cert_check.proofs.next.show_asked.Goals as goal

pub returns : goal.returns
returns c = λ same.
    let small : length c.args.front.now.tree < 9223372036854775808 = (let b = c.len-positions.ensures.bound in omega arith) in
    asked_of c.args.front.now (let P : Names → Type 0 = λ ns. AreReadable ns in subst P same c.show_readable.ensures) c.ops-ops.ensures.kept small
