use Rattle.top_call.proofs.OneVerdict.{one_status}
use Rattle.top_call.proofs.laws.written_is_verified.Goals as goal

pub returns : goal.returns
returns c = one_status
