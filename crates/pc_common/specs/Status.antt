-- The exit number of each status.
use Rattle.std.specs.Prelude.{ℕ}
use Rattle.pc_common.specs.declared.status.Status.{Status}
use Rattle.pc_common.specs.declared.status.Status.TheVariants.{Observable, Unobservable, Done, Usage, Refused, ReadFault, WriteFault, CertRefused, Memory}

abbrev pub status_number : Status → ℕ
status_number Observable = 0
status_number Unobservable = 1
status_number Done = 0
status_number Usage = 2
status_number Refused = 3
status_number ReadFault = 4
status_number WriteFault = 5
status_number CertRefused = 6
status_number Memory = 7
