-- The bytes that wait in front of a sink.
use Rattle.std.specs.Prelude.{ℕ, List, take, drop}
use Rattle.pc_common.specs.declared.waiting.Waiting.{Waiting}

abbrev pub waiting_bytes : Waiting → List ℕ
waiting_bytes w = drop w.from (take w.used w.bytes)
