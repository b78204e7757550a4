-- What a sink in memory has room for.
use Rattle.std.specs.Prelude.{ℕ, Bool, List, ◌-◌, ◌==◌, ◌||◌, length, nat_lt, vec_len}
use Rattle.pc_common.specs.declared.mem_sink.MemSink.{MemSink}

-- how many bytes more it can take
abbrev pub room_left : MemSink → ℕ
room_left sink = vec_len sink.room - sink.used

-- it can take a byte of the piece, or the piece has none
abbrev pub has_room_for : MemSink → List ℕ → Bool
has_room_for sink piece = length piece == 0 || nat_lt sink.used (vec_len sink.room)
