-- What waits in a room in front of a sink, and what a call that puts a text into it keeps.
use Rattle.std.specs.Prelude.{◌≡◌, ◌<◌, ℕ, List, [], Result, ◌++◌, length, OnOk, OnErr, IsTrue}
use Rattle.pc_common.specs.{Faults.{Rose}, Outside.{SinkView}, Waiting.{waiting_bytes}, Writes.{Writes, success}, declared.room.Room.{Room}}

-- the bytes that were put and did not go out
abbrev pub waits : {K : Type 0} → Room K → List ℕ
waits room = waiting_bytes room.waiting

-- the sink after a room, as if what waits had been taken already
abbrev pub room_view : {K : Type 0} → (K → SinkView) → Room K → SinkView
room_view view room =
    record {
      modelled = (view room.out.now).modelled;
      taken = (view room.out.now).taken ++ waits room;
      faults = (view room.out.now).faults;
    }

-- a call that puts a text: the room is written as a sink is, of which all that was put is taken
pub record Puts {K : Type 0} (view : K → SinkView) (old new : Room K) {T E : Type 0} (result : Result T E)
    (text : List ℕ) : Type 0 where
  pub same_sink : new.out.ghost_name ≡ old.out.ghost_name
  pub writes : Writes (room_view view) old new result text
  -- the sink only takes more
  pub grows : IsTrue (view old.out.now).modelled
      → (sent : List ℕ) × ((view new.out.now).taken ≡ (view old.out.now).taken ++ sent)

-- a call that hands on what waits: all of it goes out, or some of it waits on and nothing is lost
pub record Flushes {K : Type 0} (view : K → SinkView) (old new : Room K) {T E : Type 0}
    (result : Result T E) : Type 0 where
  pub puts : Puts view old new success []
  pub cause : OnErr result (Rose (view old.out.now).faults (view new.out.now).faults)
  pub empty : OnOk result (new.waiting.used ≡ 0)
  pub left : OnErr result (0 < length (waits new))
