-- What a call makes of an object's counts, and whether it is to fail.
use Rattle.std.specs.Prelude.{Bool, if◌then◌else◌}
use Rattle.pc_common.specs.{Faults.{is_listed, one_more}, declared.schedule.Schedule.{Schedule}}

-- the next call is among those that fail
abbrev pub is_next_listed : Schedule → Bool
is_next_listed s = is_listed s.fails (one_more s.calls)

-- one call more, and one fault more where it did not go well
abbrev pub after_call : Schedule → Bool → Schedule
after_call s went_well =
    record s { calls = one_more s.calls; faults = if went_well then s.faults else one_more s.faults }
