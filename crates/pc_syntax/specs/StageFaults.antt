-- The first fault of a model's stages. In a stage its number is judged, then its name.
use Rattle.std.specs.{Prelude.{List, [], ◌∷◌, ◌++◌, Option, Some, None, nat_lt, if◌then◌else◌, option_map}, Option.{option_or}}
use Rattle.pc_common.specs.declared.fault.FaultKind.TheVariants.{StageNumber, StageAgain}
use Rattle.pc_syntax.specs.{declared.{limits.TheConstants.{MAX_STAGE}, model.StageItem.{StageItem}}, Written.{WrittenModel}}
use Rattle.pc_syntax.specs.{Stages.{stage_with_number, stage_with_name}, Fault.{Fault}}

-- the number is over the greatest
abbrev pub number_fault : StageItem → Option Fault
number_fault s = if nat_lt MAX_STAGE s.number then Some (StageNumber s.number, s.number_at) else None

-- an earlier stage has the number
abbrev pub number_again : List StageItem → StageItem → Option Fault
number_again earlier s =
    option_map (λ e. (StageAgain e.number_at s.number_at, s.number_at)) (stage_with_number earlier s.number)

-- an earlier stage has the name
abbrev pub name_again : List StageItem → StageItem → Option Fault
name_again earlier s =
    option_map (λ e. (StageAgain e.name.at s.name.at, s.name.at)) (stage_with_name earlier s.name.name)

-- the first fault of a stage, after the earlier ones
abbrev pub stage_fault : List StageItem → StageItem → Option Fault
stage_fault earlier s = option_or (number_fault s) (option_or (number_again earlier s) (name_again earlier s))

-- the first fault of a list of stages, after the earlier ones
abbrev pub stages_fault : List StageItem → List StageItem → Option Fault
stages_fault earlier [] = None
stages_fault earlier (s ∷ ss) = option_or (stage_fault earlier s) (stages_fault (earlier ++ s ∷ []) ss)

-- the first stage fault of a model
abbrev pub first_stage_fault : WrittenModel → Option Fault
first_stage_fault m = stages_fault [] m.stages
