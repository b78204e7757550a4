-- The stages of a model by number and by name.
use Rattle.std.specs.Prelude.{ℕ, List, [], ◌∷◌, Option, Some, None, ◌==◌, if◌then◌else◌, option_map}
use Rattle.pc_common.specs.Names.{same_name}
use Rattle.pc_syntax.specs.declared.model.StageItem.{StageItem}

-- the first stage with this number
abbrev pub stage_with_number : List StageItem → ℕ → Option StageItem
stage_with_number [] n = None
stage_with_number (s ∷ ss) n = if s.number == n then Some s else stage_with_number ss n

-- the first stage with this name
abbrev pub stage_with_name : List StageItem → List ℕ → Option StageItem
stage_with_name [] name = None
stage_with_name (s ∷ ss) name = if same_name s.name.name name then Some s else stage_with_name ss name

-- the number of a stage by its name
abbrev pub stage_number_of : List StageItem → List ℕ → Option ℕ
stage_number_of stages name = option_map (λ s. s.number) (stage_with_name stages name)
