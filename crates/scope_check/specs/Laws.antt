-- What closing keeps, and what a renaming keeps.
use Rattle.std.specs.Prelude.{◌≡◌, List, [], map, length}
use Rattle.pc_syntax.specs.{declared.model.StageItem.{StageItem}, Written.{Written, MacroAt, WrittenModel}, Truth.{Meaning, Environment, Setting, is_true}}
use Rattle.pc_syntax.specs.{Closed.{PlainClosed, closed_true}, Closing.{IsClosingOf, closing_of}, NameFaults.{name_fault, first_name_fault}}
use Rattle.pc_syntax.specs.{Renaming.{Renaming, KeepsApart, renamed, renamed_macro, renamed_stage, renamed_model}, Scope.{Scope}, Fits.{Fits}}
use Rattle.scope_check.specs.{QueryFaults.{query_fault, asked}, Renaming.{renamed_binding}}

-- what closing gives is true exactly where the formula is: in each case and world, with the stages that it
-- was closed with, in each environment that fits the scope and with the values of its slots
abbrev pub ClosingKeepsTruth : Type 0
ClosingKeepsTruth =
    (s : Setting) (slots : List Meaning) (env : Environment) (scope : Scope) (e : Written) (c : PlainClosed)
    → length slots ≡ length scope → Fits slots env scope → IsClosingOf s.stages scope e c
    → is_true s [] env e ≡ closed_true s.case s.world slots c

-- the closing of a formula with other names is that of the formula
abbrev pub RenamingKeepsClosings : Type 0
RenamingKeepsClosings =
    (ρ : Renaming) → KeepsApart ρ
    → (stages : List StageItem) (scope : Scope) (w : Written)
    → closing_of (map (renamed_stage ρ) stages) (map (renamed_binding ρ) scope) (renamed ρ w)
    ≡ closing_of stages scope w

-- the first name fault of a formula with other names is that of the formula
abbrev pub RenamingKeepsNameFaults : Type 0
RenamingKeepsNameFaults =
    (ρ : Renaming) → KeepsApart ρ
    → (stages : List StageItem) (ms : List MacroAt) (scope : Scope) (w : Written)
    → name_fault (map (renamed_stage ρ) stages) (map (renamed_macro ρ) ms) (map (renamed_binding ρ) scope)
    (renamed ρ w)
    ≡ name_fault stages ms scope w

-- and so is that of a model
abbrev pub RenamingKeepsFirstNameFaults : Type 0
RenamingKeepsFirstNameFaults =
    (ρ : Renaming) → KeepsApart ρ → (m : WrittenModel) → first_name_fault (renamed_model ρ m) ≡ first_name_fault m

-- and so is that of a formula which is asked of a model, in the file in which it was
abbrev pub RenamingKeepsQueryFaults : Type 0
RenamingKeepsQueryFaults =
    (ρ : Renaming) → KeepsApart ρ
    → (stages : List StageItem) (ms : List MacroAt) (scope : Scope) (w : Written)
    → query_fault (map (renamed_stage ρ) stages) (map (renamed_macro ρ) ms) (map (renamed_binding ρ) scope)
    (renamed ρ w)
    ≡ query_fault stages ms scope w

-- what a denial with other names denies is what it denied, with other names
abbrev pub RenamingKeepsAsked : Type 0
RenamingKeepsAsked = (ρ : Renaming) (w : Written) → asked (renamed ρ w) ≡ renamed ρ (asked w)
