-- What expansion keeps, and what renaming keeps.
use Rattle.std.specs.Prelude.{◌≡◌, List, [], map}
use Rattle.pc_common.specs.{Case.{Case}, World.{Node, World}}
use Rattle.pc_syntax.specs.{declared.expanded.Expanded.{Expanded}, Written.{Written, written, MacroAt, WrittenModel}}
use Rattle.pc_syntax.specs.{Truth.{Environment, Setting, is_true, are_true}, Observable.{axioms_of, macros_of, setting, satisfies}, Expansion.{expansion_of}}
use Rattle.pc_syntax.specs.{MacroFaults.{first_macro_fault}, Sizes.{first_size_fault}, StageFaults.{first_stage_fault}}
use Rattle.pc_syntax.specs.Renaming.{Renaming, KeepsApart, renamed, renamed_macro, renamed_model}
use Rattle.macro_expand.specs.Faults.{AreExpansions}

-- an expansion is true exactly where its formula is: in each case, world and environment
abbrev pub ExpansionKeepsTruth : Type 0
ExpansionKeepsTruth =
    (s : Setting) (ms : List MacroAt) (env : Environment) (w : Written)
    → is_true s ms env w ≡ is_true s [] env (expansion_of ms w)

-- a world satisfies a model exactly where its expanded axioms are true
abbrev pub ExpansionsSatisfy : Type 0
ExpansionsSatisfy =
    (m : WrittenModel) (es : List Expanded) → AreExpansions m es → (c : Case) (w : World Node)
    → satisfies m c w ≡ are_true (setting m c w) [] (map (λ e. written e.body) es)

-- a renamed formula expands, by the renamed macros, to the renamed expansion
abbrev pub RenamingCommutesWithExpansion : Type 0
RenamingCommutesWithExpansion =
    (ρ : Renaming) → KeepsApart ρ → (ms : List MacroAt) (w : Written)
    → expansion_of (map (renamed_macro ρ) ms) (renamed ρ w) ≡ renamed ρ (expansion_of ms w)

-- a renamed model has the same first macro fault
abbrev pub RenamingKeepsMacroFaults : Type 0
RenamingKeepsMacroFaults =
    (ρ : Renaming) → KeepsApart ρ → (m : WrittenModel) → first_macro_fault (renamed_model ρ m) ≡ first_macro_fault m

-- a renamed model has the same first size fault
abbrev pub RenamingKeepsSizeFaults : Type 0
RenamingKeepsSizeFaults =
    (ρ : Renaming) → KeepsApart ρ → (m : WrittenModel) → first_size_fault (renamed_model ρ m) ≡ first_size_fault m

-- a renamed model has the same first stage fault
abbrev pub RenamingKeepsStageFaults : Type 0
RenamingKeepsStageFaults =
    (ρ : Renaming) → KeepsApart ρ → (m : WrittenModel) → first_stage_fault (renamed_model ρ m) ≡ first_stage_fault m

-- the axioms and macros of a renamed model are the renamed ones, in the same order, by whatever names
abbrev pub RenamingKeepsItems : Type 0
RenamingKeepsItems =
    (ρ : Renaming) (m : WrittenModel)
    → (axioms_of (renamed_model ρ m) ≡ map (renamed ρ) (axioms_of m))
    × (macros_of (renamed_model ρ m) ≡ map (renamed_macro ρ) (macros_of m))
