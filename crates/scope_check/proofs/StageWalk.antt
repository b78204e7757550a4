-- A walk over stages to the first one with a name.
use Rattle.std.proofs.{Common.{◌≡◌, ℕ, ◌+◌, Bool, true, false, List, ◌∷◌, Some, None, length, drop, cond, option_map, sym, ap, ◌∙◌}, Math.Seq.{drop-length}}
use Rattle.pc_syntax.specs.{declared.model.StageItem.{StageItem}, Stages.{stage_with_name, stage_number_of}}
use Rattle.pc_common.specs.Names.{same_name}

module _ (stages : List StageItem) (k : ℕ) where
  -- its first stage's name decides the number
  by_first : (s : StageItem) (name : List ℕ) (b : Bool) → drop k stages ≡ s ∷ drop (k + 1) stages
      → b ≡ same_name s.name.name name → stage_number_of (drop k stages) name
      ≡ option_map (λ (x : StageItem). x.number) (cond b (Some s) (stage_with_name (drop (k + 1) stages) name))
  by_first s name b next same =
      ap (λ rest. stage_number_of rest name) next
      ∙ ap
      (λ c. option_map (λ (x : StageItem). x.number) (cond c (Some s) (stage_with_name (drop (k + 1) stages) name)))
      (sym same)

  pub stage_here : (s : StageItem) (name : List ℕ) → drop k stages ≡ s ∷ drop (k + 1) stages
      → true ≡ same_name s.name.name name → stage_number_of (drop k stages) name ≡ Some s.number
  stage_here s name next same = by_first s name true next same

  pub stage_later : (s : StageItem) (name : List ℕ) → drop k stages ≡ s ∷ drop (k + 1) stages
      → false ≡ same_name s.name.name name
      → stage_number_of (drop k stages) name ≡ stage_number_of (drop (k + 1) stages) name
  stage_later s name next other = by_first s name false next other

  pub no_stage : (name : List ℕ) → k ≡ length stages → stage_number_of (drop k stages) name ≡ None
  no_stage name whole =
      ap (λ n. stage_number_of (drop n stages) name) whole ∙ ap (λ rest. stage_number_of rest name) (drop-length stages)
