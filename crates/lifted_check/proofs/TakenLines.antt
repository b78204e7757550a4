-- What a step line makes of the open branches.
use Rattle.std.{proofs.Common.{◌≡◌, ◌≢◌, ℕ, Bool, true, false, List, [], ◌∷◌, Some, None, map, sym, ◌∙◌, ap, subst}, specs.{Prelude.{All}, Fmt.{decimal}}}
use Rattle.pc_common.specs.Case.{Case, MicroOp}
use Rattle.pc_ground.specs.Words.{words}
use Rattle.lifted_facts.specs.{declared.way.{Instance.{Instance}, Way.TheVariants.{Inst as InstWay}}, PlainFacts.{Branch}}
use Rattle.lifted_facts.specs.Lifted.{LiftedStep, derive, Advances, HasAdvanced}
use Rattle.lifted_check.specs.{StepLines.{keyword_text, numbers_of, value_text, IsSmall, IsValue, IsStepLine}, Decoding.{decoded}}
use Rattle.lifted_check.specs.{Stages.{IsCase, HasSteppedOn}, declared.keyword.Keyword.{Keyword, TheVariants.{Inst}}}
use Rattle.lifted_check.proofs.OneStep.{one_step, one_row, numbers_line, instance_line, plain_line, value_line}

-- a step whose line was read
pub step_taken : (c : Case) → IsCase c → (line : List ℕ) (s : LiftedStep) → IsStepLine c.ops line s → (old new : List Branch) (good : Bool)
    → HasAdvanced c s old new good → HasSteppedOn c line old new good
step_taken c kept line s h old new true a = (s, h, a)
step_taken c kept line s h old new false none = λ next x.
    let P : LiftedStep → Type 0 = λ t. Advances c t old next in none next (subst P (one_step c.ops kept line x.0 s x.1 h) x.2)

pub not_taken : (c : Case) (line : List ℕ) (old new : List Branch) → ((s : LiftedStep) → IsStepLine c.ops line s → ⊥) → HasSteppedOn c line old new false
not_taken c line old new none = λ next x. none x.0 x.1

pub no_instance : (ops : List MicroOp) (line : List ℕ) (ws : List (List ℕ)) → words line ≡ keyword_text Inst ∷ ws
    → ((k : ℕ) (v : Instance) → IsSmall k → IsValue ops v → ws ≡ decimal k ∷ value_text ops v ∷ [] → ⊥) → (s : LiftedStep) → IsStepLine ops line s → ⊥
no_instance ops line ws e none s h =
    let i = instance_line ops line ws s h e in none i.number i.value i.small i.has_value i.words

pub no_numbers : (ops : List MicroOp) (line : List ℕ) (k : Keyword) (ws : List (List ℕ)) → k ≢ Inst → words line ≡ keyword_text k ∷ ws
    → ((ks : List ℕ) → All IsSmall ks → ws ≡ map decimal ks → ⊥) → (s : LiftedStep) → IsStepLine ops line s → ⊥
no_numbers ops line k ws other e none s h =
    let n = numbers_line ops line k ws s other h e in none (numbers_of s) h.small n.words

pub no_decoded : (ops : List MicroOp) (line : List ℕ) (k : Keyword) (ws : List (List ℕ)) (ks : List ℕ) → k ≢ Inst → words line ≡ keyword_text k ∷ ws
    → ws ≡ map decimal ks → All IsSmall ks → decoded k ks ≡ None → (s : LiftedStep) → IsStepLine ops line s → ⊥
no_decoded ops line k ws ks other e are small none s h =
    let n = numbers_line ops line k ws s other h e in
    let same : ks ≡ numbers_of s = one_row ks (numbers_of s) small h.small (sym are ∙ n.words) in
    let d : decoded k ks ≡ Some s = ap (decoded k) same ∙ n.decodes in
    let no : None ≡ Some s = sym none ∙ d in
    cc

-- the line of an instantiation was read, and its step taken
pub instance_taken : (c d : Case) (line : List ℕ) (ws : List (List ℕ)) (k : ℕ) (v : Instance) (old new : List Branch) (good : Bool)
    → HasAdvanced d (derive (InstWay v) k) old new good → IsCase c → d ≡ c → words line ≡ keyword_text Inst ∷ ws
    → IsSmall k × IsValue c.ops v × (ws ≡ decimal k ∷ value_text c.ops v ∷ []) → HasSteppedOn c line old new good
instance_taken c d line ws k v old new good a kept same e read =
    let P : Case → Type 0 = λ x. HasAdvanced x (derive (InstWay v) k) old new good in
    step_taken c kept line (derive (InstWay v) k)
    (value_line c.ops line k v (e ∙ ap (λ (rest : List (List ℕ)). keyword_text Inst ∷ rest) read.2) read.0 read.1)
    old new good (subst P same a)

-- so of a line without a value
pub numbers_taken : (c : Case) (line : List ℕ) (k : Keyword) (ws : List (List ℕ)) (ks : List ℕ) (s : LiftedStep) (old new : List Branch) (good : Bool)
    → HasAdvanced c s old new good → IsCase c → words line ≡ keyword_text k ∷ ws → (ws ≡ map decimal ks) × All IsSmall ks → Some s ≡ decoded k ks
    → HasSteppedOn c line old new good
numbers_taken c line k ws ks s old new good a kept e read d =
    step_taken c kept line s
    (plain_line c.ops line k ks s (e ∙ ap (λ (rest : List (List ℕ)). keyword_text k ∷ rest) read.0) read.1 (sym d)) old new good a
