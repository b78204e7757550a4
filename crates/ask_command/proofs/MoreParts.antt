-- Parts and fronts with one axiom more: their stages stay within, and what is asked of parts that are alike.
use Rattle.std.{proofs.{Common.{◌≡◌, List, [], ◌∷◌, ◌++◌, Result, Ok, Err, map, sym, ◌∙◌, ap, subst}, lemmas.List.{map-append}}, specs.Prelude.{ℕ, IfOk}}
use Rattle.pc_common.specs.Case.{Case}
use Rattle.pc_syntax.specs.{declared.closed.Closed.{Closed}, Closed.{PlainClosed, plain_closed}, StagesWithin.{StagesWithin}}
use Rattle.pc_ground.specs.declared.{front.Front.{Front}, parts.Parts.{Parts}, stage.Stage.{Stage}}
use Rattle.pc_ground.specs.Stages.{plain_stage, plain_axioms, numbers_of, AreStages, AxiomsWithin}
use Rattle.solver.specs.declared.search.answer.Answer.{Answer}
use Rattle.ask_command.specs.{declared.outcome.Asked.{Asked}, Asking.{IsFrontMore, IsFoundMore, IsAsked}}

abbrev pub stage_numbers_of : List Stage → List ℕ
stage_numbers_of stages = numbers_of (map plain_stage stages)

within_more : (numbers : List ℕ) (ps : List PlainClosed) (p : PlainClosed) → AxiomsWithin numbers ps → StagesWithin numbers p
    → AxiomsWithin numbers (ps ++ p ∷ [])
within_more numbers [] p all here = (here, tt)
within_more numbers (q ∷ ps) p all here = (all.0, within_more numbers ps p all.1 here)

-- copies of axioms and one more
pub axioms_more : (axioms copies all : List Closed) (last : Closed) → plain_axioms copies ≡ plain_axioms axioms → all ≡ copies ++ last ∷ []
    → plain_axioms all ≡ plain_axioms axioms ++ plain_closed last.body ∷ []
axioms_more axioms copies all last same put =
    ap plain_axioms put ∙ map-append (λ (a : Closed). plain_closed a.body) copies (last ∷ []) ∙ ap (λ ps. ps ++ plain_closed last.body ∷ []) same

pub within_all : (stages others : List Stage) (axioms copies all : List Closed) (last : Closed) → others ≡ stages → plain_axioms copies ≡ plain_axioms axioms
    → all ≡ copies ++ last ∷ [] → AxiomsWithin (stage_numbers_of stages) (plain_axioms axioms)
    → StagesWithin (stage_numbers_of stages) (plain_closed last.body) → AxiomsWithin (stage_numbers_of others) (plain_axioms all)
within_all stages others axioms copies all last of same put within here =
    let P : List Stage → Type 0 = λ ss. AxiomsWithin (stage_numbers_of ss) (plain_axioms all) in
    let Q : List PlainClosed → Type 0 = λ ps. AxiomsWithin (stage_numbers_of stages) ps in
    subst P (sym of) (subst Q (sym (axioms_more axioms copies all last same put))
    (within_more (stage_numbers_of stages) (plain_axioms axioms) (plain_closed last.body) within here))

-- copies alone
pub within_copies : (stages others : List Stage) (axioms copies : List Closed) → others ≡ stages → plain_axioms copies ≡ plain_axioms axioms
    → AxiomsWithin (stage_numbers_of stages) (plain_axioms axioms) → AxiomsWithin (stage_numbers_of others) (plain_axioms copies)
within_copies stages others axioms copies of same within =
    let P : List Stage → Type 0 = λ ss. AxiomsWithin (stage_numbers_of ss) (plain_axioms copies) in
    let Q : List PlainClosed → Type 0 = λ ps. AxiomsWithin (stage_numbers_of stages) ps in
    subst P (sym of) (subst Q (sym same) within)

pub named_copies : (stages others : List Stage) → others ≡ stages → AreStages (map plain_stage stages) → AreStages (map plain_stage others)
named_copies stages others of named = subst (λ (ss : List Stage). AreStages (map plain_stage ss)) (sym of) named

-- the front of such parts
pub front_is : {E : Type 0} (parts more : Parts) (p : PlainClosed) (r : Result Front E) → more.case ≡ parts.case → more.stages ≡ parts.stages
    → plain_axioms more.axioms ≡ plain_axioms parts.axioms ++ p ∷ []
    → IfOk r (λ f. f.case ≡ more.case) → IfOk r (λ f. f.stages ≡ more.stages) → IfOk r (λ f. f.axioms ≡ more.axioms)
    → IfOk r (IsFrontMore parts.case parts.stages (plain_axioms parts.axioms) p)
front_is parts more p (Ok front) case stages axioms c s a = record { case = c ∙ case; stages_are = s ∙ stages; axioms = ap plain_axioms a ∙ axioms }
front_is parts more p (Err e) case stages axioms c s a = tt

-- what is found of one formula is found of an equal one
pub found_same : (c : Case) (stages : List Stage) (ps : List PlainClosed) (p q : PlainClosed) (r : Front × Answer) → p ≡ q
    → IsFoundMore c stages ps p r → IsFoundMore c stages ps q r
found_same c stages ps p q r same is =
    let P : PlainClosed → Type 0 = λ x. IsFoundMore c stages ps x r in subst P same is

pub within_same : (numbers : List ℕ) (p q : PlainClosed) → p ≡ q → StagesWithin numbers q → StagesWithin numbers p
within_same numbers p q same within = subst (StagesWithin numbers) (sym same) within

pub within_stages : (stages others : List Stage) (p : PlainClosed) → others ≡ stages → StagesWithin (stage_numbers_of stages) p
    → StagesWithin (stage_numbers_of others) p
within_stages stages others p of within =
    let P : List Stage → Type 0 = λ ss. StagesWithin (stage_numbers_of ss) p in subst P (sym of) within

-- what is asked of copied parts is asked of the front
pub asked_same : (front : Front) (parts : Parts) (p : PlainClosed) → parts.case ≡ front.case → parts.stages ≡ front.stages
    → plain_axioms parts.axioms ≡ plain_axioms front.axioms → (a : Asked) → IsAsked parts.case parts.stages (plain_axioms parts.axioms) p a
    → IsAsked front.case front.stages (plain_axioms front.axioms) p a
asked_same front parts p case stages axioms a is =
    let P : Case → Type 0 = λ c. IsAsked c front.stages (plain_axioms front.axioms) p a in
    let Q : List Stage → Type 0 = λ ss. IsAsked parts.case ss (plain_axioms front.axioms) p a in
    let R : List PlainClosed → Type 0 = λ ps. IsAsked parts.case parts.stages ps p a in
    subst P case (subst Q stages (subst R axioms is))
