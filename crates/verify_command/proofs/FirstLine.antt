-- What the first bytes of a file tell of its first line, and that a front asks what its parts ask.
use Rattle.std.proofs.Common.{◌≡◌, inl, inr, ℕ, List, ◌++◌, take, drop, sym, ◌∙◌, ap, append_assoc}
use Rattle.std.{proofs.{lemmas.List.{append-nil, take-append-le, take-append-drop}, Math.Seq.{take-append_seam}}, specs.Prelude.{codes, map}}
use Rattle.pc_common.specs.Case.{Case}
use Rattle.pc_ground.specs.{declared.{front.Front.{Front}, parts.Parts.{Parts}, stage.Stage.{Stage}}, GroundTree.{closed_ground_tree}, NodeForm.{names_by}}
use Rattle.pc_ground.specs.Stages.{plain_stage, plain_axioms}
use Rattle.pc_syntax.specs.{Closed.{closed_satisfies}, declared.closed.Closed.{Closed}}
use Rattle.cert_check.specs.{Certificates.{Question}, GraphBegins.{SaysUnobservable}, Questions.{question_of, question_of_parts}}
use Rattle.verify_command.specs.Reading.{IsEnough}

-- where enough first bytes do not say unobservable, the file does not
pub none_says : (first left : List ℕ) → IsEnough first left → (SaysUnobservable first → ⊥) → SaysUnobservable (first ++ left) → ⊥
none_says first left (inl long) none says =
    none (
      drop 13 first,
      sym (take-append-drop 13 first)
          ∙ ap (λ (xs : List ℕ). xs ++ drop 13 first) (sym (take-append-le 13 first left long) ∙ ap (take 13) says.1
          ∙ take-append_seam (codes "unobservable\n") says.0),
    )
none_says first left (inr gone) none says =
    none (says.0, sym (append-nil first) ∙ ap (λ (xs : List ℕ). first ++ xs) (sym gone) ∙ says.1)

-- what first bytes of a file say, the file says
pub all_says : (file text rest : List ℕ) → file ≡ text ++ rest → (SaysUnobservable file → ⊥) → SaysUnobservable text → ⊥
all_says file text rest is none says =
    none (says.0 ++ rest, is ∙ ap (λ (t : List ℕ). t ++ rest) says.1 ∙ append_assoc (codes "unobservable\n") says.0 rest)

-- a case, stages and axioms ask this
abbrev asked_by : Case → List Stage → List Closed → Question
asked_by c stages axioms = record {
  names = names_by c (map plain_stage stages);
  expectation = c.expectation;
  tree = closed_ground_tree c (plain_axioms axioms);
  satisfied = closed_satisfies (plain_axioms axioms) c;
}

pub same_question : (front : Front) (parts : Parts) → front.case ≡ parts.case → front.stages ≡ parts.stages → front.axioms ≡ parts.axioms
    → question_of front ≡ question_of_parts parts
same_question front parts same_case same_stages same_axioms =
    ap (λ (c : Case). asked_by c front.stages front.axioms) same_case
    ∙ ap (λ (ss : List Stage). asked_by parts.case ss front.axioms) same_stages
    ∙ ap (λ (xs : List Closed). asked_by parts.case parts.stages xs) same_axioms
