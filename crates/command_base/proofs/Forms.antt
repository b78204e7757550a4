-- Files whose reader says a case or names their first fault are a form of second files: a fault of the model comes before
-- theirs.
use Rattle.std.{proofs.Common.{◌≡◌, ℕ, List, ◌⊎◌, inl, inr, Option, Some, sym, ◌∙◌, ap, subst}, specs.Prelude.{unwrap_or}}
use Rattle.pc_common.specs.{Case.{Case}, declared.fault.{FaultKind.{FaultKind}, InputFault.{InputFault}, Which.{Which, TheVariants.{Model}}}}
use Rattle.pc_common.specs.declared.place.Place.{Place}
use Rattle.pc_syntax.specs.Written.{WrittenModel}
use Rattle.pc_ground.specs.declared.{front.Front.{Front}, parts.Parts.{Parts}}
use Rattle.pc_front.specs.{ModelFront.{IsModelFault, IsModelEnd}, Front.{SaysModel, fault_at}, declared.model_front.FrontEnd.{FrontEnd}}
use Rattle.pc_front.{specs.declared.model_front.FrontEnd.TheVariants.{Refused, Memory}, proofs.OneModel.{no_whole_fault, one_model_fault}}
use Rattle.pc_front.proofs.{ModelOrFault.{model_or_fault}, PartsOf.{front_is}}
use Rattle.command_base.specs.Fronts.{front_of_parts}
use Rattle.command_base.specs.SecondFiles.{SaysFront, SaysNone, IsOfTwo, IsFrontEnd, IsForm, IsToldFault, IsFaultOfTwo, in_model, in_second}

-- what is known of the reader of such files: bytes say one case, or have one first fault, and not both
pub record IsReader {T : Type 0} (case_of : List ℕ → Case → Type 0) (is_fault : List ℕ → T → Type 0) (told : T → Option InputFault) : Type 0 where
  pub one_case : (bytes : List ℕ) (c d : Case) → case_of bytes c → case_of bytes d → c ≡ d
  pub one_fault : (bytes : List ℕ) (x y : T) (f g : InputFault) → told x ≡ Some f → told y ≡ Some g → is_fault bytes x → is_fault bytes y → x ≡ y
  pub no_fault : (bytes : List ℕ) (c : Case) (x : T) (f : InputFault) → told x ≡ Some f → case_of bytes c → is_fault bytes x → ⊥
  pub some : (bytes : List ℕ) → ((c : Case) × case_of bytes c) ⊎ ((f : InputFault) × IsToldFault is_fault told bytes f)
  pub of_two : (x : T) (f : InputFault) → told x ≡ Some f → IsOfTwo f.file

module _ {T : Type 0} {case_of : List ℕ → Case → Type 0} {is_fault : List ℕ → T → Type 0} {told : T → Option InputFault}
    (reader : IsReader case_of is_fault told) where
  -- the bytes of two files that say something have no fault
  no_fault_of : (mb tb : List ℕ) (f : InputFault) → IsFaultOfTwo (IsToldFault is_fault told) mb tb f → SaysNone case_of mb tb
  no_fault_of mb tb _ (in_model {kind} {at} is) m c says said = no_whole_fault mb m says.model says.no_fault kind at is
  no_fault_of mb tb f (in_second other is) m c says said = reader.no_fault tb c is.found f is.fault_is said is.first

  one_told : (bytes : List ℕ) (f g : InputFault) → IsToldFault is_fault told bytes f → IsToldFault is_fault told bytes g → f ≡ g
  one_told bytes f g x y =
      let same = reader.one_fault bytes x.found y.found f g x.fault_is y.fault_is x.first y.first in
      ap (λ o. unwrap_or o f) (sym x.fault_is ∙ ap told same ∙ y.fault_is)

  -- the bytes of two files have one first fault
  one_fault_of : (mb tb : List ℕ) (f g : InputFault) → IsFaultOfTwo (IsToldFault is_fault told) mb tb f → IsFaultOfTwo (IsToldFault is_fault told) mb tb g
      → f ≡ g
  one_fault_of mb tb _ _ (in_model {kind = j} {at = p} x) (in_model {kind = k} {at = q} y) =
      let same = one_model_fault mb j k p q x y in
      ap (λ kind. fault_at Model kind p) same.0 ∙ ap (fault_at Model k) same.1
  one_fault_of mb tb _ _ (in_model {kind = j} {at = p} x) (in_second {m = m} says y) = absurd (no_whole_fault mb m says.model says.no_fault j p x)
  one_fault_of mb tb _ _ (in_second {m = m} says x) (in_model {kind = k} {at = q} y) = absurd (no_whole_fault mb m says.model says.no_fault k q y)
  one_fault_of mb tb f g (in_second says x) (in_second other y) = one_told tb f g x y

  -- the bytes of two files say a model and a case, or have a fault
  case_or_fault_of : (mb tb : List ℕ)
      → ((m : WrittenModel) × (c : Case) × SaysModel mb m × case_of tb c) ⊎ ((f : InputFault) × IsFaultOfTwo (IsToldFault is_fault told) mb tb f)
  case_or_fault_of mb tb = of_model (model_or_fault mb)
    where
      of_second : (m : WrittenModel) → SaysModel mb m → ((c : Case) × case_of tb c) ⊎ ((f : InputFault) × IsToldFault is_fault told tb f)
          → ((n : WrittenModel) × (c : Case) × SaysModel mb n × case_of tb c) ⊎ ((f : InputFault) × IsFaultOfTwo (IsToldFault is_fault told) mb tb f)
      of_second m says (inl (c, is)) = inl (m, c, says, is)
      of_second m says (inr (f, is)) = inr (f, in_second says is)

      of_model : ((m : WrittenModel) × SaysModel mb m) ⊎ ((kind : FaultKind) × (at : Place) × IsModelFault mb kind at)
          → ((n : WrittenModel) × (c : Case) × SaysModel mb n × case_of tb c) ⊎ ((f : InputFault) × IsFaultOfTwo (IsToldFault is_fault told) mb tb f)
      of_model (inl (m, says)) = of_second m says (reader.some tb)
      of_model (inr (kind, at, is)) = inr (fault_at Model kind at, in_model is)

  pub form_of : IsForm case_of (IsFaultOfTwo (IsToldFault is_fault told))
  form_of = record { one_case = reader.one_case; one_fault = one_fault_of; no_fault = no_fault_of; some = case_or_fault_of }

  -- a fault of the two stands in one of them
  pub fault_of_two : (mb tb : List ℕ) (f : InputFault) → IsFaultOfTwo (IsToldFault is_fault told) mb tb f → IsOfTwo f.file
  fault_of_two mb tb _ (in_model is) = tt
  fault_of_two mb tb f (in_second says is) = reader.of_two is.found f is.fault_is

  -- the reading of two files ends by their first fault
  pub fault_ends : (mb tb : List ℕ) (f : InputFault) → IsFaultOfTwo (IsToldFault is_fault told) mb tb f
      → IsFrontEnd case_of (IsFaultOfTwo (IsToldFault is_fault told)) mb tb (Refused f)
  fault_ends mb tb f is = (is, fault_of_two mb tb f is, no_fault_of mb tb f is)

  -- the reading of the model ended so
  pub model_ends : (mb tb : List ℕ) (e : FrontEnd) → IsModelEnd mb e → IsFrontEnd case_of (IsFaultOfTwo (IsToldFault is_fault told)) mb tb e
  model_ends mb tb (Refused f) is =
      let P : Which → Type 0 = λ file. IsFaultOfTwo (IsToldFault is_fault told) mb tb (fault_at file f.kind f.place) in
      fault_ends mb tb f (subst P (sym is.0) (in_model is.1))
  model_ends mb tb Memory is = tt

-- what parts say, their front says
pub front_said : {case_of : List ℕ → Case → Type 0} {mb tb : List ℕ} (parts : Parts) (front : Front) → front.case ≡ parts.case → front.stages ≡ parts.stages
    → front.axioms ≡ parts.axioms → SaysFront case_of mb tb (front_of_parts parts) → SaysFront case_of mb tb front
front_said parts front case stages axioms say = record {
  m = say.m;
  c = say.c;
  says_model = say.says_model;
  says_case = say.says_case;
  front_of = front_is say.m say.c parts front say.front_of.parts case stages axioms;
  kept = say.kept;
}
