-- Test files are a form of second files.
use Rattle.std.{proofs.Common.{◌≡◌, ◌≢◌, ℕ, List, ◌⊎◌, inl, inr, Some, refl, sym, ◌∙◌, ap, subst}, specs.Prelude.{unwrap_or}}
use Rattle.pc_common.specs.{Case.{Case}, declared.fault.{FaultKind.TheVariants.{Lexical, Syntax}, InputFault.{InputFault}, Which.TheVariants.{Test}}}
use Rattle.pc_case.specs.MicroOps.{AreMicroOps}
use Rattle.pc_syntax.specs.Written.{WrittenModel}
use Rattle.litmus_reader.specs.{Answer.{CaseOf, IsCaseFault}, declared.fault.CaseFault.{CaseFault}}
use Rattle.litmus_reader.specs.declared.fault.CaseFault.TheVariants.{Lexical as a_lexical_fault, Syntax as a_syntax_fault, Content as a_fault_of_content, Memory as no_room}
use Rattle.litmus_reader.proofs.{CleanFacts.{are_micro_ops}, Exclusive.{one_case, no_fault}, OneFault.{one_fault}, Totality.{case_or_fault}}
use Rattle.pc_ground.specs.declared.parts.Parts.{Parts}
use Rattle.pc_front.specs.Front.{SaysModel, SayParts, IsEnd, fault_at, case_fault_of, IsFirstFrontFault, in_model as of_model, in_test}
use Rattle.pc_front.{specs.declared.model_front.FrontEnd.{FrontEnd, TheVariants.{Refused as a_refusal, Memory as no_memory}}, proofs.PartsOf.{front_is}}
use Rattle.command_base.specs.{Fronts.{front_of_parts}, SecondFiles.{SaysFront, IsOfTwo, IsFrontEnd, IsForm, IsToldFault, IsFaultOfTwo, in_model, in_second}}
use Rattle.command_base.proofs.Forms.{IsReader, form_of, fault_of_two}

-- want of memory is no fault of a test
untold : (f : InputFault) → case_fault_of no_room ≡ Some f → ⊥
untold f told = cc

no_memory_told : (x : CaseFault) (f : InputFault) → case_fault_of x ≡ Some f → x ≢ no_room
no_memory_told x f told memory = untold f (sym (ap case_fault_of memory) ∙ told)

-- each other fault that the reader of tests names is told
pub case_told : {is_fault : List ℕ → CaseFault → Type 0} (bytes : List ℕ) (x : CaseFault) → x ≢ no_room → is_fault bytes x
    → (f : InputFault) × IsToldFault is_fault case_fault_of bytes f
case_told bytes (a_lexical_fault at) some is = (fault_at Test Lexical at, record { found = a_lexical_fault at; first = is; fault_is = refl })
case_told bytes (a_syntax_fault at) some is = (fault_at Test Syntax at, record { found = a_syntax_fault at; first = is; fault_is = refl })
case_told bytes (a_fault_of_content kind at) some is = (fault_at Test kind at, record { found = a_fault_of_content kind at; first = is; fault_is = refl })
case_told bytes no_room some is = absurd (some refl)

-- and stands in the second file
pub told_of_two : (x : CaseFault) (f : InputFault) → case_fault_of x ≡ Some f → IsOfTwo f.file
told_of_two (a_lexical_fault at) f e = subst (λ o. IsOfTwo (unwrap_or o f).file) e tt
told_of_two (a_syntax_fault at) f e = subst (λ o. IsOfTwo (unwrap_or o f).file) e tt
told_of_two (a_fault_of_content kind at) f e = subst (λ o. IsOfTwo (unwrap_or o f).file) e tt
told_of_two no_room f e = absurd (untold f e)

test_or_fault : (bytes : List ℕ) → ((c : Case) × CaseOf bytes c) ⊎ ((x : CaseFault) × (x ≢ no_room) × IsCaseFault bytes x)
    → ((c : Case) × CaseOf bytes c) ⊎ ((f : InputFault) × IsToldFault IsCaseFault case_fault_of bytes f)
test_or_fault bytes (inl said) = inl said
test_or_fault bytes (inr (x, some, is)) = inr (case_told bytes x some is)

test_reader : IsReader CaseOf IsCaseFault case_fault_of
test_reader = record {
  one_case = one_case;
  one_fault = λ bytes x y f g told other. one_fault bytes x y (no_memory_told x f told) (no_memory_told y g other);
  no_fault = λ bytes c x f told said. no_fault bytes c x said (no_memory_told x f told);
  some = λ bytes. test_or_fault bytes (case_or_fault bytes);
  of_two = told_of_two;
}

-- the first fault of two files, as the reading of both says it and as forms do
in_form : {mb tb : List ℕ} {f : InputFault} → IsFirstFrontFault mb tb f → IsFaultOfTwo (IsToldFault IsCaseFault case_fault_of) mb tb f
in_form (of_model is) = in_model is
in_form (in_test says is) = in_second says (record { found = is.found; first = is.first; fault_is = is.fault_is })

in_front : {mb tb : List ℕ} {f : InputFault} → IsFaultOfTwo (IsToldFault IsCaseFault case_fault_of) mb tb f → IsFirstFrontFault mb tb f
in_front (in_model is) = of_model is
in_front (in_second says is) = in_test says (record { found = is.found; first = is.first; fault_is = is.fault_is })

some_in_front : (mb tb : List ℕ)
    → ((m : WrittenModel) × (c : Case) × SaysModel mb m × CaseOf tb c) ⊎ ((f : InputFault) × IsFaultOfTwo (IsToldFault IsCaseFault case_fault_of) mb tb f)
    → ((m : WrittenModel) × (c : Case) × SaysModel mb m × CaseOf tb c) ⊎ ((f : InputFault) × IsFirstFrontFault mb tb f)
some_in_front mb tb (inl said) = inl said
some_in_front mb tb (inr (f, is)) = inr (f, in_front is)

pub test_form : IsForm CaseOf IsFirstFrontFault
test_form = record {
  one_case = one_case;
  one_fault = λ mb tb f g x y. (form_of test_reader).one_fault mb tb f g (in_form x) (in_form y);
  no_fault = λ mb tb f x. (form_of test_reader).no_fault mb tb f (in_form x);
  some = λ mb tb. some_in_front mb tb ((form_of test_reader).some mb tb);
}

-- a test that is read keeps its micro-ops
pub test_kept : (bytes : List ℕ) (c : Case) → CaseOf bytes c → AreMicroOps c.ops
test_kept bytes c said = subst (λ (d : Case). AreMicroOps d.ops) (sym said.is) (are_micro_ops said.items said.clean)

-- what parts say is what their front says
pub test_parts : (mb tb : List ℕ) (parts : Parts) → SayParts mb tb parts → SaysFront CaseOf mb tb (front_of_parts parts)
test_parts mb tb parts say = record {
  m = say.m;
  c = say.c;
  says_model = say.says_model;
  says_case = say.says_test;
  front_of = front_is say.m say.c parts (front_of_parts parts) say.parts_of refl refl refl;
  kept = test_kept tb say.c say.says_test;
}

pub test_end : (mb tb : List ℕ) (end : FrontEnd) → IsEnd mb tb end → IsFrontEnd CaseOf IsFirstFrontFault mb tb end
test_end mb tb (a_refusal fault) is = (is, fault_of_two test_reader mb tb fault (in_form is), test_form.no_fault mb tb fault is)
test_end mb tb no_memory is = tt
