-- Listings are a form of second files.
use Rattle.std.{proofs.Common.{◌≡◌, ◌≢◌, ℕ, List, ◌⊎◌, inl, inr, Some, refl, sym, ◌∙◌, ap, subst}, specs.Prelude.{unwrap_or}}
use Rattle.pc_common.specs.{Case.{Case}, declared.fault.{FaultKind.TheVariants.{Lexical, Syntax}, InputFault.{InputFault}, Which.TheVariants.{Test}}}
use Rattle.pc_syntax.specs.Written.{WrittenModel}
use Rattle.x86_litmus.specs.{Answer.{CaseOf, IsX86Fault}, declared.fault.X86Fault.{X86Fault}}
use Rattle.x86_litmus.specs.declared.fault.X86Fault.TheVariants.{Lexical as a_lexical_fault, Syntax as a_syntax_fault, Content as a_fault_of_content, Memory as no_room}
use Rattle.x86_litmus.proofs.{OneReading.{one_case, no_fault}, OneFault.{one_fault}, Totality.{case_or_fault}}
use Rattle.pc_front.specs.{ModelFront.{IsModelEnd}, Front.{SaysModel, fault_at}, declared.model_front.FrontEnd.{FrontEnd}}
use Rattle.command_base.{specs.SecondFiles.{IsOfTwo, IsFrontEnd, IsForm, IsToldFault, in_second}, proofs.Forms.{IsReader, form_of, fault_ends, model_ends}}
use Rattle.command_base.specs.Listings.{listing_fault_of, IsFirstListingFault, listing_end}

-- want of memory is no fault of a listing
untold : (f : InputFault) → listing_fault_of no_room ≡ Some f → ⊥
untold f told = cc

no_memory_told : (x : X86Fault) (f : InputFault) → listing_fault_of x ≡ Some f → x ≢ no_room
no_memory_told x f told memory = untold f (sym (ap listing_fault_of memory) ∙ told)

listing_or_fault : (bytes : List ℕ) → ((c : Case) × CaseOf bytes c) ⊎ ((x : X86Fault) × (x ≢ no_room) × IsX86Fault bytes x)
    → ((c : Case) × CaseOf bytes c) ⊎ ((f : InputFault) × IsToldFault IsX86Fault listing_fault_of bytes f)
listing_or_fault bytes (inl said) = inl said
listing_or_fault bytes (inr (x, some, is)) = inr (told x some is)
  where
    told : (x : X86Fault) → x ≢ no_room → IsX86Fault bytes x → (f : InputFault) × IsToldFault IsX86Fault listing_fault_of bytes f
    told (a_lexical_fault at) some is = (fault_at Test Lexical at, record { found = a_lexical_fault at; first = is; fault_is = refl })
    told (a_syntax_fault at) some is = (fault_at Test Syntax at, record { found = a_syntax_fault at; first = is; fault_is = refl })
    told (a_fault_of_content kind at) some is = (fault_at Test kind at, record { found = a_fault_of_content kind at; first = is; fault_is = refl })
    told no_room some is = absurd (some refl)

told_of_two : (x : X86Fault) (f : InputFault) → listing_fault_of x ≡ Some f → IsOfTwo f.file
told_of_two (a_lexical_fault at) f e = subst (λ o. IsOfTwo (unwrap_or o f).file) e tt
told_of_two (a_syntax_fault at) f e = subst (λ o. IsOfTwo (unwrap_or o f).file) e tt
told_of_two (a_fault_of_content kind at) f e = subst (λ o. IsOfTwo (unwrap_or o f).file) e tt
told_of_two no_room f e = absurd (untold f e)

listing_reader : IsReader CaseOf IsX86Fault listing_fault_of
listing_reader = record {
  one_case = one_case;
  one_fault = λ bytes x y f g told other. one_fault bytes x y (no_memory_told x f told) (no_memory_told y g other);
  no_fault = λ bytes c x f told said. no_fault bytes c x said (no_memory_told x f told);
  some = λ bytes. listing_or_fault bytes (case_or_fault bytes);
  of_two = told_of_two;
}

pub listing_form : IsForm CaseOf IsFirstListingFault
listing_form = form_of listing_reader

-- the reading of the model ended so
pub model_end : (model listing : List ℕ) (e : FrontEnd) → IsModelEnd model e → IsFrontEnd CaseOf IsFirstListingFault model listing e
model_end = model_ends listing_reader

-- beside a model without fault, the reading of the listing
pub fault_end : (model listing : List ℕ) (m : WrittenModel) (fault : X86Fault) → SaysModel model m → IsX86Fault listing fault
    → IsFrontEnd CaseOf IsFirstListingFault model listing (listing_end fault)
fault_end model listing m (a_lexical_fault at) says is =
    fault_ends listing_reader model listing (fault_at Test Lexical at) (in_second says (record { found = a_lexical_fault at; first = is; fault_is = refl }))
fault_end model listing m (a_syntax_fault at) says is =
    fault_ends listing_reader model listing (fault_at Test Syntax at) (in_second says (record { found = a_syntax_fault at; first = is; fault_is = refl }))
fault_end model listing m (a_fault_of_content kind at) says is =
    fault_ends listing_reader model listing (fault_at Test kind at)
    (in_second says (record { found = a_fault_of_content kind at; first = is; fault_is = refl }))
fault_end model listing m no_room says is = tt
