-- What the files of a model and a pattern say, and how the reading of them ends.
use Rattle.std.{proofs.Common.{◌≡◌, ◌≢◌, ℕ, List, ◌⊎◌, inl, inr, Some, None, refl, sym, ◌∙◌, ap, subst}, specs.Prelude.{IsTrue}}
use Rattle.pc_common.specs.{Outside.{FilesView}, Reads.{Reads}, Case.{Case}, declared.fault.{FaultKind.TheVariants.{Lexical, Syntax}, InputFault.{InputFault}}}
use Rattle.pc_common.specs.declared.fault.Which.TheVariants.{Test}
use Rattle.pc_syntax.specs.Written.{WrittenModel}
use Rattle.litmus_reader.specs.declared.fault.CaseFault.{CaseFault}
use Rattle.litmus_reader.specs.declared.fault.CaseFault.TheVariants.{Lexical as a_lexical_fault, Syntax as a_syntax_fault, Content as a_fault_of_content, Memory as no_room}
use Rattle.pc_front.specs.{ModelFront.{IsModelEnd}, Front.{SaysModel, fault_at, case_fault_of}, Ends.{case_end}, declared.model_front.FrontEnd.{FrontEnd}}
use Rattle.pattern_reader.specs.{Rows.{Pattern}, Answer.{PatternOf, IsPatternFault}}
use Rattle.pattern_reader.proofs.Patterns.{no_fault_beside, one_fault_of, one_pattern_of, pattern_or_fault_of, no_memory_fault}
use Rattle.command_base.specs.{Inputs.{Inputs, Contents, IsRead, LacksInput}, SecondFiles.{IsFrontEnd, IsForm, IsToldFault, in_second}}
use Rattle.command_base.proofs.{Forms.{IsReader, form_of, fault_ends, model_ends}, TestForm.{case_told, told_of_two}}
use Rattle.sweep_command.specs.{Patterns.{ClosedCase, IsFirstSweepFault, SaysTask, HasTask}, declared.inputs.Task.{Task}}

one_closed_case : (bytes : List ℕ) (c d : Case) → ClosedCase bytes c → ClosedCase bytes d → c ≡ d
one_closed_case bytes c d (p, said, same) (q, told, other) = same ∙ ap (λ (x : Pattern). x.case) (one_pattern_of bytes p q said told) ∙ sym other

none_by_pattern : (bytes : List ℕ) (c : Case) (x : CaseFault) → ClosedCase bytes c → IsPatternFault bytes x → ⊥
none_by_pattern bytes c x (p, said, same) is = no_fault_beside bytes p x said is

pattern_or_fault : (bytes : List ℕ) → ((p : Pattern) × PatternOf bytes p) ⊎ ((x : CaseFault) × IsPatternFault bytes x)
    → ((c : Case) × ClosedCase bytes c) ⊎ ((f : InputFault) × IsToldFault IsPatternFault case_fault_of bytes f)
pattern_or_fault bytes (inl (p, said)) = inl (p.case, (p, said, refl))
pattern_or_fault bytes (inr (x, is)) =
    inr (case_told bytes x (λ memory. no_memory_fault bytes (subst (λ (y : CaseFault). IsPatternFault bytes y) memory is)) is)

pattern_reader : IsReader ClosedCase IsPatternFault case_fault_of
pattern_reader = record {
  one_case = one_closed_case;
  one_fault = λ bytes x y f g told other. one_fault_of bytes x y;
  no_fault = λ bytes c x f told. none_by_pattern bytes c x;
  some = λ bytes. pattern_or_fault bytes (pattern_or_fault_of bytes);
  of_two = told_of_two;
}

-- patterns are a form of second files
pub pattern_form : IsForm ClosedCase IsFirstSweepFault
pattern_form = form_of pattern_reader

-- the reading of the model ended so
pub model_end : (model second : List ℕ) (e : FrontEnd) → IsModelEnd model e → IsFrontEnd ClosedCase IsFirstSweepFault model second e
model_end = model_ends pattern_reader

-- beside a model without fault, that of the pattern
pub pattern_end : (model second : List ℕ) (m : WrittenModel) (f : CaseFault) → SaysModel model m → (f ≢ no_room → IsPatternFault second f)
    → IsFrontEnd ClosedCase IsFirstSweepFault model second (case_end f)
pattern_end model second m (a_lexical_fault at) says is =
    fault_ends pattern_reader model second (fault_at Test Lexical at)
    (in_second says (record { found = a_lexical_fault at; first = is (λ e. cc); fault_is = refl }))
pattern_end model second m (a_syntax_fault at) says is =
    fault_ends pattern_reader model second (fault_at Test Syntax at)
    (in_second says (record { found = a_syntax_fault at; first = is (λ e. cc); fault_is = refl }))
pattern_end model second m (a_fault_of_content kind at) says is =
    fault_ends pattern_reader model second (fault_at Test kind at)
    (in_second says (record { found = a_fault_of_content kind at; first = is (λ e. cc); fault_is = refl }))
pattern_end model second m no_room says is = tt

-- what was read of bytes that the two files hold
pub task_read : {F : Type 0} {view : F → FilesView} {old new : F}
    (failing_modelled : IsTrue (view old).only_missing_fail → IsTrue (view old).modelled) (keeps : Reads view old new) (i : Inputs)
    (mb tb : List ℕ) (read : IsTrue (view old).modelled → IsRead (view old).holds i.model mb × IsRead (view old).holds i.test tb)
    (task : Task) → SaysTask mb tb task → HasTask view i old new task
task_read {view = view} {old = old} failing_modelled keeps i mb tb read task say = record {
  keeps = keeps;
  model = mb;
  second = tb;
  task_is = say;
  says = λ t. record {
    model_bytes = mb;
    pattern_bytes = tb;
    model_read = (read t).0;
    pattern_read = (read t).1;
    says_model = say.says_model;
    says_pattern = say.says_pattern;
  };
  held = λ c. both_held (view old).holds i mb tb (read (failing_modelled c));
}
  where
    some_none : {X : Type 0} {x : X} → Some x ≡ None → ⊥
    some_none e = cc

    both_held : (holds : Contents) (i : Inputs) (mb tb : List ℕ) → IsRead holds i.model mb × IsRead holds i.test tb → LacksInput holds i → ⊥
    both_held holds i mb tb read (inl none) = some_none (sym read.0.held ∙ none)
    both_held holds i mb tb read (inr (first, none)) = some_none (sym read.1.held ∙ none)
