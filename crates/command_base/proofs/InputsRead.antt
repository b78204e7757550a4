-- How a command ends at its two files, and what a front of them says.
use Rattle.std.{proofs.Common.{◌≡◌, inl, inr, ℕ, ◌<◌, ◌≤◌, arith, List, ◌++◌, Some, None, length, refl, sym, ◌∙◌, ap, subst}, specs.Prelude.{codes, IsTrue}}
use Rattle.std.specs.Fmt.{decimal}
use Rattle.pc_common.specs.{Outside.{FilesView}, LineColumn.{line_of, column_of}, Case.{Case}, Faults.{Rose}, Reads.{Reads}}
use Rattle.pc_common.specs.declared.{fault.{InputFault.{InputFault}, Which.{Which, TheVariants.{Model, Test, Query}}}, reading.ReadEnd.{ReadEnd}}
use Rattle.pc_common.specs.declared.reading.ReadEnd.TheVariants.{ReadFault as an_outside_fault, TooLarge as past_limit, Memory as no_memory}
use Rattle.pc_common.specs.declared.status.Status.{Status, TheVariants.{Usage, Refused, ReadFault, Memory}}
use Rattle.pc_syntax.specs.Written.{WrittenModel}
use Rattle.pc_ground.specs.declared.front.Front.{Front}
use Rattle.pc_front.specs.{declared.limits.TheConstants.{MAX_FILE}, Front.{SaysModel}}
use Rattle.command_base.specs.declared.{refusal.Refusal.{Refusal}, ending.Ending.{Ending}}
use Rattle.command_base.specs.declared.ending.Ending.TheVariants.{ReadFault as a_read_fault, Memory as a_memory, Refused as a_refusal}
use Rattle.command_base.specs.Words.{fault_word, file_word}
use Rattle.command_base.specs.Inputs.{Inputs, Contents, IsRead, IsTooLarge, IsFirstInputFault, large_model, large_test, in_bytes, too_large, LacksInput, Says}
use Rattle.command_base.specs.{SecondFiles.{IsOfTwo, SaysFront, SaysNone, AnyCase, NoFault}, Refusals.{IsInputRefusal, refusal, refused_text, name_of}}
use Rattle.command_base.specs.{Endings.{refusal_text, bytes_of, IsBytesEnding, IsUnread}, Outcomes.{HasFront, IsInputsEnding, IsUnreadEnding}}
use Rattle.command_base.proofs.OneCase.{never_both, one_held}

pub some_none : {X : Type 0} {x : X} → Some x ≡ None → ⊥
some_none e = cc

pub memory_no_fault : Memory ≡ ReadFault → ⊥
memory_no_fault e = cc

pub memory_no_usage : Memory ≡ Usage → ⊥
memory_no_usage e = cc

pub fault_no_usage : ReadFault ≡ Usage → ⊥
fault_no_usage e = cc

pub refused_no_fault : Refused ≡ ReadFault → ⊥
refused_no_fault e = cc

pub refused_no_usage : Refused ≡ Usage → ⊥
refused_no_usage e = cc

pub refusal_is : (bytes : List ℕ) (f : InputFault) (r : Refusal) → r.fault ≡ f
    → r.line ≡ line_of bytes f.place.offset → r.column ≡ column_of bytes f.place.offset → refused_text bytes f ≡ refusal_text r
refusal_is bytes f r e l c =
    ap (λ n. text f n (column_of bytes f.place.offset)) (sym l) ∙ ap (λ n. text f r.line n) (sym c) ∙ ap (λ g. text g r.line r.column) (sym e)
  where
    text : InputFault → ℕ → ℕ → List ℕ
    text g line column =
        codes "refused " ++ file_word g.file ++ codes " " ++ fault_word g.kind ++ codes " at " ++ decimal line ++ codes ":" ++ decimal column ++ codes "\n"

pub read_of : (holds : Contents) (name bytes : List ℕ) → holds name ≡ Some bytes → length bytes ≤ MAX_FILE → IsRead holds name bytes
read_of holds name bytes held within = record { held = held; within = within }

pub large_of : (holds : Contents) (name : List ℕ) → (bytes : List ℕ) × (holds name ≡ Some bytes) × (MAX_FILE < length bytes) → IsTooLarge holds name
large_of holds name l = record { bytes = l.0; held = l.1; past = l.2 }

-- one call that reads, and then another
pub reads_then : {F : Type 0} {view : F → FilesView} {old mid new : F}
    → Reads view old mid → Reads view mid new → Reads view old new
reads_then x y = record {
  same_modelled = y.same_modelled ∙ x.same_modelled;
  same_held = y.same_held ∙ x.same_held;
  same_failing = y.same_failing ∙ x.same_failing;
  count = (let a = x.count in let b = y.count in omega arith);
}

-- no call that reads
pub reads_none : {F : Type 0} {view : F → FilesView} {files : F}
    → Reads view files files
reads_none = record { same_modelled = refl; same_held = refl; same_failing = refl; count = omega arith }

pub rose_later : {old mid new : ℕ} → old ≤ mid → Rose mid new → Rose old new
rose_later before rose = λ below. (let later = rose below in omega arith)

-- a refusal of one of the two files
refusal_of : {first_fault : List ℕ → List ℕ → InputFault → Type 0} (holds : Contents) (i : Inputs) (bytes : List ℕ) (f : InputFault) (r : Refusal)
    → IsFirstInputFault first_fault holds i f → holds (name_of f.file i) ≡ Some bytes
    → r.fault ≡ f → r.line ≡ line_of bytes f.place.offset → r.column ≡ column_of bytes f.place.offset
    → IsInputRefusal first_fault holds i Refused (refusal_text r)
refusal_of {first_fault} holds i bytes f r first held e l c =
    let Q : List ℕ → Type 0 = λ t. IsInputRefusal first_fault holds i Refused t in
    subst Q (refusal_is bytes f r e l c) (refusal first held)

-- a file past the limit is held, and says nothing
large_held : (holds : Contents) (i : Inputs) (file : Which) → IsOfTwo file → IsTooLarge holds (name_of file i) → LacksInput holds i
    → (file ≡ Test → (bytes : List ℕ) × IsRead holds i.model bytes) → ⊥
large_held holds i Model two l (inl none) read = some_none (sym l.held ∙ none)
large_held holds i Model two l (inr ((bytes, is), none)) read = never_both holds i.model bytes is l
large_held holds i Test two l (inl none) read = (let model = read refl in some_none (sym model.1.held ∙ none))
large_held holds i Test two l (inr (first, none)) read = some_none (sym l.held ∙ none)
large_held holds i Query two l lacks read = absurd two

large_says_none : {case_of : List ℕ → Case → Type 0} (holds : Contents) (i : Inputs) (file : Which) → IsOfTwo file → IsTooLarge holds (name_of file i)
    → (m : WrittenModel) (c : Case) → Says case_of holds i m c → ⊥
large_says_none holds i Model two l m c says = never_both holds i.model says.model_bytes says.model_read l
large_says_none holds i Test two l m c says = never_both holds i.test says.test_bytes says.test_read l
large_says_none holds i Query two l m c says = absurd two

-- the first fault of a file past the limit
large_first : {first_fault : List ℕ → List ℕ → InputFault → Type 0} (holds : Contents) (i : Inputs) (file : Which)
    → IsOfTwo file → IsTooLarge holds (name_of file i)
    → (file ≡ Test → (bytes : List ℕ) × IsRead holds i.model bytes) → IsFirstInputFault first_fault holds i (too_large file)
large_first holds i Model two l read = large_model l
large_first holds i Test two l read = (let model = read refl in large_test model.1 l)
large_first holds i Query two l read = absurd two

-- the file that a fault is in holds these bytes
held_in : (holds : Contents) (i : Inputs) (mb tb : List ℕ) (file : Which) → IsOfTwo file → IsRead holds i.model mb → IsRead holds i.test tb
    → holds (name_of file i) ≡ Some (bytes_of file mb tb)
held_in holds i mb tb Model two rm rt = rm.held
held_in holds i mb tb Test two rm rt = rt.held
held_in holds i mb tb Query two rm rt = absurd two

-- bytes that say nothing are those of two files that say nothing
says_none : {case_of : List ℕ → Case → Type 0} (holds : Contents) (i : Inputs) (mb tb : List ℕ) → IsRead holds i.model mb → IsRead holds i.test tb
    → SaysNone case_of mb tb → (m : WrittenModel) (c : Case) → Says case_of holds i m c → ⊥
says_none {case_of} holds i mb tb rm rt none m c says =
    let P : List ℕ → Type 0 = λ b. SaysModel b m in
    let Q : List ℕ → Type 0 = λ b. case_of b c in
    none m c (subst P (one_held holds i.model says.model_bytes mb says.model_read.held rm.held) says.says_model)
    (subst Q (one_held holds i.test says.test_bytes tb says.test_read.held rt.held) says.says_case)

-- both names are held
both_held : (holds : Contents) (i : Inputs) (mb tb : List ℕ) → IsRead holds i.model mb × IsRead holds i.test tb → LacksInput holds i → ⊥
both_held holds i mb tb read (inl none) = some_none (sym read.0.held ∙ none)
both_held holds i mb tb read (inr (first, none)) = some_none (sym read.1.held ∙ none)

-- the front of the bytes that were read
pub front_read : {F : Type 0} {view : F → FilesView} {old new : F} {case_of : List ℕ → Case → Type 0}
    (failing_modelled : IsTrue (view old).only_missing_fail → IsTrue (view old).modelled) (keeps : Reads view old new) (i : Inputs)
    (mb tb : List ℕ) (read : IsTrue (view old).modelled → IsRead (view old).holds i.model mb × IsRead (view old).holds i.test tb)
    (front : Front) → SaysFront case_of mb tb front → HasFront view case_of i old new front
front_read {view = view} {old = old} failing_modelled keeps i mb tb read front say = record {
  keeps = keeps;
  m = say.m;
  c = say.c;
  front_of = say.front_of;
  kept = say.kept;
  says = λ t. record {
    model_bytes = mb;
    test_bytes = tb;
    model_read = (read t).0;
    test_read = (read t).1;
    says_model = say.says_model;
    says_case = say.says_case;
  };
  held = λ c. both_held (view old).holds i mb tb (read (failing_modelled c));
}

module _ {F : Type 0} {view : F → FilesView} {old new : F}
    {case_of : List ℕ → Case → Type 0} {first_fault : List ℕ → List ℕ → InputFault → Type 0}
    (failing_modelled : IsTrue (view old).only_missing_fail → IsTrue (view old).modelled) (keeps : Reads view old new) (i : Inputs) where
  fault_ends : Rose (view old).faults (view new).faults → (IsTrue (view old).only_missing_fail → LacksInput (view old).holds i)
      → IsInputsEnding view case_of first_fault i old new a_read_fault
  fault_ends rose lacking = record {
    keeps = keeps;
    usage_only = fault_no_usage;
    cause = λ e. rose;
    missing_only = λ c e. lacking c;
    missing_due = λ c l. inl refl;
    answers = λ t no_fault memory. absurd (no_fault refl);
  }

  memory_ends : IsInputsEnding view case_of first_fault i old new a_memory
  memory_ends = record {
    keeps = keeps;
    usage_only = memory_no_usage;
    cause = λ e. absurd (memory_no_fault e);
    missing_only = λ c e. absurd (memory_no_fault e);
    missing_due = λ c l. inr refl;
    answers = λ t no_fault memory. absurd (memory refl);
  }

  refusal_ends : (r : Refusal) → (IsTrue (view old).modelled → IsInputRefusal first_fault (view old).holds i Refused (refusal_text r))
      → (IsTrue (view old).modelled → (m : WrittenModel) (c : Case) → Says case_of (view old).holds i m c → ⊥)
      → (IsTrue (view old).only_missing_fail → LacksInput (view old).holds i → ⊥)
      → IsInputsEnding view case_of first_fault i old new (a_refusal r)
  refusal_ends r is none held = record {
    keeps = keeps;
    usage_only = refused_no_usage;
    cause = λ e. absurd (refused_no_fault e);
    missing_only = λ c e. absurd (refused_no_fault e);
    missing_due = λ c l. absurd (held c l);
    answers = λ t no_fault memory. (is t, none t);
  }

  -- a file could not be read whole
  pub unread_ends : (file : Which) → IsOfTwo file → (end : ReadEnd) (e : Ending) → IsUnread file end e
      → (end ≡ an_outside_fault → Rose (view old).faults (view new).faults)
      → (IsTrue (view old).only_missing_fail → end ≡ an_outside_fault → LacksInput (view old).holds i)
      → (IsTrue (view old).modelled → end ≡ past_limit → IsTooLarge (view old).holds (name_of file i))
      → (IsTrue (view old).modelled → file ≡ Test → (bytes : List ℕ) × IsRead (view old).holds i.model bytes)
      → IsInputsEnding view case_of first_fault i old new e
  unread_ends file two an_outside_fault e is rose lacking large read =
      let P : Ending → Type 0 = λ a. IsInputsEnding view case_of first_fault i old new a in
      subst P (sym is) (fault_ends (rose refl) (λ c. lacking c refl))
  unread_ends file two no_memory e is rose lacking large read =
      let P : Ending → Type 0 = λ a. IsInputsEnding view case_of first_fault i old new a in
      subst P (sym is) memory_ends
  unread_ends file two past_limit (a_refusal r) is rose lacking large read = refusal_ends r
      (λ t. let l = large t refl in refusal_of (view old).holds i l.bytes (too_large file) r (large_first (view old).holds i file two l (read t))
      (held_large l) is.0 is.1 is.2)
      (λ t. large_says_none (view old).holds i file two (large t refl))
      (λ c l. large_held (view old).holds i file two (large (failing_modelled c) refl) l (read (failing_modelled c)))
    where
      held_large : (l : IsTooLarge (view old).holds (name_of file i)) → (view old).holds (name_of file i) ≡ Some l.bytes
      held_large l = l.held
  unread_ends file two past_limit a_read_fault is rose lacking large read = absurd is
  unread_ends file two past_limit a_memory is rose lacking large read = absurd is

  -- these bytes say no front
  pub bytes_end : (mb tb : List ℕ) (read : IsTrue (view old).modelled → IsRead (view old).holds i.model mb × IsRead (view old).holds i.test tb)
      (e : Ending) → IsBytesEnding case_of first_fault mb tb e → IsInputsEnding view case_of first_fault i old new e
  bytes_end mb tb read (a_refusal r) is = refusal_ends r
      (λ t. refusal_of (view old).holds i (bytes_of r.fault.file mb tb) r.fault r (in_bytes (read t).0 (read t).1 is.0)
      (held_in (view old).holds i mb tb r.fault.file is.1 (read t).0 (read t).1) refl is.3.0 is.3.1)
      (λ t. says_none (view old).holds i mb tb (read t).0 (read t).1 is.2)
      (λ c. both_held (view old).holds i mb tb (read (failing_modelled c)))
  bytes_end mb tb read a_memory is = memory_ends
  bytes_end mb tb read a_read_fault is = absurd is

-- a file that is not read whole ends each command alike, whatever the form of the second one
size_refusal : {first_fault : List ℕ → List ℕ → InputFault → Type 0} {holds : Contents} {i : Inputs} {status : Status} {text : List ℕ}
    → IsInputRefusal NoFault holds i status text → IsInputRefusal first_fault holds i status text
size_refusal (refusal (large_model l) held) = refusal (large_model l) held
size_refusal (refusal (large_test r l) held) = refusal (large_test r l) held
size_refusal (refusal (in_bytes rm rt is) held) = absurd is

says_any : {case_of : List ℕ → Case → Type 0} {holds : Contents} {i : Inputs} (m : WrittenModel) (c : Case)
    → Says case_of holds i m c → Says AnyCase holds i m c
says_any m c says = record {
  model_bytes = says.model_bytes;
  test_bytes = says.test_bytes;
  model_read = says.model_read;
  test_read = says.test_read;
  says_model = says.says_model;
  says_case = tt;
}

pub ended_unread : {F : Type 0} {view : F → FilesView} {old new : F} {case_of : List ℕ → Case → Type 0}
    {first_fault : List ℕ → List ℕ → InputFault → Type 0} {i : Inputs}
    (e : Ending) → IsUnreadEnding view i old new e → IsInputsEnding view case_of first_fault i old new e
ended_unread e d = record {
  keeps = d.keeps;
  usage_only = d.usage_only;
  cause = d.cause;
  missing_only = d.missing_only;
  missing_due = d.missing_due;
  answers = λ t no_fault memory. let a = d.answers t no_fault memory in (size_refusal a.0, λ m c says. a.1 m c (says_any m c says));
}
