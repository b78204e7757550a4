-- How `ask` ends at its three files, and what it knows where they have no fault.
use Rattle.std.{proofs.Common.{◌≡◌, ◌⊎◌, inl, inr, ℕ, List, Some, None, refl, sym, ◌∙◌, subst}, specs.Prelude.{IsTrue}}
use Rattle.pc_common.specs.{Outside.{FilesView}, LineColumn.{line_of, column_of}, Case.{Case}, Faults.{Rose}, Reads.{Reads}}
use Rattle.pc_common.specs.declared.{fault.{InputFault.{InputFault}, Which.{Which, TheVariants.{Model, Test, Query}}}, reading.ReadEnd.{ReadEnd}}
use Rattle.pc_common.specs.declared.reading.ReadEnd.TheVariants.{ReadFault as an_outside_fault, TooLarge as past_limit, Memory as no_memory}
use Rattle.pc_common.specs.declared.status.Status.{Status, TheVariants.{Usage, Refused, ReadFault, Memory}}
use Rattle.pc_syntax.specs.Written.{Written, WrittenModel}
use Rattle.litmus_reader.specs.Answer.{CaseOf}
use Rattle.pc_front.{specs.Front.{SaysModel}, proofs.OneModel.{one_whole_model}}
use Rattle.ask_command.specs.{Queries.{SaysQuery, IsQueryFault}, Inquiries.{IsFirstInquiryFault as IsFaultOfBytes, in_two, in_query, SaysInquiry}}
use Rattle.ask_command.specs.declared.inquiry.Inquiry.{Inquiry}
use Rattle.ask_command.specs.AskFiles.{name_of, bytes_of, IsBytesEnding, AreRead, SaysAll, IsFirstAskFault, large_model, large_test, large_query, in_bytes, IsAskRefusal, refusal, WasRead, LacksAskedFile, HasInquiry, IsFilesEnding}
use Rattle.ask_command.proofs.OneQuery.{no_fault_beside}
use Rattle.command_base.specs.declared.{refusal.Refusal.{Refusal}, ending.Ending.{Ending}}
use Rattle.command_base.specs.declared.ending.Ending.TheVariants.{ReadFault as a_read_fault, Memory as a_memory, Refused as a_refusal}
use Rattle.command_base.specs.Inputs.{Inputs, Contents, IsTooLarge, too_large, large_model as model_is_large, large_test as test_is_large, in_bytes as bytes_have_one}
use Rattle.command_base.specs.{SecondFiles.{NoFault}, Refusals.{IsInputRefusal as IsRefusalOfTwo, refusal as refusal_of_two}}
use Rattle.command_base.{specs.{Endings.{ending_status, refusal_text, IsUnread}, Outcomes.{IsUnreadEnding}}, proofs.InputsRead.{refusal_is, some_none, memory_no_fault, memory_no_usage, fault_no_usage, refused_no_fault, refused_no_usage}}
use Rattle.command_base.proofs.{OneCase.{one_held, never_both}, TestForm.{test_form, test_kept}}

refused_no_memory : Refused ≡ Memory → ⊥
refused_no_memory e = cc

-- what is said of the second bytes is said of the first, where both are those of one name
moved : (P : List ℕ → Type 0) (holds : Contents) (name a b : List ℕ) → holds name ≡ Some a → holds name ≡ Some b → P b → P a
moved P holds name a b x y is = subst P (one_held holds name b a y x) is

module _ (holds : Contents) (i : Inputs) (query : List ℕ) where
  -- a refusal by the first fault
  refusal_of : (bytes : List ℕ) (f : InputFault) (r : Refusal) → IsFirstAskFault holds i query f → holds (name_of f.file i query) ≡ Some bytes
      → r.fault ≡ f → r.line ≡ line_of bytes f.place.offset → r.column ≡ column_of bytes f.place.offset
      → IsAskRefusal holds i query Refused (refusal_text r)
  refusal_of bytes f r first held e l c =
      let Q : List ℕ → Type 0 = λ t. IsAskRefusal holds i query Refused t in
      subst Q (refusal_is bytes f r e l c) (refusal first held)

  -- the file that a fault is in holds these bytes
  held_in : (mb tb qb : List ℕ) (file : Which) → AreRead holds i query mb tb qb → holds (name_of file i query) ≡ Some (bytes_of file mb tb qb)
  held_in mb tb qb Model read = read.model.held
  held_in mb tb qb Test read = read.test.held
  held_in mb tb qb Query read = read.third.held

  -- all names are held
  all_held : (mb tb qb : List ℕ) → AreRead holds i query mb tb qb → LacksAskedFile holds i query → ⊥
  all_held mb tb qb read (inl (inl none)) = some_none (sym read.model.held ∙ none)
  all_held mb tb qb read (inl (inr (first, none))) = some_none (sym read.test.held ∙ none)
  all_held mb tb qb read (inr (model, test, none)) = some_none (sym read.third.held ∙ none)

  -- where the first two were read, a query past the limit is held
  large_held : IsTooLarge holds query → WasRead holds i.model × WasRead holds i.test → LacksAskedFile holds i query → ⊥
  large_held l read (inl (inl none)) = some_none (sym read.0.1.held ∙ none)
  large_held l read (inl (inr (first, none))) = some_none (sym read.1.1.held ∙ none)
  large_held l read (inr (model, test, none)) = some_none (sym l.held ∙ none)

  -- a refusal of the first two for their size is one of the three
  size_refusal : {status : Status} {text : List ℕ} → IsRefusalOfTwo NoFault holds i status text → IsAskRefusal holds i query status text
  size_refusal (refusal_of_two (model_is_large l) held) = refusal (large_model l) held
  size_refusal (refusal_of_two (test_is_large r l) held) = refusal (large_test r l) held
  size_refusal (refusal_of_two (bytes_have_one rm rt is) held) = absurd is

  -- and comes only where one of them is not read
  size_unread : {status : Status} {text : List ℕ} → IsRefusalOfTwo NoFault holds i status text → WasRead holds i.model × WasRead holds i.test → ⊥
  size_unread (refusal_of_two (model_is_large l) held) read = never_both holds i.model read.0.0 read.0.1 l
  size_unread (refusal_of_two (test_is_large r l) held) read = never_both holds i.test read.1.0 read.1.1 l
  size_unread (refusal_of_two (bytes_have_one rm rt is) held) read = absurd is

  -- three files that say something have no fault
  pub no_fault_said : (m : WrittenModel) (c : Case) (f : Written) (x : InputFault) → SaysAll holds i query m c f → IsFirstAskFault holds i query x → ⊥
  no_fault_said m c f _ says (large_model l) = never_both holds i.model says.two.model_bytes says.two.model_read l
  no_fault_said m c f _ says (large_test r l) = never_both holds i.test says.two.test_bytes says.two.test_read l
  no_fault_said m c f _ says (large_query r s l) = never_both holds query says.bytes says.query_read l
  no_fault_said m c f x says (in_bytes {mb = mb} {tb = tb} {qb = qb} read is) = of_bytes is
    where
      model_says : SaysModel mb m
      model_says = moved (λ b. SaysModel b m) holds i.model mb says.two.model_bytes read.model.held says.two.model_read.held says.two.says_model

      test_says : CaseOf tb c
      test_says = moved (λ b. CaseOf b c) holds i.test tb says.two.test_bytes read.test.held says.two.test_read.held says.two.says_case

      query_says : SaysQuery m qb f
      query_says = moved (λ b. SaysQuery m b f) holds query qb says.bytes read.third.held says.query_read.held says.says_query

      of_query : (n : WrittenModel) → SaysModel mb n → IsQueryFault n qb x → ⊥
      of_query n other fault =
          let P : WrittenModel → Type 0 = λ k. IsQueryFault k qb x in
          no_fault_beside m qb f query_says x (subst P (one_whole_model mb n m other.model model_says.model) fault)

      of_bytes : IsFaultOfBytes mb tb qb x → ⊥
      of_bytes (in_two fault) = test_form.no_fault mb tb x fault m c model_says test_says
      of_bytes (in_query {m = n} other said fault) = of_query n other fault

module _ {F : Type 0} {view : F → FilesView} {old new : F} (failing_modelled : IsTrue (view old).only_missing_fail → IsTrue (view old).modelled)
    (keeps : Reads view old new) (i : Inputs) (query : List ℕ) where
  fault_ends : Rose (view old).faults (view new).faults → (IsTrue (view old).only_missing_fail → LacksAskedFile (view old).holds i query)
      → IsFilesEnding view i query old new a_read_fault
  fault_ends rose lacking = record {
    keeps = keeps;
    usage_only = fault_no_usage;
    cause = λ e. rose;
    missing_only = λ c e. lacking c;
    missing_due = λ c l. inl refl;
    answers = λ t no_fault memory. absurd (no_fault refl);
  }

  memory_ends : IsFilesEnding view i query old new a_memory
  memory_ends = record {
    keeps = keeps;
    usage_only = memory_no_usage;
    cause = λ e. absurd (memory_no_fault e);
    missing_only = λ c e. absurd (memory_no_fault e);
    missing_due = λ c l. inr refl;
    answers = λ t no_fault memory. absurd (memory refl);
  }

  refusal_ends : (r : Refusal) → (IsTrue (view old).modelled → IsAskRefusal (view old).holds i query Refused (refusal_text r))
      → (IsTrue (view old).only_missing_fail → LacksAskedFile (view old).holds i query → ⊥)
      → IsFilesEnding view i query old new (a_refusal r)
  refusal_ends r is held = record {
    keeps = keeps;
    usage_only = refused_no_usage;
    cause = λ e. absurd (refused_no_fault e);
    missing_only = λ c e. absurd (refused_no_fault e);
    missing_due = λ c l. absurd (held c l);
    answers = λ t no_fault memory. is t;
  }

  -- one of the first two could not be read whole
  pub two_end : (e : Ending) → IsUnreadEnding view i old new e → IsFilesEnding view i query old new e
  two_end e d = record {
    keeps = d.keeps;
    usage_only = d.usage_only;
    cause = d.cause;
    missing_only = λ c fault. inl (d.missing_only c fault);
    missing_due = due e d;
    answers = λ t no_fault memory. size_refusal (view old).holds i query (d.answers t no_fault memory).0;
  }
    where
      due : (e : Ending) → IsUnreadEnding view i old new e → IsTrue (view old).only_missing_fail → LacksAskedFile (view old).holds i query
          → (ending_status e ≡ ReadFault) ⊎ (ending_status e ≡ Memory)
      due e d c (inl two) = d.missing_due c two
      due a_read_fault d c (inr third) = inl refl
      due a_memory d c (inr third) = inr refl
      due (a_refusal r) d c (inr (model, test, none)) =
          absurd (size_unread (view old).holds i query (d.answers (failing_modelled c) refused_no_fault refused_no_memory).0 (model, test))

  -- the query could not be read whole
  pub query_end : (end : ReadEnd) (e : Ending) → IsUnread Query end e
      → (end ≡ an_outside_fault → Rose (view old).faults (view new).faults)
      → (IsTrue (view old).only_missing_fail → end ≡ an_outside_fault → (view old).holds query ≡ None)
      → (IsTrue (view old).modelled → end ≡ past_limit → IsTooLarge (view old).holds query)
      → (IsTrue (view old).modelled → WasRead (view old).holds i.model × WasRead (view old).holds i.test)
      → IsFilesEnding view i query old new e
  query_end an_outside_fault e is rose none large read =
      let P : Ending → Type 0 = λ a. IsFilesEnding view i query old new a in
      subst P (sym is) (fault_ends (rose refl) (λ c. let two = read (failing_modelled c) in inr (two.0, two.1, none c refl)))
  query_end no_memory e is rose none large read =
      let P : Ending → Type 0 = λ a. IsFilesEnding view i query old new a in
      subst P (sym is) memory_ends
  query_end past_limit (a_refusal r) is rose none large read = refusal_ends r
      (λ t. let l = large t refl in
      let two = read t in
      refusal_of (view old).holds i query l.bytes (too_large Query) r (large_query two.0.1 two.1.1 l) l.held is.0 is.1 is.2)
      (λ c. large_held (view old).holds i query (large (failing_modelled c) refl) (read (failing_modelled c)))
  query_end past_limit a_read_fault is rose none large read = absurd is
  query_end past_limit a_memory is rose none large read = absurd is

  module _ (mb tb qb : List ℕ) (read : IsTrue (view old).modelled → AreRead (view old).holds i query mb tb qb) where
    -- these bytes say nothing that can be asked
    pub bytes_end : (e : Ending) → IsBytesEnding mb tb qb e → IsFilesEnding view i query old new e
    bytes_end (a_refusal r) is = refusal_ends r
        (λ t. refusal_of (view old).holds i query (bytes_of r.fault.file mb tb qb) r.fault r (in_bytes (read t) is.0)
        (held_in (view old).holds i query mb tb qb r.fault.file (read t)) refl is.1.0 is.1.1)
        (λ c. all_held (view old).holds i query mb tb qb (read (failing_modelled c)))
    bytes_end a_memory is = memory_ends
    bytes_end a_read_fault is = absurd is

    -- these bytes say what is asked
    pub inquiry_read : (asked : Inquiry) → SaysInquiry mb tb qb asked → HasInquiry view i query old new asked
    inquiry_read asked say = record {
      keeps = keeps;
      m = say.m;
      c = say.c;
      f = say.f;
      sound = say.says_model.no_fault;
      askable = say.says_query.no_fault;
      inquiry_of = say.inquiry_of;
      kept = test_kept tb say.c say.says_test;
      says = λ t. record {
        two = record {
          model_bytes = mb;
          test_bytes = tb;
          model_read = (read t).model;
          test_read = (read t).test;
          says_model = say.says_model;
          says_case = say.says_test;
        };
        bytes = qb;
        query_read = (read t).third;
        says_query = say.says_query;
      };
      held = λ c. all_held (view old).holds i query mb tb qb (read (failing_modelled c));
    }
