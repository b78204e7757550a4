-- The answer to a command is true, and the one that is due.
use Rattle.std.proofs.Common.{◌≢◌, ℕ, List, subst}
use Rattle.pc_common.specs.declared.status.Status.{Status}
use Rattle.pc_common.specs.declared.status.Status.TheVariants.{Observable, Unobservable, Done, Usage, Refused, ReadFault, WriteFault, CertRefused, Memory}
use Rattle.command_base.{specs.Inputs.{Contents}, proofs.{TestForm.{test_form}, ListingForm.{listing_form}, OneCommand.{one_command}}}
use Rattle.verdicts.proofs.CheckOutcomes.{check_true, check_due}
use Rattle.verify_command.proofs.{VerifyOutcomes.{verify_true, verify_due}, LiftedOutcomes.{lifted_true, lifted_due}}
use Rattle.core_command.proofs.CoreOutcomes.{core_due}
use Rattle.sweep_command.proofs.SweepOutcomes.{sweep_due}
use Rattle.ask_command.proofs.AskOutcomes.{ask_due}
use Rattle.lift_command.proofs.LiftOutcomes.{lift_true, lift_due}
use Rattle.gen_command.proofs.GenOutcomes.{gen_due}
use Rattle.command_base.specs.Command.{Command, check, verify, find_core, check_listing, verify_listing, sweep_rows, verify_lifted, ask_query, lift_tree, gen, IsCommand}
use Rattle.top_call.specs.{Answers.{Answers, usage, answered, AnswersCommand}, Headline.{IsVerdictTrueFor, IsVerdictTrue, IsDueTo, IsDue}, Runs.{HasAnswered}}

-- the answer to words is one to the command that they are
pub answer_to_command : {words : List (List ℕ)} {holds : Contents} {status : Status} {text : List ℕ} → Answers words holds status text
    → (c : Command) → IsCommand words c → AnswersCommand holds c status text
answer_to_command (usage none) c is = absurd (none c is)
answer_to_command {words} {holds} {status} {text} (answered d other a) c is =
    let P : Command → Type 0 = λ k. AnswersCommand holds k status text in subst P (one_command words d c other is) a

true_to : (holds : Contents) (status : Status) (text : List ℕ) (c : Command) → AnswersCommand holds c status text → IsVerdictTrueFor holds c status
true_to holds status text (check version i) a = check_true test_form a
true_to holds status text (verify i certificate) a = verify_true test_form a
true_to holds status text (find_core i) a = tt
true_to holds status text (check_listing i) a = check_true listing_form a
true_to holds status text (verify_listing i certificate) a = verify_true listing_form a
true_to holds status text (sweep_rows i) a = tt
true_to holds status text (verify_lifted i certificate) a = lifted_true test_form a
true_to holds status text (ask_query i query) a = tt
true_to holds status text (lift_tree i certificate) a = lift_true test_form a
true_to holds status text (gen n) a = tt

due_to : (holds : Contents) (status : Status) (text : List ℕ) (c : Command) → AnswersCommand holds c status text → IsDueTo holds c status
due_to holds status text (check version i) a = check_due test_form a
due_to holds status text (verify i certificate) a = verify_due test_form a
due_to holds status text (find_core i) a = core_due test_form a
due_to holds status text (check_listing i) a = check_due listing_form a
due_to holds status text (verify_listing i certificate) a = verify_due listing_form a
due_to holds status text (sweep_rows i) a = sweep_due a
due_to holds status text (verify_lifted i certificate) a = lifted_due test_form a
due_to holds status text (ask_query i query) a = ask_due a
due_to holds status text (lift_tree i certificate) a = lift_due test_form a
due_to holds status text (gen n) a = gen_due a

pub answer_true : {words : List (List ℕ)} {holds : Contents} {status : Status} {text : List ℕ}
    → Answers words holds status text → IsVerdictTrue words holds status
answer_true {holds = holds} {status = status} {text = text} a c is = true_to holds status text c (answer_to_command a c is)

pub answer_due : {words : List (List ℕ)} {holds : Contents} {status : Status} {text : List ℕ}
    → Answers words holds status text → IsDue words holds status
answer_due {holds = holds} {status = status} {text = text} a c is = due_to holds status text c (answer_to_command a c is)

-- a status that is no verdict's says nothing
silent_true : (holds : Contents) (status : Status) → status ≢ Observable → status ≢ Unobservable → (c : Command) → IsVerdictTrueFor holds c status
silent_true holds status no_o no_u (check version i) = λ m k says. (λ e. absurd (no_o e), λ e. absurd (no_u e))
silent_true holds status no_o no_u (verify i certificate) = λ m k says. (λ e. absurd (no_o e), λ e. absurd (no_u e))
silent_true holds status no_o no_u (find_core i) = tt
silent_true holds status no_o no_u (check_listing i) = λ m k says. (λ e. absurd (no_o e), λ e. absurd (no_u e))
silent_true holds status no_o no_u (verify_listing i certificate) = λ m k says. (λ e. absurd (no_o e), λ e. absurd (no_u e))
silent_true holds status no_o no_u (sweep_rows i) = tt
silent_true holds status no_o no_u (verify_lifted i certificate) = λ m k says. (λ e. absurd (no_o e), λ e. absurd (no_u e))
silent_true holds status no_o no_u (ask_query i query) = tt
silent_true holds status no_o no_u (lift_tree i certificate) = λ m k says. (λ e. absurd (no_o e), λ e. absurd (no_u e))
silent_true holds status no_o no_u (gen n) = tt

-- the status of a run is true, as some answer has it where nothing failed
pub status_true : {words : List (List ℕ)} {holds : Contents} (status : Status)
    → (HasAnswered status → (text : List ℕ) × Answers words holds status text) → IsVerdictTrue words holds status
status_true {holds = holds} ReadFault a = λ c is. silent_true holds ReadFault (λ e. cc) (λ e. cc) c
status_true {holds = holds} Memory a = λ c is. silent_true holds Memory (λ e. cc) (λ e. cc) c
status_true {holds = holds} WriteFault a = λ c is. silent_true holds WriteFault (λ e. cc) (λ e. cc) c
status_true Observable a = answer_true (a (λ e. cc, λ e. cc, λ e. cc)).1
status_true Unobservable a = answer_true (a (λ e. cc, λ e. cc, λ e. cc)).1
status_true Done a = answer_true (a (λ e. cc, λ e. cc, λ e. cc)).1
status_true Usage a = answer_true (a (λ e. cc, λ e. cc, λ e. cc)).1
status_true Refused a = answer_true (a (λ e. cc, λ e. cc, λ e. cc)).1
status_true CertRefused a = answer_true (a (λ e. cc, λ e. cc, λ e. cc)).1
