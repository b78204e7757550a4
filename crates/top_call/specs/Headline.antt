-- What a status says of the files, and which status comes.
use Rattle.std.specs.Prelude.{⊤, ℕ, List}
use Rattle.pc_common.specs.{Case.{Case}, declared.status.Status.{Status}}
use Rattle.pc_syntax.specs.Written.{WrittenModel}
use Rattle.litmus_reader.specs.Answer.{CaseOf}
use Rattle.pc_front.specs.Front.{IsFirstFrontFault as IsTestFault}
use Rattle.command_base.specs.{Inputs.{Contents, Says}, VerdictStatus.{IsTrueStatus}, Listings.{IsFirstListingFault as IsListingFault}}
use Rattle.verdicts.specs.CheckAnswers.{IsCheckDue}
use Rattle.verify_command.specs.{VerifyAnswers.{IsVerifyDue}, LiftedAnswers.{IsLiftedDue}}
use Rattle.core_command.specs.CoreAnswers.{IsCoreDue}
use Rattle.x86_litmus.specs.Answer.{CaseOf as ListingCase}
use Rattle.sweep_command.specs.SweepAnswers.{IsSweepDue}
use Rattle.ask_command.specs.AskAnswers.{IsAskDue}
use Rattle.lift_command.specs.LiftAnswers.{IsLiftDue}
use Rattle.gen_command.specs.GenAnswers.{IsGenDue}
use Rattle.command_base.specs.Command.{Command, check, verify, find_core, check_listing, verify_listing, sweep_rows, verify_lifted, ask_query, lift_tree, gen, IsCommand}

-- what the statuses of a verdict say to a command: observable only where some choice of nodes with some strict order
-- makes every axiom true of the case, and unobservable only where none does; whatever a third file holds. `core`,
-- `sweep`, `ask` and `gen` have no such status
abbrev pub IsVerdictTrueFor : Contents → Command → Status → Type 0
IsVerdictTrueFor holds (check version i) status = (m : WrittenModel) (c : Case) → Says CaseOf holds i m c
    → IsTrueStatus m c status
IsVerdictTrueFor holds (verify i certificate) status = (m : WrittenModel) (c : Case) → Says CaseOf holds i m c
    → IsTrueStatus m c status
IsVerdictTrueFor holds (find_core i) status = ⊤
IsVerdictTrueFor holds (check_listing i) status = (m : WrittenModel) (c : Case) → Says ListingCase holds i m c
    → IsTrueStatus m c status
IsVerdictTrueFor holds (verify_listing i certificate) status = (m : WrittenModel) (c : Case) → Says ListingCase holds i m c
    → IsTrueStatus m c status
IsVerdictTrueFor holds (sweep_rows i) status = ⊤
IsVerdictTrueFor holds (verify_lifted i certificate) status = (m : WrittenModel) (c : Case) → Says CaseOf holds i m c
    → IsTrueStatus m c status
IsVerdictTrueFor holds (ask_query i query) status = ⊤
IsVerdictTrueFor holds (lift_tree i certificate) status = (m : WrittenModel) (c : Case) → Says CaseOf holds i m c
    → IsTrueStatus m c status
IsVerdictTrueFor holds (gen n) status = ⊤

abbrev pub IsVerdictTrue : List (List ℕ) → Contents → Status → Type 0
IsVerdictTrue words holds status = (c : Command) → IsCommand words c → IsVerdictTrueFor holds c status

-- the status that is due of a command
abbrev pub IsDueTo : Contents → Command → Status → Type 0
IsDueTo holds (check version i) = IsCheckDue CaseOf IsTestFault holds i
IsDueTo holds (verify i certificate) = IsVerifyDue CaseOf IsTestFault holds i certificate
IsDueTo holds (find_core i) = IsCoreDue CaseOf IsTestFault holds i
IsDueTo holds (check_listing i) = IsCheckDue ListingCase IsListingFault holds i
IsDueTo holds (verify_listing i certificate) = IsVerifyDue ListingCase IsListingFault holds i certificate
IsDueTo holds (sweep_rows i) = IsSweepDue holds i
IsDueTo holds (verify_lifted i certificate) = IsLiftedDue CaseOf IsTestFault holds i certificate
IsDueTo holds (ask_query i query) = IsAskDue holds i query
IsDueTo holds (lift_tree i certificate) = IsLiftDue CaseOf IsTestFault holds i certificate
IsDueTo holds (gen n) = IsGenDue n

abbrev pub IsDue : List (List ℕ) → Contents → Status → Type 0
IsDue words holds status = (c : Command) → IsCommand words c → IsDueTo holds c status
