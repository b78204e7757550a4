-- What is answered to a command over the contents of the files, with the text that is written.
use Rattle.std.specs.Prelude.{◌⊎◌, ℕ, List, codes}
use Rattle.pc_common.specs.declared.status.Status.{Status, TheVariants.{Usage}}
use Rattle.litmus_reader.specs.Answer.{CaseOf}
use Rattle.pc_front.specs.Front.{IsFirstFrontFault as IsTestFault}
use Rattle.command_base.specs.{Inputs.{Contents, LacksInput}, Outcomes.{LacksThirdFile}, Listings.{IsFirstListingFault as IsListingFault}}
use Rattle.verdicts.specs.CheckAnswers.{AnswersCheck}
use Rattle.verify_command.specs.{VerifyAnswers.{AnswersVerify}, LiftedAnswers.{AnswersLifted}}
use Rattle.core_command.specs.CoreAnswers.{AnswersCore}
use Rattle.x86_litmus.specs.Answer.{CaseOf as ListingCase}
use Rattle.pc_ground.specs.declared.version.Version.TheVariants.{One}
use Rattle.sweep_command.specs.SweepAnswers.{AnswersSweep}
use Rattle.ask_command.specs.{AskFiles.{LacksAskedFile}, AskAnswers.{AnswersAsk}}
use Rattle.lift_command.specs.LiftAnswers.{AnswersLift}
use Rattle.gen_command.specs.GenAnswers.{AnswersGen}
use Rattle.command_base.specs.Command.{Command, check, verify, find_core, check_listing, verify_listing, sweep_rows, verify_lifted, ask_query, lift_tree, gen, IsCommand, IsNoCommand}

abbrev pub usage_text : List ℕ
usage_text = codes "pipecheck: bad command line\n"

-- the answer to a command
abbrev pub AnswersCommand : Contents → Command → Status → List ℕ → Type 0
AnswersCommand holds (check version i) = AnswersCheck CaseOf IsTestFault holds i version
AnswersCommand holds (verify i certificate) = AnswersVerify CaseOf IsTestFault holds i certificate
AnswersCommand holds (find_core i) = AnswersCore CaseOf IsTestFault holds i
AnswersCommand holds (check_listing i) = AnswersCheck ListingCase IsListingFault holds i One
AnswersCommand holds (verify_listing i certificate) = AnswersVerify ListingCase IsListingFault holds i certificate
AnswersCommand holds (sweep_rows i) = AnswersSweep holds i
AnswersCommand holds (verify_lifted i certificate) = AnswersLifted CaseOf IsTestFault holds i certificate
AnswersCommand holds (ask_query i query) = AnswersAsk holds i query
AnswersCommand holds (lift_tree i certificate) = AnswersLift CaseOf IsTestFault holds i certificate
AnswersCommand holds (gen n) = AnswersGen n

-- the answer to the words, where the names hold these contents, with its text
pub data Answers (words : List (List ℕ)) (holds : Contents) : Status → List ℕ → Type 0 where
  usage : IsNoCommand words → Answers words holds Usage usage_text
  answered : {status : Status} {text : List ℕ} (c : Command) → IsCommand words c → AnswersCommand holds c status text
      → Answers words holds status text

-- the order of work of a command comes to a name that is not held
abbrev pub Lacks : Contents → Command → Type 0
Lacks holds (check version i) = LacksInput holds i
Lacks holds (verify i certificate) = LacksInput holds i ⊎ LacksThirdFile CaseOf holds i certificate
Lacks holds (find_core i) = LacksInput holds i
Lacks holds (check_listing i) = LacksInput holds i
Lacks holds (verify_listing i certificate) = LacksInput holds i ⊎ LacksThirdFile ListingCase holds i certificate
Lacks holds (sweep_rows i) = LacksInput holds i
Lacks holds (verify_lifted i certificate) = LacksInput holds i ⊎ LacksThirdFile CaseOf holds i certificate
Lacks holds (ask_query i query) = LacksAskedFile holds i query
Lacks holds (lift_tree i certificate) = LacksInput holds i ⊎ LacksThirdFile CaseOf holds i certificate
Lacks holds (gen n) = ⊥

-- so it is with the command that the words are
abbrev pub LacksNamedFile : List (List ℕ) → Contents → Type 0
LacksNamedFile words holds = (c : Command) × IsCommand words c × Lacks holds c
