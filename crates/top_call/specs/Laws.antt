-- What holds of every two runs.
use Rattle.std.specs.Prelude.{◌≡◌, ◌≤◌, List, ℕ, Some, length}
use Rattle.pc_common.specs.declared.{status.Status.{Status}, limits.TheConstants.{MAX_CERTIFICATE}}
use Rattle.pc_ground.specs.declared.version.Version.{Version}
use Rattle.command_base.specs.{Inputs.{Inputs, Contents}, Command.{Command, check, verify, check_listing, verify_listing, IsCommand}}
use Rattle.top_call.specs.Answers.{Answers}

-- what the first command writes to two files, the second one judges
pub data Judges (i : Inputs) (certificate : List ℕ) : Command → Command → Type 0 where
  of_a_test : {version : Version} → Judges i certificate (check version i) (verify i certificate)
  of_a_listing : Judges i certificate (check_listing i) (verify_listing i certificate)

-- what `check`, `check2` or `check86` answers to two files, within the limit of a certificate, `verify` or `verify86` answers
-- with the same status, if it is given these two and that text
abbrev pub HasOneStatus : Contents → Contents → Type 0
HasOneStatus holds later =
    (i : Inputs) (certificate text line : List ℕ) (words again : List (List ℕ)) (status second : Status)
    (writer judge : Command)
    → Judges i certificate writer judge → IsCommand words writer → IsCommand again judge
    → later i.model ≡ holds i.model → later i.test ≡ holds i.test
    → Answers words holds status text → length text ≤ MAX_CERTIFICATE → later certificate ≡ Some text
    → Answers again later second line
    → second ≡ status
