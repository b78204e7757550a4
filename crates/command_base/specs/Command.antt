-- A command, and which words are one.
use Rattle.std.specs.{Prelude.{◌≡◌, ◌≤◌, ⊤, ℕ, List, [], ◌∷◌, Bool, Option, Some, None, IsTrue, String, map, codes}, Fmt.{decimal}, String.{string_bytes}}
use Rattle.pc_ground.specs.declared.version.Version.{Version, TheVariants.{One, Two}}
use Rattle.command_base.specs.{Inputs.{Inputs, plain_inputs}, declared.command.Command.{Command as CodeCommand}}
use Rattle.command_base.specs.declared.command.Command.TheVariants.{Check, Verify, Core, CheckListing, VerifyListing, Sweep, VerifyLifted, Ask, Lift, Gen}

pub data Command : Type 0 where
  -- with refutations of this version
  check : Version → Inputs → Command
  -- with the name of a certificate
  verify : Inputs → List ℕ → Command
  -- which axioms forbid the outcome
  find_core : Inputs → Command
  -- the second file is a listing of herd's
  check_listing : Inputs → Command
  -- so, with the name of a certificate
  verify_listing : Inputs → List ℕ → Command
  -- the second file is a pattern
  sweep_rows : Inputs → Command
  -- with the name of a lifted refutation
  verify_lifted : Inputs → List ℕ → Command
  -- with the name of a query
  ask_query : Inputs → List ℕ → Command
  -- with the name of a certificate that is lifted
  lift_tree : Inputs → List ℕ → Command
  -- a number of cores
  gen : ℕ → Command

-- without pointers
abbrev pub plain_command : CodeCommand → Command
plain_command (Check version i) = check version (plain_inputs i)
plain_command (Verify i certificate) = verify (plain_inputs i) certificate.now
plain_command (Core i) = find_core (plain_inputs i)
plain_command (CheckListing i) = check_listing (plain_inputs i)
plain_command (VerifyListing i certificate) = verify_listing (plain_inputs i) certificate.now
plain_command (Sweep i) = sweep_rows (plain_inputs i)
plain_command (VerifyLifted i certificate) = verify_lifted (plain_inputs i) certificate.now
plain_command (Ask i query) = ask_query (plain_inputs i) query.now
plain_command (Lift i certificate) = lift_tree (plain_inputs i) certificate.now
plain_command (Gen n) = gen n

-- the words by which a command is spelt; no two commands have one first word
abbrev pub words_of : Command → List (List ℕ)
words_of (check One i) = codes "check" ∷ i.model ∷ i.test ∷ []
words_of (check Two i) = codes "check2" ∷ i.model ∷ i.test ∷ []
words_of (verify i certificate) = codes "verify" ∷ i.model ∷ i.test ∷ certificate ∷ []
words_of (find_core i) = codes "core" ∷ i.model ∷ i.test ∷ []
words_of (check_listing i) = codes "check86" ∷ i.model ∷ i.test ∷ []
words_of (verify_listing i certificate) = codes "verify86" ∷ i.model ∷ i.test ∷ certificate ∷ []
words_of (sweep_rows i) = codes "sweep" ∷ i.model ∷ i.test ∷ []
words_of (verify_lifted i certificate) = codes "verify-lifted" ∷ i.model ∷ i.test ∷ certificate ∷ []
words_of (ask_query i query) = codes "ask" ∷ i.model ∷ i.test ∷ query ∷ []
words_of (lift_tree i certificate) = codes "lift" ∷ i.model ∷ i.test ∷ certificate ∷ []
words_of (gen n) = codes "gen" ∷ decimal n ∷ []

-- the command is within its limits
abbrev pub IsWithin : Command → Type 0
IsWithin (check version i) = ⊤
IsWithin (verify i certificate) = ⊤
IsWithin (find_core i) = ⊤
IsWithin (check_listing i) = ⊤
IsWithin (verify_listing i certificate) = ⊤
IsWithin (sweep_rows i) = ⊤
IsWithin (verify_lifted i certificate) = ⊤
IsWithin (ask_query i query) = ⊤
IsWithin (lift_tree i certificate) = ⊤
IsWithin (gen n) = (2 ≤ n) × (n ≤ 16)

-- the words as bytes
abbrev pub word_bytes : {Z : Type 0} → List (String Z) → List (List ℕ)
word_bytes words = map string_bytes words

abbrev pub IsCommand : List (List ℕ) → Command → Type 0
IsCommand words c = (words ≡ words_of c) × IsWithin c

-- the words spell the command of the code
abbrev pub Spell : List (List ℕ) → CodeCommand → Type 0
Spell words c = IsCommand words (plain_command c)

abbrev pub IsNoCommand : List (List ℕ) → Type 0
IsNoCommand words = (c : Command) → IsCommand words c → ⊥

-- the model and the second file that a command reads, where it reads two
abbrev pub inputs_of : Command → Option Inputs
inputs_of (check version i) = Some i
inputs_of (verify i certificate) = Some i
inputs_of (find_core i) = Some i
inputs_of (check_listing i) = Some i
inputs_of (verify_listing i certificate) = Some i
inputs_of (sweep_rows i) = Some i
inputs_of (verify_lifted i certificate) = Some i
inputs_of (ask_query i query) = Some i
inputs_of (lift_tree i certificate) = Some i
inputs_of (gen n) = None

-- the command reads files only if clauses say what they hold
abbrev pub ReadsOnlyIf : Command → Bool → Type 0
ReadsOnlyIf c told = (i : Inputs) → inputs_of c ≡ Some i → IsTrue told

-- so with the command that the words are; words that are none read no file
abbrev pub WordsReadOnlyIf : List (List ℕ) → Bool → Type 0
WordsReadOnlyIf words told = (c : Command) → IsCommand words c → ReadsOnlyIf c told

-- the words are no command that reads files
abbrev pub ReadsNoFiles : List (List ℕ) → Type 0
ReadsNoFiles words = (c : Command) → IsCommand words c → inputs_of c ≡ None
