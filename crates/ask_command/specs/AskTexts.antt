-- The text of an answer to `ask`, by the texts of its two certificates.
use Rattle.std.specs.Prelude.{ℕ, List, ◌++◌, codes}
use Rattle.ask_command.specs.declared.outcome.AskWord.{AskWord, TheVariants.{Always, Never, Sometimes, Vacuous}}

-- the lines before the first certificate
abbrev pub head_text : AskWord → List ℕ
head_text Always = codes "ask always\nwith\n"
head_text Never = codes "ask never\nwith\n"
head_text Sometimes = codes "ask sometimes\nwith\n"
head_text Vacuous = codes "ask vacuous\nwith\n"

-- with the certificate where the formula is added, and that where its denial is
abbrev pub ask_text : AskWord → List ℕ → List ℕ → List ℕ
ask_text word added against = head_text word ++ (added ++ (codes "against\n" ++ (against ++ codes "end\n")))
