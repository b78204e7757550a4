use Rattle.command_base.specs.Command.{plain_command}
use Rattle.top_call.proofs.WordsOutcomes.{no_command_told, command_told}
use Rattle.top_call.proofs.top.answer_words.Goals as goal

pub returns-in-None : goal.returns-in-None
returns-in-None g c = no_command_told c.in-None.ensures c.tell.ensures

pub returns-in-Some : goal.returns-in-Some
returns-in-Some g c = command_told (plain_command c.in-Some.command) c.in-Some.ensures c.perform.ensures
