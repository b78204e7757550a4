use Rattle.std.proofs.{Common.{sym}, lemmas.List.{append-nil}}
use Rattle.lift_command.proofs.words.put_numbers.Goals as goal

pub loop-number-init : goal.loop-number-init
loop-number-init c = sym (append-nil c.args.text.now.items)
