use Rattle.pattern_reader.proofs.EachOnce.{each_choice_once}
use Rattle.pattern_reader.proofs.laws.values_come_once.Goals as goal

pub returns : goal.returns
returns c = each_choice_once c.args.pattern.now.case c.args.pattern.now.opens
