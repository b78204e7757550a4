use Rattle.graph_text.proofs.WholeGraphs.{judged_good, judged_bad}
use Rattle.graph_text.proofs.graph_reading.GraphJudgeJudge.step.Goals as goal

pub returns-clause-goes : goal.returns-clause-goes
returns-clause-goes g c =
    judged_good c.args.self.now.names.now g.K.Named.names c.args.self.now.graph c.take.new.self c.args.line.now c.take.result
    c.take.ensures.taken c.take.ensures.of_names

pub returns-clause-refused : goal.returns-clause-refused
returns-clause-refused g c =
    judged_bad c.args.self.now.names.now g.K.Named.names c.args.self.now.graph c.take.new.self c.args.line.now c.take.result c.take.ensures.taken
