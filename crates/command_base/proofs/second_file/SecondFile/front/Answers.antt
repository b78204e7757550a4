use Rattle.command_base.proofs.Forms.{front_said}
use Rattle.command_base.proofs.second_file.SecondFile.front.Goals as goal

pub returns-clause-ok : goal.returns-clause-ok
returns-clause-ok g c =
    let same = c.in_ok-front_of.ensures in
    front_said c.in_ok-parts.parts c.in_ok-front_of.field-0 same.case same.stages same.axioms c.in_ok-parts.ensures.ok
