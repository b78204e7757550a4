use Rattle.std.{proofs.Common.{◌∷◌}, specs.Prelude.{Result, codes}}
use Rattle.pc_ground.specs.{declared.line_fault.LineFault.{LineFault}, Words.{words}}
use Rattle.refutation.{specs.{StepWords.{ReadsWords}, declared.step_head.StepHead.{StepHead}}, proofs.StepWalk.{handed_on, some_words, cycle_fault, cycle_read}}
use Rattle.refutation.proofs.reading.read_cycle.Goals as goal

pub returns-in_err-read_nodes-clause-read : goal.returns-in_err-read_nodes-clause-read
returns-in_err-read_nodes-clause-read c =
    let P : Result StepHead LineFault → Type 0 = λ r. ReadsWords c.args.names.now (codes "cycle" ∷ words c.args.rest.now) c.read_nodes.new.row.nodes r in
    handed_on P c.from_residual.result c.in_err-read_nodes.field-0.0 c.from_residual.ensures.1
    (cycle_fault c.args.names.now (words c.args.rest.now) c.read_nodes.new.row.nodes c.read_nodes.new.row.nodes c.in_err-read_nodes.field-0.0
    (some_words c.args.rest.now) c.in_err-read_nodes.ensures.read)

pub returns-clause-read : goal.returns-clause-read
returns-clause-read c =
    cycle_read c.args.names.now (words c.args.rest.now) c.read_nodes.new.row.nodes (some_words c.args.rest.now) c.in_ok-read_nodes.ensures.read
