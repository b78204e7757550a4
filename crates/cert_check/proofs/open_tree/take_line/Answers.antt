use Rattle.std.{proofs.{Common.{List, ◌∙◌, subst}, lemmas.Result.{IfOk-weaker}}, specs.Prelude.{IfOk}}
use Rattle.pc_common.specs.{World.{Node}, Steps.{Step}}
use Rattle.pc_ground.specs.{Tree.{Tree}, declared.version.Version.{Version}, Refutes.{Branch}}
use Rattle.tree_check.specs.OpenBranches.{Stands, HasTakenStep}
use Rattle.cert_check.{specs.Stages.{StepsOn}, proofs.TakenLines.{line_steps, only_step}}
use Rattle.cert_check.proofs.open_tree.take_line.Goals as goal

pub returns-in-Ok : goal.returns-in-Ok
returns-in-Ok c =
    let read = c.in-Ok.ensures.read in
    let s = read.0 in
    let only = only_step c.args.names.now c.args.line.now s c.in-Ok.head c.read_line.new.row.nodes read.2 read.3 c.in-Ok.ensures.again in
    let old = c.args.branches.now in let new = c.take.new.self in
    let P : Step Node → Type 0 = λ r. IfOk c.take.result (λ good. HasTakenStep old r new good) in
    IfOk-weaker c.take.result (λ good. HasTakenStep old s new good)
    (λ good. (v : Version) (t : Tree Node) (opens : List Branch) → Stands old v t opens → StepsOn c.args.names.now v t opens c.args.line.now new good)
    (λ good h v t opens stands. line_steps c.args.names.now v t opens c.args.line.now s read.1 only new good (h v t opens stands))
    (subst P (c.kind.ensures s read.2 (c.as_slice.ensures ∙ read.3)) c.take.ensures)
