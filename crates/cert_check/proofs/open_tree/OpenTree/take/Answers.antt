use Rattle.std.{proofs.{Common.{◌≡◌, true, false, Bool, List, refl, sym, ◌∙◌}, lemmas.Result.{IfOk-weaker}}, specs.Prelude.{codes}}
use Rattle.pc_common.specs.{World.{Node}, Lines.{Line}}
use Rattle.pc_ground.specs.{Tree.{Tree}, declared.version.Version.{Version}, Refutes.{Branch}}
use Rattle.tree_check.specs.OpenBranches.{Stands}
use Rattle.cert_check.specs.{Certificates.{Question}, Stages.{HasAdvanced, StepsOn, IsTreeSoFar}, declared.open_tree.OpenTree.{OpenTree}}
use Rattle.cert_check.{specs.declared.stage.Stage.TheVariants.{Tree as TreeStage}, proofs.Advances.{not_two, version_goes, tree_advanced}}
use Rattle.cert_check.proofs.open_tree.OpenTree.take.Goals as goal

pub returns-then-says_two : goal.returns-then-says_two
returns-then-says_two c = λ q names lines so_far no_end.
    let says = c.may_say_two-says_two.ensures.0 c.if-says_two.true in
    version_goes q c.args.self.now _ lines c.args.line.now so_far says.0 refl says.1 c.begin_two.ensures

pub returns : goal.returns
returns c =
    let old = c.args.self.now in let text = c.args.line.now in
    let new : OpenTree = record { branches = c.take_line.new.branches; is_new = false } in
    IfOk-weaker c.take_line.result
    (λ good. (v : Version) (t : Tree Node) (opens : List Branch) → Stands old.branches v t opens → StepsOn c.args.names.now v t opens text
    c.take_line.new.branches good)
    (λ good. (q : Question) → c.args.names.now ≡ q.names → (lines : List Line) → IsTreeSoFar q old lines → (text ≡ codes "end" → ⊥)
    → HasAdvanced q lines text (TreeStage new) good)
    (λ good h q names lines so_far no_end.
    tree_advanced q c.args.names.now names old new lines text so_far
    (not_two q old lines text so_far no_end (λ both. clash (c.may_say_two-says_two.ensures.1 both) c.if-says_two.false))
    refl good (h so_far.version q.tree so_far.opens so_far.stands))
    c.take_line.ensures
  where
    clash : {b : Bool} → b ≡ true → b ≡ false → ⊥
    clash t f = (let e : true ≡ false = sym t ∙ f in cc)
