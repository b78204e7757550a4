use Rattle.std.proofs.Common.{sym, ◌∙◌, ap, subst, [], List}
use Rattle.pc_common.specs.Case.{Case}
use Rattle.pc_syntax.specs.declared.closed.Closed.{Closed}
use Rattle.lifted_check.specs.{LiftedTexts.{Question, asked}, Stages.{Stands}}
use Rattle.lifted_check.proofs.checker.LiftedChecker.new.Goals as goal

pub new-requires-clause-stands : goal.new-requires-clause-stands
new-requires-clause-stands c =
    let same = ap (λ (d : Case). asked d c.new-judge.result.axioms.now) c.new-judge.ensures.case
    ∙ ap (λ (as_ : List Closed). asked c.args.case.now as_) c.new-judge.ensures.axioms in
    let P : Question → Type 0 = λ q. Stands q c.new-judge.result.stage [] in
    subst P (sym same) c.new-judge.ensures.stands

pub returns : goal.returns
returns c = record {
  start = c.new-judge.result;
  asks = ap (λ (d : Case). asked d c.new-judge.result.axioms.now) c.new-judge.ensures.case
      ∙ ap (λ (as_ : List Closed). asked c.args.case.now as_) c.new-judge.ensures.axioms;
  taken = c.new.ensures;
}
