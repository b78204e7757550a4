use Rattle.std.proofs.{Common.{refl}, lemmas.Result.{on_ok_weaker}}
use Rattle.refutation.specs.BranchFacts.{plain_branch_fact}
use Rattle.lifter.{specs.declared.state.State.{State}, proofs.StateMoves.{marked}}
use Rattle.lifter.proofs.moving.mark.Goals as goal

pub returns-clause-moves : goal.returns-clause-moves
returns-clause-moves c =
    let s = c.args.state.now in
    let new : State = record { facts = s.facts; known = c.add.new.self; later = s.later; steps = s.steps } in
    on_ok_weaker c.add.result (λ m rows is. marked c.args.case.now rows s new (plain_branch_fact c.args.key) c.args.number m is refl refl refl) c.add.ensures

pub returns-clause-has : goal.returns-clause-has
returns-clause-has c = on_ok_weaker c.add.result (λ m. m.has) c.add.ensures
