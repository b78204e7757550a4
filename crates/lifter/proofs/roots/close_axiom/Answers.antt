use Rattle.std.proofs.{Common.{length, ap, arith}, lemmas.Result.{on_ok_weaker}}
use Rattle.pc_ground.specs.Stages.{plain_axioms}
use Rattle.lifted_facts.specs.PlainFacts.{root}
use Rattle.lifter.proofs.StateMoves.{mapped_length}
use Rattle.lifter.proofs.roots.close_axiom.Goals as goal

pub returns : goal.returns
returns c =
    let axioms = root (plain_axioms c.args.axioms.now) in
    let many = mapped_length c.args.state.now.facts.items in
    let same = ap length c.requires.facts in
    on_ok_weaker c.close.result (λ h start opens run. h start axioms opens (omega (arith, many, same, c.len-count.ensures)) c.false_axiom-found.ensures.is
    run) c.close.ensures
