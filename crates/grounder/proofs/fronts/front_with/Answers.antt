use Rattle.grounder.proofs.fronts.front_with.Goals as goal

pub invariant_of-front_of : goal.invariant_of-front_of
invariant_of-front_of c = record {
  named = rw c.in_ok-stages.ensures c.args.front.now.named;
  within = rw c.in_ok-stages.ensures c.requires.within;
}
