-- What is kept of the arguments that are given to a predicate.
use Rattle.std.specs.Prelude.{length}
use Rattle.pc_syntax.specs.{IsClosed.{FitArgs}, Predicates.{takes_of}}
use Rattle.static_preds.specs.{declared.given.Given.{Given}, Values.{values_of, scope_of, AreOpsBelow}}

-- they fit the predicate, and the micro-ops among them are the case's
pub record IsGiven (g : Given) : Type 0 where
  pub fit : FitArgs (scope_of g.env.now.items) (takes_of g.pred) g.args.now
  pub below : AreOpsBelow (length g.case.now.ops) (values_of g.env.now.items g.args.now)
