use Rattle.axiom_core.{specs.declared.answer.Core.TheVariants.{None as no_core}, proofs.SameCores.{found_forbid, core_none, core_none_ok}}
use Rattle.axiom_core.proofs.cores.core.Goals as goal

pub returns-in-Observable-clause-none : goal.returns-in-Observable-clause-none
returns-in-Observable-clause-none g c =
    core_none c.args.front.now (no_core c.in-Observable.graph) (rw c.in-Observable.is at c.in_ok-graph.ensures)

pub minimal_core-requires : goal.minimal_core-requires
minimal_core-requires g c = found_forbid c.args.front.now c.in-Unobservable.field-0 (rw c.in-Unobservable.is at c.in_ok-graph.ensures)

pub returns-clause-none : goal.returns-clause-none
returns-clause-none g c = core_none_ok c.args.front.now c.minimal_core.result c.minimal_core.ensures

pub returns-clause-core : goal.returns-clause-core
returns-clause-core g c = c.minimal_core.ensures
