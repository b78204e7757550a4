use Rattle.search_trait.proofs.FoundFronts.{found_front}
use Rattle.search_trait.proofs.solver_search.SolverFrontSearch.found_of.Goals as goal

pub returns : goal.returns
returns c = found_front c.args.front.now c.shorten_found.result c.shorten_found.ensures
