use Rattle.std.proofs.Common.{◌≡◌, ◌∙◌, length, sym, arith}
use Rattle.order_graph.proofs.chain.way.Goals as goal

pub way_back-requires-clause-few : goal.way_back-requires-clause-few
way_back-requires-clause-few c =
    let size : length c.deref_mut.result.now ≡ c.args.nodes = c.deref_mut.ensures.len ∙ c.in_ok-levels.ensures.len in
    let few = c.requires.few in omega arith

pub way_back-requires-clause-all : goal.way_back-requires-clause-all
way_back-requires-clause-all c = c.deref_mut-2.ensures.len ∙ c.in_ok-nexts.ensures.len ∙ sym (c.deref_mut.ensures.len ∙ c.in_ok-levels.ensures.len)

pub way_back-requires-clause-below : goal.way_back-requires-clause-below
way_back-requires-clause-below c =
    let size : length c.deref_mut.result.now ≡ c.args.nodes = c.deref_mut.ensures.len ∙ c.in_ok-levels.ensures.len in rw size c.requires.below

pub way_back-requires-clause-lists : goal.way_back-requires-clause-lists
way_back-requires-clause-lists c =
    let size : length c.deref_mut.result.now ≡ c.args.nodes = c.deref_mut.ensures.len ∙ c.in_ok-levels.ensures.len in
    rw (size, c.deref.ensures.value, c.deref-2.ensures.value) c.in_ok-heads.ensures

pub way_back-requires-clause-from_in : goal.way_back-requires-clause-from_in
way_back-requires-clause-from_in c =
    let size : length c.deref_mut.result.now ≡ c.args.nodes = c.deref_mut.ensures.len ∙ c.in_ok-levels.ensures.len in rw size c.requires.from_in

pub way_back-requires-clause-to_in : goal.way_back-requires-clause-to_in
way_back-requires-clause-to_in c =
    let size : length c.deref_mut.result.now ≡ c.args.nodes = c.deref_mut.ensures.len ∙ c.in_ok-levels.ensures.len in rw size c.requires.to_in

pub way_back-requires-clause-there : goal.way_back-requires-clause-there
way_back-requires-clause-there c = c.requires.there
