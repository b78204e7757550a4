use Rattle.std.proofs.{Common.{ℕ, List, length, set, sym, ◌∙◌, ap}, lemmas.List.{length-set}}
use Rattle.pc_ground.specs.Literals.{Joins}
use Rattle.order_graph.{specs.{Ways.{IsWay}, Levels.{IsNext}}, proofs.{Chains.{way_map}, IsSearched.{searched_first}, Results.{if_ok}}}
use Rattle.order_graph.proofs.chain.way_back.Goals as goal

pub spread-requires-clause-searched : goal.spread-requires-clause-searched
spread-requires-clause-searched c =
    let levels : List ℕ = c.args.levels.now in
    rw (length-set levels c.args.to 0, c.in_ok-queue.ensures.items)
    (searched_first c.args.literals.now c.args.to (length levels) (set levels c.args.to 0) c.args.nexts.now c.requires.to_in c.requires.all
    (ap (λ x. set x c.args.to 0) c.requires.clear))

pub spread-requires-clause-few : goal.spread-requires-clause-few
spread-requires-clause-few c = let levels : List ℕ = c.args.levels.now in rw (length-set levels c.args.to 0) c.requires.few

pub spread-requires-clause-below : goal.spread-requires-clause-below
spread-requires-clause-below c = let levels : List ℕ = c.args.levels.now in rw (length-set levels c.args.to 0) c.requires.below

pub spread-requires-clause-lists : goal.spread-requires-clause-lists
spread-requires-clause-lists c = let levels : List ℕ = c.args.levels.now in rw (length-set levels c.args.to 0) c.requires.lists

pub walk-requires-clause-all : goal.walk-requires-clause-all
walk-requires-clause-all c = let s = c.in_ok-spread.ensures.searched.1 in s.nexts_all ∙ sym s.levels_all

pub walk-requires-clause-from_in : goal.walk-requires-clause-from_in
walk-requires-clause-from_in c =
    let levels : List ℕ = c.args.levels.now in
    rw (c.in_ok-spread.ensures.searched.1.levels_all, length-set levels c.args.to 0) c.requires.from_in

pub walk-requires-clause-next : goal.walk-requires-clause-next
walk-requires-clause-next c = c.in_ok-spread.ensures.searched.1.next

pub walk-requires-clause-near : goal.walk-requires-clause-near
walk-requires-clause-near c = c.in_ok-spread.ensures.near

pub returns : goal.returns
returns c =
    let ls = c.args.literals.now in
    let next = IsNext c.spread.new.levels c.spread.new.nexts in
    if_ok (λ way. IsWay next c.args.from way.items c.args.to) (λ way. IsWay (Joins ls) c.args.from way.items c.args.to) c.walk.result c.walk.ensures
    (λ way w. way_map next (Joins ls) c.in_ok-spread.ensures.searched.1.steps c.args.from way.items c.args.to w)
