use Rattle.std.proofs.{Common.{◌≡◌, ◌<◌, ℕ, List, length, sym, subst, arith}, lemmas.List.{get_or_read}}
use Rattle.pc_ground.specs.Literals.{Joins}
use Rattle.order_graph.{specs.Levels.{IsSearched}, proofs.{Chains.{reach_follows}, EdgeWays.{reaches_near}, IsSearched.{searched_all, queued_node, stops_near}}}
use Rattle.order_graph.proofs.chain.spread.Goals as goal

pub returns-clause-near : goal.returns-clause-near
returns-clause-near c =
    let ls = c.args.literals.now in let target = c.args.target in let n = length c.args.levels.now in
    let levels = c.loop-done.levels in let nexts = c.loop-done.nexts in
    let queue : List ℕ = c.loop-done.queue.items in
    let s = c.loop-done.invariant in
    let home = s.home in
    let low = s.low in
    let ended = c.loop-done-test.false in
    let all : c.loop-done.done ≡ length queue = omega (arith, c.len.ensures) in
    let P : ℕ → Type 0 = λ h. IsSearched ls target n h levels nexts queue in
    let way = reach_follows (Joins ls) c.args.from target c.requires.there in
    reaches_near ls levels c.args.from way.0 target (searched_all ls target n levels nexts queue c.requires.below (subst P all s)) way.1
    (λ f. absurd (omega arith))

pub index-node-requires : goal.index-node-requires
index-node-requires c = let inside = c.loop-done-test.true in omega (arith, c.len.ensures)

pub bounds-levels-node : goal.bounds-levels-node
bounds-levels-node c =
    let queue : List ℕ = c.loop-done.queue.items in
    let test = c.loop-done-test.true in
    let inside : c.loop-done.done < length queue = omega (arith, c.len.ensures) in
    rw c.loop-done.invariant.levels_all
    (queued_node c.args.literals.now c.args.target (length c.args.levels.now) c.loop-done.done c.loop-done.levels c.loop-done.nexts queue
    c.index-node.result.now c.loop-done.invariant inside (get_or_read queue c.loop-done.done c.index-node.result.now inside c.index-node.ensures 0)).0

pub loop-done-init : goal.loop-done-init
loop-done-init c = c.requires.searched

pub returns-then-levels-node-clause-searched : goal.returns-then-levels-node-clause-searched
returns-then-levels-node-clause-searched c = (c.loop-done.done, c.loop-done.invariant)

pub returns-then-levels-node-clause-near : goal.returns-then-levels-node-clause-near
returns-then-levels-node-clause-near c =
    let queue : List ℕ = c.loop-done.queue.items in
    let test = c.loop-done-test.true in
    let inside : c.loop-done.done < length queue = omega (arith, c.len.ensures) in
    stops_near c.args.literals.now c.args.target (length c.args.levels.now) c.loop-done.done c.loop-done.levels c.loop-done.nexts queue
    c.index-node.result.now c.args.from c.loop-done.invariant c.requires.few inside
    (get_or_read queue c.loop-done.done c.index-node.result.now inside c.index-node.ensures 0) c.if-levels-node.true

pub bounds-heads-node : goal.bounds-heads-node
bounds-heads-node c =
    let queue : List ℕ = c.loop-done.queue.items in
    let test = c.loop-done-test.true in
    let inside : c.loop-done.done < length queue = omega (arith, c.len.ensures) in
    rw c.requires.lists.heads_all
    (queued_node c.args.literals.now c.args.target (length c.args.levels.now) c.loop-done.done c.loop-done.levels c.loop-done.nexts queue
    c.index-node.result.now c.loop-done.invariant inside (get_or_read queue c.loop-done.done c.index-node.result.now inside c.index-node.ensures 0)).0

pub visit-requires-clause-below : goal.visit-requires-clause-below
visit-requires-clause-below c = rw c.loop-done.invariant.levels_all c.requires.below

pub visit-requires-clause-few : goal.visit-requires-clause-few
visit-requires-clause-few c = rw c.loop-done.invariant.levels_all c.requires.few

pub visit-requires-clause-searched : goal.visit-requires-clause-searched
visit-requires-clause-searched c = rw c.loop-done.invariant.levels_all c.loop-done.invariant

pub visit-requires-clause-node_is : goal.visit-requires-clause-node_is
visit-requires-clause-node_is c =
    let queue : List ℕ = c.loop-done.queue.items in
    let test = c.loop-done-test.true in
    let inside : c.loop-done.done < length queue = omega (arith, c.len.ensures) in
    (inside, sym (get_or_read queue c.loop-done.done c.index-node.result.now inside c.index-node.ensures 0))

pub visit-requires-clause-links_all : goal.visit-requires-clause-links_all
visit-requires-clause-links_all c = c.requires.lists.links_all

pub visit-requires-clause-head_in : goal.visit-requires-clause-head_in
visit-requires-clause-head_in c = c.requires.lists.low c.index-node.result.now

pub visit-requires-clause-falling : goal.visit-requires-clause-falling
visit-requires-clause-falling c = c.requires.lists.falling

pub visit-requires-clause-all : goal.visit-requires-clause-all
visit-requires-clause-all c = λ k a inside is. c.requires.lists.all k a c.index-node.result.now inside is

pub loop-done-smaller : goal.loop-done-smaller
loop-done-smaller c = let test = c.loop-done-test.true in let counted = c.loop-done.invariant.count in omega (arith, c.len.ensures)

pub loop-done-preserved : goal.loop-done-preserved
loop-done-preserved c = rw c.loop-done.invariant.levels_all at c.in_ok-visit.ensures

pub returns-clause-searched : goal.returns-clause-searched
returns-clause-searched c = (c.loop-done.done, c.loop-done.invariant)
