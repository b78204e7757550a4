use Rattle.std.proofs.Common.{◌≡◌, ◌+◌, ◌-◌, ℕ, length, inl, sym, ◌∙◌, subst, arith}
use Rattle.order_graph.proofs.{OnList.{same_read}, IsSearched.{IsVisiting, visited, visiting_more, visiting_done}}
use Rattle.order_graph.proofs.chain.visit.Goals as goal

pub loop-at-init : goal.loop-at-init
loop-at-init c = record {
  searched = c.requires.searched;
  inside = c.requires.node_is.0;
  node_is = c.requires.node_is.1;
  at_in = c.requires.head_in;
  rest = λ k a inside is. inl (c.requires.all k a inside is);
}

pub follow-requires-clause-below : goal.follow-requires-clause-below
follow-requires-clause-below c =
    let positive = c.loop-at-test.true in let at_in = c.loop-at.invariant.at_in in
    rw c.loop-at.invariant.searched.levels_all (c.requires.below (c.loop-at.at - 1) _ (omega arith))

pub follow-requires-clause-node_in : goal.follow-requires-clause-node_in
follow-requires-clause-node_in c =
    rw c.loop-at.invariant.searched.levels_all
    (visited c.args.literals.now c.args.links.now c.args.target (length c.args.levels.now) c.args.done c.args.node c.loop-at.at c.loop-at.levels c.loop-at.nexts
    c.loop-at.queue.items c.loop-at.invariant c.requires.few).0

pub follow-requires-clause-all : goal.follow-requires-clause-all
follow-requires-clause-all c = let s = c.loop-at.invariant.searched in s.nexts_all ∙ sym s.levels_all

pub follow-requires-clause-low : goal.follow-requires-clause-low
follow-requires-clause-low c =
    (visited c.args.literals.now c.args.links.now c.args.target (length c.args.levels.now) c.args.done c.args.node c.loop-at.at c.loop-at.levels c.loop-at.nexts
    c.loop-at.queue.items c.loop-at.invariant c.requires.few).2

pub loop-at-preserved : goal.loop-at-preserved
loop-at-preserved c =
    let ls = c.args.literals.now in let links = c.args.links.now in let nodes = length c.args.levels.now in
    let l = c.loop-at in
    let i = l.at - 1 in
    let positive = c.loop-at-test.true in let at_in = l.invariant.at_in in
    let same : l.at ≡ i + 1 = omega arith in
    let P : ℕ → Type 0 = λ at. IsVisiting ls links c.args.target nodes c.args.done c.args.node at l.levels l.nexts l.queue.items in
    visiting_more ls links c.args.target nodes c.args.done c.args.node i l.levels l.nexts l.queue.items c.follow.new.levels c.follow.new.nexts
    c.follow.new.queue.items _ (subst P same l.invariant) c.requires.few c.requires.below c.requires.falling
    (λ d. same_read ls i d _ (omega arith)) c.in_ok-follow.ensures

pub returns : goal.returns
returns c =
    visiting_done c.args.literals.now c.args.links.now c.args.target (length c.args.levels.now) c.args.done c.args.node c.loop-at.at c.loop-at.levels
    c.loop-at.nexts
    c.loop-at.queue.items c.loop-at.invariant (let end = c.loop-at-test.false in omega arith)
