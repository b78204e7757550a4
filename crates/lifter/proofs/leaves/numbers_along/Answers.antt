use Rattle.std.proofs.{Common.{◌≤◌, length, arith, rules}, lemmas.Option.{slice_get_read}}
use Rattle.lifter.proofs.KeyedEdges.{next_edges, last_edge, next_numbers, all_numbers}
use Rattle.lifter.proofs.leaves.numbers_along.Goals as goal

pub loop-next-init : goal.loop-next-init
loop-next-init c = record { edges = c.requires; numbers = λ ks h. rw c.new-numbers.ensures h }

pub number_of-requires : goal.number_of-requires
number_of-requires c =
    let via = c.args.via.now in let k = c.loop-next.next-index in
    let there = slice_get_read via _ k c.next-item.result (search rules) c.loop-next-test.true c.next-item.is in
    (next_edges c.args.known.now c.args.to via c.loop-next.at k c.next-item.result there c.loop-next.invariant.edges).0

pub loop-next-preserved : goal.loop-next-preserved
loop-next-preserved c =
    let via = c.args.via.now in let k = c.loop-next.next-index in let x = c.next-item.result in
    let there = slice_get_read via _ k x (search rules) c.loop-next-test.true c.next-item.is in
    record {
      edges = (next_edges c.args.known.now c.args.to via c.loop-next.at k x there c.loop-next.invariant.edges).1;
      numbers = next_numbers c.args.known.now c.args.to via c.args.from c.loop-next.at k c.number_of.result x c.loop-next.numbers c.push.new.self there
          c.number_of.ensures c.in_ok-push.ensures
          c.loop-next.invariant.numbers;
    }

pub number_of-requires-2 : goal.number_of-requires-2
number_of-requires-2 c =
    let via = c.args.via.now in
    let past : length via ≤ c.loop-next.next-index = omega (arith, c.loop-next-test.false) in
    last_edge c.args.known.now c.args.to via c.loop-next.at c.loop-next.next-index past c.loop-next.invariant.edges

pub returns : goal.returns
returns c =
    let via = c.args.via.now in
    let past : length via ≤ c.loop-next.next-index = omega (arith, c.loop-next-test.false) in
    all_numbers c.args.known.now c.args.to via c.args.from c.loop-next.at c.loop-next.next-index c.number_of-2.result c.loop-next.numbers c.push-2.new.self
    past c.number_of-2.ensures
    c.in_ok-push-2.ensures c.loop-next.invariant.numbers
