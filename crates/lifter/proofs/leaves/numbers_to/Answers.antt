use Rattle.std.proofs.Common.{◌≤◌, ◌-◌, length, take, drop, arith}
use Rattle.lifter.proofs.KeyedEdges.{first_rest, last_edge, first_edge, first_number, one_number}
use Rattle.lifter.proofs.leaves.numbers_to.Goals as goal

pub number_of-requires : goal.number_of-requires
number_of-requires c =
    let none : length c.args.via.now ≤ 0 = omega (arith, c.in-empty.len_below) in
    last_edge c.args.known.now c.args.to c.args.via.now c.args.from 0 none c.requires

pub returns-in-empty : goal.returns-in-empty
returns-in-empty c =
    let none : length c.args.via.now ≤ 0 = omega (arith, c.in-empty.len_below) in
    one_number c.args.known.now c.args.from c.args.to c.args.via.now c.number_of.result c.new.result none c.number_of.ensures c.new.ensures

pub number_of-first-requires : goal.number_of-first-requires
number_of-first-requires c =
    let via = c.args.via.now in
    (first_edge c.args.known.now c.args.from c.args.to via (take (length via - 1) (drop 1 via)) c.next-item.result
    (first_rest via c.next-item.result c.in-len1-up.len_at_least c.next-item.is) c.requires).0

pub numbers_along-requires : goal.numbers_along-requires
numbers_along-requires c =
    let via = c.args.via.now in
    (first_edge c.args.known.now c.args.from c.args.to via (take (length via - 1) (drop 1 via)) c.next-item.result
    (first_rest via c.next-item.result c.in-len1-up.len_at_least c.next-item.is) c.requires).1

pub returns-in_ok-more-in-len1-up : goal.returns-in_ok-more-in-len1-up
returns-in_ok-more-in-len1-up c =
    let via = c.args.via.now in
    first_number c.args.known.now c.args.from c.args.to via (take (length via - 1) (drop 1 via)) c.next-item.result
    (first_rest via c.next-item.result c.in-len1-up.len_at_least c.next-item.is)
    c.number_of-first.result c.in_ok-more-in-len1-up.more c.number_of-first.ensures c.in_ok-more-in-len1-up.ensures
