use Rattle.std.proofs.{Common.{◌≡◌, length, refl, sym, subst, arith}, lemmas.Result.{on_ok_weaker}}
use Rattle.lifted_facts.specs.{PlainFacts.{Branch, plain_fact}, Parts.{sides}, Lifted.{HasFact}}
use Rattle.lifter.specs.{Trees.{fact_tree}, declared.state.{Task.TheVariants.{Side}, Later.{Later}, State.{State}}, States.{branch_of}}
use Rattle.lifter.proofs.{RunsMore.{last_fact}, StateMoves.{put_off}, SplitOrs.{or_within, or_fact, split_by, no_sides, proper_read, split_on}}
use Rattle.lifter.proofs.following.split_or.Goals as goal

pub unreachable-requires : goal.unreachable-requires
unreachable-requires c = c.in_default.ensures c.requires.known.0 c.requires.known.1

pub index-requires : goal.index-requires
index-requires c =
    let within = or_within c.args.case.now c.args.tree.now c.requires.good.0 c.args.state.now c.args.position c.in-Some.number c.requires.good.1
    c.in-Some.ensures in
    omega (arith, within, c.args.state.now.facts.ok.0)

pub sides-requires : goal.sides-requires
sides-requires c =
    let s = c.args.state.now in
    let within = or_within c.args.case.now c.args.tree.now c.requires.good.0 s c.args.position c.in-Some.number c.requires.good.1 c.in-Some.ensures in
    proper_read c.args.case.now s.facts.items c.in-Some.number c.index.result.now c.requires.kept.proper within c.index.ensures

-- the fact has sides
pub unreachable-requires-in_default-sides : goal.unreachable-requires-in_default-sides
unreachable-requires-in_default-sides c =
    let x = c.index.result.now in
    let o = or_fact c.args.case.now c.args.tree.now c.requires.good.0 c.args.state.now c.args.position c.in-Some.number c.requires.good.1 c.in-Some.ensures
    x c.index.ensures in
    no_sides (sides c.args.case.now (plain_fact x)) o.1.first o.1.second o.1.are (sym c.in_default-sides.ensures.is)

pub right_of-right-requires : goal.right_of-right-requires
right_of-right-requires c =
    let g = plain_fact c.in-Some-sides.first in
    let o = split_by c.args.case.now c.args.tree.now c.requires.good.0 c.args.state.now c.args.position c.in-Some.number c.requires.good.1 c.in-Some.ensures
    c.index.result.now g (plain_fact c.in-Some-sides.second) c.index.ensures (sym c.in-Some-sides.ensures.is) in
    (fact_tree c.args.case.now g, o.left)

pub unfold-requires : goal.unfold-requires
unfold-requires c =
    let case = c.args.case.now in let rows = c.args.tree.now in let s = c.args.state.now in let x = c.index.result.now in
    let number = c.in-Some.number in let g = plain_fact c.in-Some-sides.first in let are = sym c.in-Some-sides.ensures.is in
    let o = split_by case rows c.requires.good.0 s c.args.position number c.requires.good.1 c.in-Some.ensures x g (plain_fact c.in-Some-sides.second)
    c.index.ensures are in
    let mid : State = record { facts = c.push-3.new.self; known = s.known; later = c.push-2.new.self; steps = c.push.new.self } in
    let count : c.len-count.result ≡ length s.facts.items = omega (arith, c.len-count.ensures) in
    let l : Later = record { count = c.len-count.result; known = c.len-known.result; fact = c.in-Some-sides.second; task = Side c.right_of-right.result } in
    let put = put_off case rows s mid number c.len-count.result c.copy_fact.result g l (c.copy_fact.ensures.proper case c.in-Some-sides.ensures.proper.0)
    c.copy_fact.ensures.is (plain_fact x, o.has, are) count refl c.len-known.ensures c.in-Some-sides.ensures.proper.1 tt c.in_ok-push-3.ensures.items refl
    c.in_ok-push-2.ensures.items c.in_ok-push.ensures in
    let B : Branch → Type 0 = λ b. HasFact b c.len-count.result g in
    record {
      proper = c.in-Some-sides.ensures.proper.0;
      has = subst B (sym put.1) (last_fact (branch_of s) g c.len-count.result (sym put.0));
      kind = o.first_open;
      stands = o.left;
    }

pub returns-clause-kept : goal.returns-clause-kept
returns-clause-kept c =
    let case = c.args.case.now in let rows = c.args.tree.now in let s = c.args.state.now in let x = c.index.result.now in
    let number = c.in-Some.number in let g = plain_fact c.in-Some-sides.first in let are = sym c.in-Some-sides.ensures.is in
    let o = split_by case rows c.requires.good.0 s c.args.position number c.requires.good.1 c.in-Some.ensures x g (plain_fact c.in-Some-sides.second)
    c.index.ensures are in
    let mid : State = record { facts = c.push-3.new.self; known = s.known; later = c.push-2.new.self; steps = c.push.new.self } in
    let count : c.len-count.result ≡ length s.facts.items = omega (arith, c.len-count.ensures) in
    let l : Later = record { count = c.len-count.result; known = c.len-known.result; fact = c.in-Some-sides.second; task = Side c.right_of-right.result } in
    let put = put_off case rows s mid number c.len-count.result c.copy_fact.result g l (c.copy_fact.ensures.proper case c.in-Some-sides.ensures.proper.0)
    c.copy_fact.ensures.is (plain_fact x, o.has, are) count refl c.len-known.ensures c.in-Some-sides.ensures.proper.1 tt c.in_ok-push-3.ensures.items refl
    c.in_ok-push-2.ensures.items c.in_ok-push.ensures in
    on_ok_weaker c.unfold.result (λ u. u.moves.kept (put.2 c.requires.kept)) c.unfold.ensures

pub returns-clause-split : goal.returns-clause-split
returns-clause-split c =
    let case = c.args.case.now in let rows = c.args.tree.now in let s = c.args.state.now in let x = c.index.result.now in
    let number = c.in-Some.number in let g = plain_fact c.in-Some-sides.first in let h = plain_fact c.in-Some-sides.second in
    let are = sym c.in-Some-sides.ensures.is in
    let o = split_by case rows c.requires.good.0 s c.args.position number c.requires.good.1 c.in-Some.ensures x g h c.index.ensures are in
    let mid : State = record { facts = c.push-3.new.self; known = s.known; later = c.push-2.new.self; steps = c.push.new.self } in
    let count : c.len-count.result ≡ length s.facts.items = omega (arith, c.len-count.ensures) in
    let l : Later = record { count = c.len-count.result; known = c.len-known.result; fact = c.in-Some-sides.second; task = Side c.right_of-right.result } in
    let put = put_off case rows s mid number c.len-count.result c.copy_fact.result g l (c.copy_fact.ensures.proper case c.in-Some-sides.ensures.proper.0)
    c.copy_fact.ensures.is (plain_fact x, o.has, are) count refl c.len-known.ensures c.in-Some-sides.ensures.proper.1 tt c.in_ok-push-3.ensures.items refl
    c.in_ok-push-2.ensures.items c.in_ok-push.ensures in
    on_ok_weaker c.unfold.result
    (λ u. split_on case rows s mid c.unfold.new.state g h l c.args.position c.right_of-right.result o.second_open o.stands refl refl
    (c.right_of-right.ensures (fact_tree case g) o.left) c.len-known.ensures refl put.4 put.3 u)
    c.unfold.ensures

pub overflow_add-position : goal.overflow_add-position
overflow_add-position c =
    let g = plain_fact c.in-Some-sides.first in
    let o = split_by c.args.case.now c.args.tree.now c.requires.good.0 c.args.state.now c.args.position c.in-Some.number c.requires.good.1 c.in-Some.ensures
    c.index.result.now g (plain_fact c.in-Some-sides.second) c.index.ensures (sym c.in-Some-sides.ensures.is) in
    omega (arith, c.right_of-right.ensures (fact_tree c.args.case.now g) o.left)
