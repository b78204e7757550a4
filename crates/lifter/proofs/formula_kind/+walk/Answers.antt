use Rattle.std.proofs.{Common.{not, ◌≡◌, ◌<◌, ◌+◌, length, ap, sym, ◌∙◌, arith}, Math.Seq.{take-length}}
use Rattle.pc_syntax.specs.{Truth.{range_of}, Closed.{plain_closed}}
use Rattle.static_preds.{specs.Values.{meanings}, proofs.{SlotsBelow.{slots_below}, SlotLaws.{slot_more}, Ranges.{scope_inside}}}
use Rattle.lifter.{specs.{Trees.{said_tree, joined_trees, bodies}, Kinds.{kind_of, joined_kind, kind_over}}, proofs.TreeLaws.{forall_of, exists_of}}
use Rattle.lifter.proofs.{KindLaws.{kind_joined, neutral_first}, AtomTrees.{nodes_kind, edges_kind}, RangeBodies.{kind_next, walked_decided, walked_on}}
use Rattle.lifter.proofs.formula_kind.+walk.Goals as goal

pub kind_of_formula-holds-requires-clause-below : goal.kind_of_formula-holds-requires-clause-below
kind_of_formula-holds-requires-clause-below t c = slots_below (length c.args.case.now.ops) c.args.env.now.items c.in-Static.args c.requires.range.ops

pub kind_of_formula-returns-in-Forall : goal.kind_of_formula-returns-in-Forall
kind_of_formula-returns-in-Forall t c =
    c.kind_of_range.ensures
    ∙ ap (λ b. kind_of (joined_trees c.args.plus (bodies c.args.case.now c.args.plus c.in-Forall.sort (plain_closed b) (meanings c.args.env.now.items) 0)))
    c.deref-in-Forall.ensures
    ∙ ap kind_of (sym (forall_of c.args.case.now (meanings c.args.env.now.items) c.args.plus (plain_closed c.args.formula.now) _ _
    (ap plain_closed c.in-Forall.is)))

pub kind_of_formula-returns-in-Exists : goal.kind_of_formula-returns-in-Exists
kind_of_formula-returns-in-Exists t c =
    c.kind_of_range-in-Exists.ensures
    ∙ ap (λ b. kind_of (joined_trees (not c.args.plus)
    (bodies c.args.case.now c.args.plus c.in-Exists.sort (plain_closed b) (meanings c.args.env.now.items) 0))) c.deref-in-Exists.ensures
    ∙ ap kind_of (sym (exists_of c.args.case.now (meanings c.args.env.now.items) c.args.plus (plain_closed c.args.formula.now) _ _
    (ap plain_closed c.in-Exists.is)))

pub kind_of_formula-returns-in-Nodes : goal.kind_of_formula-returns-in-Nodes
kind_of_formula-returns-in-Nodes t c =
    c.kind_of_count.ensures ∙ ap (kind_over c.args.plus) c.len.ensures.value
    ∙ sym (nodes_kind c.args.case.now c.args.env.now.items c.requires.range c.args.plus (plain_closed c.args.formula.now) _ (ap plain_closed c.in-Nodes.is)
    c.requires.closed)

pub kind_of_formula-returns-in-Edges : goal.kind_of_formula-returns-in-Edges
kind_of_formula-returns-in-Edges t c =
    c.kind_of_count-in-Edges.ensures ∙ ap (kind_over c.args.plus) c.len-in-Edges.ensures.value
    ∙ sym (edges_kind c.args.case.now c.args.env.now.items c.requires.range c.args.plus (plain_closed c.args.formula.now) _ (ap plain_closed c.in-Edges.is)
    c.requires.closed)

pub kind_of_two-returns : goal.kind_of_two-returns
kind_of_two-returns t c =
    let slots = meanings c.args.env.now.items in
    let first = said_tree c.args.case.now c.args.left_plus (plain_closed c.args.left.now) slots in
    let second = said_tree c.args.case.now c.args.right_plus (plain_closed c.args.right.now) slots in
    c.join_kinds.ensures ∙ ap (λ k. joined_kind c.args.all k c.kind_of_formula.result) c.kind_of_formula-first.ensures
    ∙ ap (joined_kind c.args.all (kind_of first)) c.kind_of_formula.ensures ∙ sym (kind_joined c.args.all first second)

pub kind_of_range-kind_of_formula-member-requires : goal.kind_of_range-kind_of_formula-member-requires
kind_of_range-kind_of_formula-member-requires t c =
    let slots = c.args.env.now.items in let inside = c.bind_next.new.inside.items in
    let value = c.value_in_range.ensures in
    let in_range = c.range_len-k-end.ensures.values c.loop-k.k c.loop-k-test.true in (
      omega (arith, c.decreases),
      (
        rw (scope_inside slots inside c.args.sort c.loop-k.k c.value_in_range.result c.bind_next.ensures.items value) c.requires.closed,
        rw c.bind_next.ensures.items (slot_more c.args.case.now slots c.value_in_range.result c.requires.range (rw value in_range)),
      ),
    )

pub kind_of_range-loop-k-init : goal.kind_of_range-loop-k-init
kind_of_range-loop-k-init t c =
    record {
      begins = rw c.copy_of-inside.ensures (take-length c.args.env.now.items);
      whole = rw c.neutral-kind.ensures (neutral_first c.args.all _);
    }

pub kind_of_range-returns-then-decides : goal.kind_of_range-returns-then-decides
kind_of_range-returns-then-decides t c =
    let case = c.args.case.now in let p = plain_closed c.args.body.now in let slots = c.args.env.now.items in
    let k = c.loop-k.k in let all = c.args.all in let member = c.kind_of_formula-member.result in
    let within : k < length (range_of case c.args.sort) = omega (arith, c.range_len-k-end.ensures.count, c.loop-k-test.true) in
    let here = kind_of (joined_trees all (bodies case c.args.plus c.args.sort p (meanings slots) k)) in
    let rest = kind_of (joined_trees all (bodies case c.args.plus c.args.sort p (meanings slots) (k + 1))) in
    let next : here ≡ joined_kind all member rest =
    kind_next all case c.args.plus slots c.bind_next.new.inside.items c.args.sort p k c.value_in_range.result within c.value_in_range.ensures
    c.bind_next.ensures.items
    ∙ ap (λ m. joined_kind all m rest) (sym c.kind_of_formula-member.ensures) in
    walked_decided all c.loop-k.kind member here rest _ (c.decides.ensures.0 c.if-decides.true) next c.loop-k.invariant.whole

pub kind_of_range-loop-k-preserved : goal.kind_of_range-loop-k-preserved
kind_of_range-loop-k-preserved t c =
    let case = c.args.case.now in let p = plain_closed c.args.body.now in let slots = c.args.env.now.items in
    let k = c.loop-k.k in let all = c.args.all in let member = c.kind_of_formula-member.result in
    let within : k < length (range_of case c.args.sort) = omega (arith, c.range_len-k-end.ensures.count, c.loop-k-test.true) in
    let here = kind_of (joined_trees all (bodies case c.args.plus c.args.sort p (meanings slots) k)) in
    let rest = kind_of (joined_trees all (bodies case c.args.plus c.args.sort p (meanings slots) (k + 1))) in
    let next : here ≡ joined_kind all member rest =
    kind_next all case c.args.plus slots c.bind_next.new.inside.items c.args.sort p k c.value_in_range.result within c.value_in_range.ensures
    c.bind_next.ensures.items
    ∙ ap (λ m. joined_kind all m rest) (sym c.kind_of_formula-member.ensures) in
    record {
      begins = c.bind_next.ensures.begins;
      whole = ap (λ x. joined_kind all x rest) c.join_kinds-kind.ensures ∙ walked_on all c.loop-k.kind member here rest _ next c.loop-k.invariant.whole;
    }
