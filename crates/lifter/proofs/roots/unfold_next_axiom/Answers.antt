use Rattle.std.proofs.Common.{sym, ◌∙◌, arith}
use Rattle.pc_ground.specs.Stages.{plain_axioms}
use Rattle.lifted_facts.specs.PlainFacts.{plain_fact, root}
use Rattle.lifter.{specs.Trees.{fact_tree}, proofs.{LiftedRoots.{axiom_said}, TakenParts.{stands_here, taken_open, passed_over, true_here}}}
use Rattle.lifter.proofs.roots.unfold_next_axiom.Goals as goal

pub right_of-right-requires : goal.right_of-right-requires
right_of-right-requires c =
    let case = c.args.case.now in
    let fs = root (plain_axioms c.args.axioms.now) in
    let f = plain_fact c.axiom_fact-fact.result in
    let there = axiom_said c.args.axioms.now c.args.k c.index-axioms-k.result f c.requires.within c.index-axioms-k.is c.axiom_fact-fact.ensures.is in (
      fact_tree case f,
      (stands_here case c.args.tree.now fs c.args.k c.args.at f there (sym c.kind_of_fact.ensures ∙ c.in-Open.is)
          c.requires.rest c.requires.stands).0,
    )

pub unfold-requires : goal.unfold-requires
unfold-requires c =
    let case = c.args.case.now in
    let fs = root (plain_axioms c.args.axioms.now) in
    let f = plain_fact c.axiom_fact-fact.result in
    let kind = sym c.kind_of_fact.ensures ∙ c.in-Open.is in
    let there = axiom_said c.args.axioms.now c.args.k c.index-axioms-k.result f c.requires.within c.index-axioms-k.is c.axiom_fact-fact.ensures.is in
    record {
      proper = c.axiom_fact-fact.ensures.proper case;
      has = c.requires.has f there;
      kind = kind;
      stands = (stands_here case c.args.tree.now fs c.args.k c.args.at f there kind c.requires.rest c.requires.stands).0;
    }

pub returns-in_ok-unfold-in-Open : goal.returns-in_ok-unfold-in-Open
returns-in_ok-unfold-in-Open c =
    let case = c.args.case.now in
    let fs = root (plain_axioms c.args.axioms.now) in
    let f = plain_fact c.axiom_fact-fact.result in
    let kind = sym c.kind_of_fact.ensures ∙ c.in-Open.is in
    let there = axiom_said c.args.axioms.now c.args.k c.index-axioms-k.result f c.requires.within c.index-axioms-k.is c.axiom_fact-fact.ensures.is in
    let part = (stands_here case c.args.tree.now fs c.args.k c.args.at f there kind c.requires.rest c.requires.stands).0 in
    let h = c.in_ok-unfold-in-Open.ensures in
    taken_open case c.args.tree.now fs c.args.k c.args.at c.right_of-right.result f c.args.state.now c.unfold.new.state
    there kind c.requires.rest c.requires.stands
    (c.right_of-right.ensures (fact_tree case f) part) h.moves h.told

pub returns-in_default : goal.returns-in_default
returns-in_default c =
    let case = c.args.case.now in
    let fs = root (plain_axioms c.args.axioms.now) in
    let f = plain_fact c.axiom_fact-fact.result in
    let there = axiom_said c.args.axioms.now c.args.k c.index-axioms-k.result f c.requires.within c.index-axioms-k.is c.axiom_fact-fact.ensures.is in
    let agreed = true_here case c.args.tree.now fs c.args.k f there c.requires.kind (λ e. c.in_default.not-Open (c.kind_of_fact.ensures ∙ e)) in
    passed_over case c.args.tree.now fs c.args.k c.args.at f c.args.state.now there agreed c.requires.stands

pub kind_of_fact-requires : goal.kind_of_fact-requires
kind_of_fact-requires c = c.axiom_fact-fact.ensures.proper c.args.case.now

pub overflow_add-at : goal.overflow_add-at
overflow_add-at c =
    let case = c.args.case.now in
    let fs = root (plain_axioms c.args.axioms.now) in
    let f = plain_fact c.axiom_fact-fact.result in
    let there = axiom_said c.args.axioms.now c.args.k c.index-axioms-k.result f c.requires.within c.index-axioms-k.is c.axiom_fact-fact.ensures.is in
    let part = (stands_here case c.args.tree.now fs c.args.k c.args.at f there (sym c.kind_of_fact.ensures ∙ c.in-Open.is)
    c.requires.rest c.requires.stands).0 in
    omega (arith, c.right_of-right.ensures (fact_tree case f) part)
