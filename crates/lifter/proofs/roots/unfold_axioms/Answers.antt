use Rattle.std.proofs.{Common.{◌≡◌, ◌<◌, ◌+◌, ℕ, sym, ◌∙◌, ap, subst, arith}, lemmas.Result.{on_ok_weaker}}
use Rattle.pc_ground.specs.{Stages.{plain_axioms}, Rows.{IsPart}, Tree.{Tree}}
use Rattle.pc_common.specs.World.{Node}
use Rattle.lifted_facts.specs.{PlainFacts.{Branch, plain_fact, root}, Lifted.{HasFact}}
use Rattle.lifter.{specs.{Kinds.{kind_of}, PartLists.{facts_from}, Unfoldings.{HasUnfolded}}, proofs.StateMoves.{moved_fact}}
use Rattle.lifter.proofs.{LiftedRoots.{axiom_said}, TakenParts.{taken_start, taken_more, taken_all, last_is, IsTakenTo}}
use Rattle.lifter.proofs.roots.unfold_axioms.Goals as goal

pub loop-k-init : goal.loop-k-init
loop-k-init c = taken_start c.args.case.now c.args.tree.now (root (plain_axioms c.args.axioms.now)) 0 c.args.state.now c.requires.stands

pub unfold_next_axiom-requires : goal.unfold_next_axiom-requires
unfold_next_axiom-requires c =
    let fs = root (plain_axioms c.args.axioms.now) in
    let k = c.loop-k.k in let inv = c.loop-k.invariant in
    let low : k < c.last_axiom-last.result = omega (arith, c.loop-k-test.true) in
    record {
      within = omega (arith, low, c.last_axiom-last.ensures.within);
      has = λ f there.
          let P : Branch → Type 0 = λ b. HasFact b k f in
          moved_fact c.args.case.now c.args.tree.now c.args.state.now c.loop-k.state k f inv.moves (subst P (sym c.requires.facts) there);
      kind = c.last_axiom-last.ensures.up_to k (omega (arith, low));
      rest = c.last_axiom-last.ensures.up_to (k + 1) (omega (arith, low));
      stands = inv.stands;
    }

pub loop-k-preserved : goal.loop-k-preserved
loop-k-preserved c =
    taken_more c.args.case.now c.args.tree.now (root (plain_axioms c.args.axioms.now)) c.loop-k.k 0 c.loop-k.at c.in_ok-at.at c.args.state.now
    c.loop-k.state c.unfold_next_axiom.new.state
    c.loop-k.invariant c.in_ok-at.ensures

pub unfold-requires : goal.unfold-requires
unfold-requires c =
    let case = c.args.case.now in let rows = c.args.tree.now in
    let fs = root (plain_axioms c.args.axioms.now) in
    let last = c.last_axiom-last.result in let inv = c.loop-k.invariant in let at = c.loop-k.at in
    let f = plain_fact c.axiom_fact-fact.result in
    let end : c.loop-k.k ≡ last = omega (arith, c.loop-k-test.false, c.loop-k.auto) in
    let there = axiom_said c.args.axioms.now last c.index-axioms-last.result f c.last_axiom-last.ensures.within c.index-axioms-last.is
    c.axiom_fact-fact.ensures.is in
    let only = last_is case rows fs last f there c.last_axiom-last.ensures.rest in
    let S : ℕ → Type 0 = λ n. IsPart rows at (facts_from case fs n) in
    let T : Tree Node → Type 0 = λ t. IsPart rows at t in
    let B : Branch → Type 0 = λ b. HasFact b last f in
    record {
      proper = c.axiom_fact-fact.ensures.proper case;
      has = moved_fact case rows c.args.state.now c.loop-k.state last f inv.moves (subst B (sym c.requires.facts) there);
      kind = ap kind_of (sym only) ∙ c.last_axiom-last.ensures.up_to last (omega arith);
      stands = subst T only (subst S end inv.stands);
    }

pub returns : goal.returns
returns c =
    let case = c.args.case.now in let rows = c.args.tree.now in
    let fs = root (plain_axioms c.args.axioms.now) in
    let last = c.last_axiom-last.result in let old = c.args.state.now in let mid = c.loop-k.state in
    let at = c.loop-k.at in let f = plain_fact c.axiom_fact-fact.result in
    let end : c.loop-k.k ≡ last = omega (arith, c.loop-k-test.false, c.loop-k.auto) in
    let there = axiom_said c.args.axioms.now last c.index-axioms-last.result f c.last_axiom-last.ensures.within c.index-axioms-last.is
    c.axiom_fact-fact.ensures.is in
    let only = last_is case rows fs last f there c.last_axiom-last.ensures.rest in
    let U : Tree Node → Type 0 = λ t. HasUnfolded case rows t at mid c.unfold.new.state in
    let N : ℕ → Type 0 = λ n. IsTakenTo case rows fs n 0 at old mid in
    on_ok_weaker c.unfold.result (λ h. taken_all case rows fs last 0 at old mid c.unfold.new.state (subst N end c.loop-k.invariant) (subst U (sym only) h))
    c.unfold.ensures
