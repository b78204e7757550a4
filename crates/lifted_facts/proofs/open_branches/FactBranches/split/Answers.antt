use Rattle.std.{proofs.Common.{◌≡◌, ◌∙◌, ap, subst, sym, refl, List, [], reverse, map, length, arith, true}, specs.Prelude.{is_ok}}
use Rattle.lifted_facts.specs.{declared.{fact.Fact.{Fact}, waiting.Waiting.{Waiting}}, PlainFacts.{PlainFact, plain_fact}}
use Rattle.lifted_facts.specs.{Lifted.{split as split_step, HasSides, HasAdvanced}, OpenBranches.{opens_of}}
use Rattle.lifted_facts.proofs.{KeptFacts.{reversed, kept_push, kept_later}, OpenFacts.{did_split, no_split}}
use Rattle.lifted_facts.proofs.open_branches.FactBranches.split.Goals as goal

pub invariant_of-self : goal.invariant_of-self
invariant_of-self c =
    let me = c.args.self.now in
    let same : c.len.result ≡ length me.facts.items = omega (arith, c.len.ensures) in
    record {
      kept = kept_later me.case.now me.facts.items me.later.items c.push.new.self.items (record { count = c.len.result; fact = c.in-Some.second })
          (is_ok c.push.result)
          me.kept c.in-Some.ensures.proper.1 same c.push.ensures.items;
    }

pub invariant_of-self-in-Some : goal.invariant_of-self-in-Some
invariant_of-self-in-Some c =
    let me = c.args.self.now in
    let same : c.len.result ≡ length me.facts.items = omega (arith, c.len.ensures) in
    record {
      kept = kept_push me.case.now me.facts.items c.push-in-Some.new.self.items c.push.new.self.items c.in-Some.first (is_ok c.push-in-Some.result)
          (kept_later me.case.now me.facts.items me.later.items c.push.new.self.items (record { count = c.len.result; fact = c.in-Some.second })
          (is_ok c.push.result)
          me.kept c.in-Some.ensures.proper.1 same c.push.ensures.items)
          c.in-Some.ensures.proper.0 c.push-in-Some.ensures.items;
    }

pub returns-in_ok-push-in-Some-2-clause-advanced : goal.returns-in_ok-push-in-Some-2-clause-advanced
returns-in_ok-push-in-Some-2-clause-advanced c =
    let me = c.args.self.now in let x = c.in-Some.first in let y = c.in-Some.second in
    let same : c.len.result ≡ length me.facts.items = omega (arith, c.len.ensures) in
    let w : Waiting = record { count = c.len.result; fact = y } in
    let P : List Fact → Type 0 = λ fs. HasSides me.case.now (map plain_fact fs) c.args.number (plain_fact x) (plain_fact y) in
    let Q : List Waiting → Type 0 = λ ls.
    HasAdvanced me.case.now (split_step c.args.number) (opens_of me.is_open me.facts.items (reverse me.later.items))
    (opens_of me.is_open c.push-in-Some.new.self.items ls) true in
    subst Q (sym (ap reverse c.in_ok-push-in-Some.ensures.items ∙ reversed me.later.items w))
    (did_split me.case.now c.args.number me.is_open me.facts.items c.push-in-Some.new.self.items x y (reverse me.later.items) w c.requires
    (subst P c.deref.ensures.value c.in-Some.ensures.is) c.in_ok-push-in-Some-2.ensures.items same refl me.kept.within)

pub returns-in-None-clause-advanced : goal.returns-in-None-clause-advanced
returns-in-None-clause-advanced c =
    let me = c.args.self.now in
    let P : List Fact → Type 0 = λ fs. (g h : PlainFact) → HasSides me.case.now (map plain_fact fs) c.args.number g h → ⊥ in
    no_split me.case.now c.args.number me.is_open me.facts.items (reverse me.later.items) [] (subst P c.deref.ensures.value c.in-None.ensures.is)
