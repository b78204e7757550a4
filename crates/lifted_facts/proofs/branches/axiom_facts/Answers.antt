use Rattle.std.proofs.{Common.{◌≡◌, List, ◌++◌, ◌∷◌, [], map, sym, ◌∙◌, ap, subst, true, rules}, lemmas.List.{map-append, Elements.{All-push}}}
use Rattle.std.{proofs.lemmas.Option.{slice_get_read}, specs.Prelude.{All}}
use Rattle.pc_syntax.specs.{declared.bound.Bound.{Bound}, Closed.{plain_closed}}
use Rattle.static_preds.specs.Values.{meanings}
use Rattle.lifted_facts.{specs.{declared.fact.Fact.{Fact}, PlainFacts.{PlainFact, said, plain_fact, IsProper}}, proofs.Members.{root_more, first_proper}}
use Rattle.lifted_facts.proofs.branches.axiom_facts.Goals as goal

pub loop-axiom-preserved : goal.loop-axiom-preserved
loop-axiom-preserved c =
    let facts = c.loop-axiom.facts.items in let a = c.axiom-item.result in
    let at = slice_get_read c.args.axioms.now _ c.loop-axiom.axiom-index a (search rules) c.loop-axiom-test.true c.axiom-item.is in
    let is : plain_fact c.said_of.result ≡ said true (plain_closed a.body) [] 0 =
    c.said_of.ensures.is ∙ ap (λ (bs : List Bound). said true (plain_closed a.body) (meanings bs) 0) c.new-env.ensures in
    record {
      are = ap (map plain_fact) c.in_ok-push.ensures.items ∙ map-append plain_fact facts (c.said_of.result ∷ [])
          ∙ ap (λ (f : PlainFact). map plain_fact facts ++ f ∷ []) is
          ∙ root_more c.args.axioms.now c.loop-axiom.axiom-index a (map plain_fact facts) at c.loop-axiom.invariant.are;
      proper = λ k.
          let P : List Fact → Type 0 = λ fs. All (IsProper k) fs in
          subst P (sym c.in_ok-push.ensures.items)
          (All-push (IsProper k) facts c.said_of.result (c.loop-axiom.invariant.proper k)
          (first_proper k a c.new-env.result.items c.new-env.ensures c.said_of.result (c.said_of.ensures.proper k)));
    }
