use Rattle.std.proofs.{Common.{List, ◌++◌, ◌∷◌, [], map, sym, ◌∙◌, ap, subst, rules}, lemmas.{List.{map-append, Elements.{All-push}}, Option.{slice_get_read}}}
use Rattle.std.specs.Prelude.{All}
use Rattle.lifted_facts.{specs.{declared.fact.Fact.{Fact}, PlainFacts.{PlainFact, plain_fact, IsProper}}, proofs.Members.{root_more}}
use Rattle.lifter.proofs.roots.axiom_facts.Goals as goal

pub loop-axiom-preserved : goal.loop-axiom-preserved
loop-axiom-preserved c =
    let facts = c.loop-axiom.facts.items in let a = c.axiom-item.result in
    let at = slice_get_read c.args.axioms.now _ c.loop-axiom.axiom-index a (search rules) c.loop-axiom-test.true c.axiom-item.is in
    record {
      are = ap (map plain_fact) c.in_ok-push.ensures.items ∙ map-append plain_fact facts (c.axiom_fact.result ∷ [])
          ∙ ap (λ (f : PlainFact). map plain_fact facts ++ f ∷ []) c.axiom_fact.ensures.is
          ∙ root_more c.args.axioms.now c.loop-axiom.axiom-index a (map plain_fact facts) at c.loop-axiom.invariant.are;
      proper = λ k.
          let P : List Fact → Type 0 = λ fs. All (IsProper k) fs in
          subst P (sym c.in_ok-push.ensures.items)
          (All-push (IsProper k) facts c.axiom_fact.result (c.loop-axiom.invariant.proper k) (c.axiom_fact.ensures.proper k));
    }
