use Rattle.std.{proofs.{Common.{List, sym, subst}, lemmas.List.Elements.{All-nil}}, specs.Prelude.{All}}
use Rattle.lifted_facts.specs.PlainFacts.{IsProper}
use Rattle.lifter.specs.{declared.state.Later.{Later}, States.{IsDue}}
use Rattle.lifter.proofs.roots.begin.Goals as goal

pub returns-clause-kept : goal.returns-clause-kept
returns-clause-kept c = λ k.
    let L : List Later → Type 0 = λ ls. All (λ l. IsProper k l.fact) ls in
    let D : List Later → Type 0 = λ ls. All (λ l. IsDue k l l.task) ls in
    record {
      proper = c.in_ok-axiom_facts.ensures.proper k;
      later_proper = subst L (sym c.new-2.ensures.items) (All-nil (λ (l : Later). IsProper k l.fact));
      due = subst D (sym c.new-2.ensures.items) (All-nil (λ (l : Later). IsDue k l l.task));
    }
