use Rattle.std.{proofs.Common.{ap, sym, true, false, ◌∙◌, List, ℕ, ◌∷◌, [], ◌++◌}, specs.Prelude.{codes}}
use Rattle.pc_common.proofs.Bools.{clash}
use Rattle.lifted_check.{specs.LiftedTexts.{asked, second_line}, proofs.Texts.{second_next}}
use Rattle.lifted_check.proofs.next.after_second.Goals as goal

pub returns-then-not-is_third : goal.returns-then-not-is_third
returns-then-not-is_third c = λ lines st begins.
    clash (c.is_third.ensures.1 (second_next (asked c.args.case.now c.args.axioms.now) lines c.args.line.now st begins)) c.if-not-is_third.true

pub returns : goal.returns
returns c = λ lines st.
    let q = asked c.args.case.now c.args.axioms.now in
    record {
      steps = [];
      case = c.in_ok-new.ensures.case;
      are = ap (λ (ls : List (List ℕ)). ls ++ c.args.line.now ∷ []) st
          ∙ ap (λ (l : List ℕ). codes "unobservable" ∷ second_line q ∷ l ∷ []) (c.is_third.ensures.0 c.if-not-is_third.false);
      run = sym c.in_ok-new.ensures.opens;
    }
