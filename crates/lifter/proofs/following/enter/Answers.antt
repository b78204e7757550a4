use Rattle.std.proofs.{Common.{List, [], ◌∷◌, ◌++◌, refl, ◌∙◌, ap}, lemmas.Result.{on_ok_weaker}}
use Rattle.lifted_facts.specs.declared.fact.Fact.{Fact}
use Rattle.lifter.{specs.declared.state.State.{State}, proofs.LeftBranches.{entered, entered_fact, kept_entered}}
use Rattle.lifter.proofs.following.enter.Goals as goal

pub unfold-requires : goal.unfold-requires
unfold-requires c =
    let s = c.args.state.now in let l = c.args.next.now in
    let mid : State = record { facts = c.push.new.self; known = c.truncate-2.new.self; later = s.later; steps = s.steps } in
    let can = c.requires.can.3 in
    record {
      proper = c.requires.proper;
      has = entered_fact s mid l c.copy_fact.result
          (c.in_ok-push.ensures.items ∙ ap (λ (fs : List Fact). fs ++ c.copy_fact.result ∷ []) c.truncate.ensures.items) c.copy_fact.ensures.is can.later.0;
      kind = can.takes.is_open;
      stands = can.takes.stands;
    }

pub returns-clause-kept : goal.returns-clause-kept
returns-clause-kept c =
    let case = c.args.case.now in let s = c.args.state.now in let l = c.args.next.now in
    let mid : State = record { facts = c.push.new.self; known = c.truncate-2.new.self; later = s.later; steps = s.steps } in
    on_ok_weaker c.unfold.result (λ h kept. h.moves.kept (kept_entered case s mid l.count c.copy_fact.result (c.copy_fact.ensures.proper case c.requires.proper)
    (c.in_ok-push.ensures.items ∙ ap (λ (fs : List Fact). fs ++ c.copy_fact.result ∷ []) c.truncate.ensures.items) refl kept)) c.unfold.ensures

pub returns-clause-on : goal.returns-clause-on
returns-clause-on c =
    let case = c.args.case.now in let rows = c.args.tree.now in let s = c.args.state.now in let l = c.args.next.now in
    let mid : State = record { facts = c.push.new.self; known = c.truncate-2.new.self; later = s.later; steps = s.steps } in
    on_ok_weaker c.unfold.result (λ h start ps rest can. entered case rows start s mid c.unfold.new.state l c.copy_fact.result c.args.at ps rest can
    (c.in_ok-push.ensures.items ∙ ap (λ (fs : List Fact). fs ++ c.copy_fact.result ∷ []) c.truncate.ensures.items) c.copy_fact.ensures.is
    c.truncate-2.ensures refl refl h) c.unfold.ensures
