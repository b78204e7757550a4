use Rattle.std.proofs.{Common.{reverse, rules}, lemmas.List.{nil_from_length}}
use Rattle.ll_grammar.specs.declared.grammar.{Prediction.TheVariants.{Absent, Pushed}, Symbol.TheVariants.{Terminal as a_terminal, Nonterminal as a_nonterminal}}
use Rattle.ll_grammar.proofs.Stack.{IsTop, at_bottom, at_class, at_other_class, at_no_part, ready_below, at_end, at_part}
use Rattle.ll_grammar.proofs.fault.read.Goals as goal

pub loop-symbol-init : goal.loop-symbol-init
loop-symbol-init g c = record { ready = c.requires; same = λ prediction after read. read }

pub returns-then-is_same : goal.returns-then-is_same
returns-then-is_same g c =
    let table = g.N.Grammar.rules in let follow = g.N.Grammar.follow in let ready = c.loop-symbol.invariant.ready in
    let items = c.loop-symbol.stack.items in let below = c.pop.new.self.items in
    let top : IsTop items below (a_terminal c.in-Terminal.expected) = record { is = cc c.in-Some.ensures.items } in
    c.loop-symbol.invariant.same Pushed (reverse below)
    (at_class table follow c.args.class items below ready c.in-Terminal.expected top
    (c.is_same.ensures.0 c.if-is_same.true))

pub returns-else-is_same : goal.returns-else-is_same
returns-else-is_same g c =
    let table = g.N.Grammar.rules in let follow = g.N.Grammar.follow in let ready = c.loop-symbol.invariant.ready in
    let items = c.loop-symbol.stack.items in let below = c.pop.new.self.items in
    let top : IsTop items below (a_terminal c.in-Terminal.expected) = record { is = cc c.in-Some.ensures.items } in
    c.loop-symbol.invariant.same Absent (reverse below)
    (at_other_class table follow c.args.class items below ready c.in-Terminal.expected top
    (λ same. let yes = c.is_same.ensures.1 same in absurd (cc)) (reverse below))

pub returns-then-not-is_nullable : goal.returns-then-not-is_nullable
returns-then-not-is_nullable g c =
    let table = g.N.Grammar.rules in let follow = g.N.Grammar.follow in let ready = c.loop-symbol.invariant.ready in
    let items = c.loop-symbol.stack.items in let below = c.pop.new.self.items in let new = c.push.new.stack.items in
    let top : IsTop items below (a_nonterminal c.in-Nonterminal.part) = record { is = cc c.in-Some.ensures.items } in
    c.loop-symbol.invariant.same Absent (reverse new)
    (at_no_part table follow c.args.class items below ready c.in-Nonterminal.part top new
    (rw c.in-Absent.is at c.in_ok-prediction-in-Nonterminal.ensures) (cc) (reverse new))

pub loop-symbol-preserved : goal.loop-symbol-preserved
loop-symbol-preserved g c =
    let table = g.N.Grammar.rules in let follow = g.N.Grammar.follow in let ready = c.loop-symbol.invariant.ready in
    let items = c.loop-symbol.stack.items in let below = c.pop.new.self.items in let new = c.push.new.stack.items in
    let top : IsTop items below (a_nonterminal c.in-Nonterminal.part) = record { is = cc c.in-Some.ensures.items } in
    record {
      ready = ready_below table follow c.args.class items below ready c.in-Nonterminal.part top new
          (rw c.in-Absent.is at c.in_ok-prediction-in-Nonterminal.ensures);
      same = λ prediction after read. c.loop-symbol.invariant.same prediction after
          (at_end table follow c.args.class items below ready c.in-Nonterminal.part top new
          (rw c.in-Absent.is at c.in_ok-prediction-in-Nonterminal.ensures) (cc) prediction after read);
    }

pub returns-in_default-2 : goal.returns-in_default-2
returns-in_default-2 g c =
    let table = g.N.Grammar.rules in let follow = g.N.Grammar.follow in let ready = c.loop-symbol.invariant.ready in
    let items = c.loop-symbol.stack.items in let below = c.pop.new.self.items in let new = c.push.new.stack.items in
    let top : IsTop items below (a_nonterminal c.in-Nonterminal.part) = record { is = cc c.in-Some.ensures.items } in
    c.loop-symbol.invariant.same c.in_ok-prediction-in-Nonterminal.prediction (reverse new)
    (at_part table follow c.args.class items below ready c.in-Nonterminal.part top new
    g.met.N.Grammar.predictable g.met.N.Grammar.has_texts c.in_ok-prediction-in-Nonterminal.prediction c.in_ok-prediction-in-Nonterminal.ensures c.in_default-2.not-Absent)

pub returns : goal.returns
returns g c =
    let table = g.N.Grammar.rules in let follow = g.N.Grammar.follow in let ready = c.loop-symbol.invariant.ready in
    let items = c.loop-symbol.stack.items in let below = c.pop.new.self.items in
    c.loop-symbol.invariant.same Absent (reverse below)
    (at_bottom table follow c.args.class items below ready (nil_from_length items (search rules)) (reverse below))
