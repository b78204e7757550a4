use Rattle.std.proofs.Common.{◌≡◌, length, arith}
use Rattle.pc_syntax.specs.Written.{written_model}
use Rattle.ask_command.proofs.QueryEnds.{last_expanded, popped_none}
use Rattle.ask_command.proofs.denial.last_expansion.Goals as goal

pub unreachable-requires : goal.unreachable-requires
unreachable-requires c =
    let (m, w, is) = c.requires in
    let none : length c.in_ok-axioms.axioms.items ≡ 0 = omega (arith, c.in-None.ensures.cases) in
    popped_none (written_model c.args.model.now) m w c.in_ok-axioms.axioms.items is c.in_ok-axioms.ensures.ok.1 none

pub returns-clause-ok : goal.returns-clause-ok
returns-clause-ok c =
    let n = written_model c.args.model.now in
    let all = c.in_ok-axioms.ensures.ok in
    record {
      expandable = all.0;
      last = λ m w is. last_expanded n m w c.in_ok-axioms.axioms.items c.pop.new.self.items c.in-Some.last is all.1 c.in-Some.ensures.items;
    }
