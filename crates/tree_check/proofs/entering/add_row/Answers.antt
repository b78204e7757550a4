use Rattle.std.proofs.{Common.{List, subst}, lemmas.Result.{on_ok_weaker}}
use Rattle.pc_ground.specs.Refutes.{signed}
use Rattle.refutation.specs.BranchFacts.{PlainBranchFact}
use Rattle.tree_check.{specs.Facts.{HasAdded}, proofs.BranchFacts.{facts_of_lit, fact_of_position}}
use Rattle.tree_check.proofs.entering.add_row.Goals as goal

pub returns-in-Lit : goal.returns-in-Lit
returns-in-Lit c =
    let P : List PlainBranchFact → Type 0 = λ ks. HasAdded c.args.facts.now ks c.add_literal.new.facts in
    let q = signed c.args.negated c.args.position in
    on_ok_weaker c.add_literal.result (subst P (facts_of_lit q c.args.row.kind c.in-Lit.literal c.in-Lit.is)) c.add_literal.ensures

pub returns-in_default : goal.returns-in_default
returns-in_default c =
    let P : List PlainBranchFact → Type 0 = λ ks. HasAdded c.args.facts.now ks c.add.new.self in
    let q = signed c.args.negated c.args.position in
    on_ok_weaker c.add.result (subst P (fact_of_position q c.args.row.kind c.in_default.not-Lit)) c.add.ensures
