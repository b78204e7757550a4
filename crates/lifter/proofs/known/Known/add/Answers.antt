use Rattle.std.proofs.Common.{ℕ, sym, subst, List, ◌∙◌}
use Rattle.pc_common.proofs.Elements.{In}
use Rattle.refutation.specs.BranchFacts.{plain_branch_fact}
use Rattle.lifter.{specs.KnownFacts.{Entry, entry}, proofs.FoundKeys.{marked_before, marked_new, put_last}}
use Rattle.lifter.proofs.known.Known.add.Goals as goal

pub returns-in-Some : goal.returns-in-Some
returns-in-Some c = marked_before c.args.self.now (plain_branch_fact c.args.key) c.in-Some.field-0 c.args.number c.in-Some.ensures

pub returns-in_ok-insert-in-None : goal.returns-in_ok-insert-in-None
returns-in_ok-insert-in-None c =
    let es = c.self.inside.map.entries in
    let P : List Entry → Type 0 = λ xs. (j : ℕ) → In (entry (plain_branch_fact c.args.key) j) xs → ⊥ in
    let none = subst P (sym c.self.view_is) c.in-None.ensures in
    rw (sym c.self.view_is) (marked_new es c.insert.new.self.entries c.args.key c.args.number
    (c.in_ok-insert-in-None.ensures.entries ∙ put_last c.args.key c.args.number es none))
