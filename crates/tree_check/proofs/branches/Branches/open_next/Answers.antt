use Rattle.std.proofs.Common.{◌∷◌, sym, subst}
use Rattle.tree_check.{specs.OpenBranches.{OpenBranches, Stands}, proofs.Steps.{did_open, on_ok_both}}
use Rattle.tree_check.proofs.branches.Branches.open_next.Goals as goal

pub returns-in-Some : goal.returns-in-Some
returns-in-Some c =
    let me = c.self.inside in
    on_ok_both c.enter_side.result (λ first entered v t ps opens st.
    let P : OpenBranches → Type 0 = λ o. Stands o v t (ps ∷ opens) in
    let old = subst P (sym c.self.view_is) st in record {
      version = old.version;
      rows = old.rows;
      are_open = did_open me.is_open t me.facts c.truncate.new.self c.enter_side.new.facts me.later.items c.pop.new.self.items
          c.in-Some.next ps opens old.are_open
          c.in-Some.ensures.items c.truncate.ensures first (λ qs b. entered t qs old.rows b);
    })
    c.enter_side.ensures.first c.enter_side.ensures.entered
