use Rattle.std.proofs.Common.{List, [], ◌∷◌, ◌++◌, subst, sym, ap, ◌∙◌}
use Rattle.pc_case.specs.declared.stated.Stated.{Stated}
use Rattle.litmus_reader.{specs.Values.{IsUnstated}, proofs.ValueFacts.{value_added}}
use Rattle.litmus_reader.proofs.values.Values.add.Goals as goal

pub returns : goal.returns
returns c =
    value_added c.self.inside.by_address _ c.args.pa c.args.value
    (subst (λ (lines : List Stated). IsUnstated lines c.args.pa) (sym c.self.view_is) c.requires) c.in_ok-insert.ensures.entries
    ∙ ap (λ (lines : List Stated). lines ++ record { pa = c.args.pa; value = c.args.value } ∷ []) c.self.view_is
