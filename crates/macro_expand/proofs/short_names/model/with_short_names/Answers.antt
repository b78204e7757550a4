use Rattle.std.proofs.Common.{◌≡◌, ◌∙◌, ap, length, map, subst, All}
use Rattle.pc_syntax.specs.Renaming.{renamed_stage}
use Rattle.macro_expand.specs.Numbers.{short_name}
use Rattle.macro_expand.proofs.short_names.model.with_short_names.Goals as goal

pub returns-clause-short : goal.returns-clause-short
returns-clause-short c =
    let to = short_name c.in_ok-names.names in
    let stages = c.in_ok-stages.ensures ∙ ap (map (renamed_stage to)) c.as_slice.ensures.value in
    record {
      renamed = record {
        to = to;
        apart = c.in_ok-names.ensures.apart;
        model = λ i. record { stages = stages i; items = c.in_ok-items.ensures i };
      };
      short = subst (All (λ name. length (to name) ≡ 8)) c.in_ok-listed.ensures c.in_ok-names.ensures.short;
    }
