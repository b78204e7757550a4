use Rattle.std.proofs.Common.{sym, ◌∙◌}
use Rattle.macro_expand.proofs.Expansions.{no_macro_fault, ready, same_size_fault, all_expansions}
use Rattle.macro_expand.proofs.top.expand_with.Goals as goal

pub expand_axioms-requires : goal.expand_axioms-requires
expand_axioms-requires c =
    ready c.args.model.now c.as_slice-items.result.now c.as_slice-items.ensures.value c.args.macros.now
    c.in_ok-check_items.ensures.all c.in_ok-check_items.ensures.judged

pub returns-clause-ok : goal.returns-clause-ok
returns-clause-ok c =
    let model = c.args.model.now in let items = c.as_slice-items.result.now in
    let value = c.as_slice-items.ensures.value in let table = c.args.macros.now in
    let all = c.in_ok-check_items.ensures.all in
    let judged = c.in_ok-check_items.ensures.judged in (
      (no_macro_fault model items value table all judged, sym (same_size_fault model items value table all judged) ∙ c.in_ok-check_sizes.ensures),
      all_expansions model items value table all judged c.in_ok-expand_axioms.field-0.items c.in_ok-expand_axioms.ensures,
    )
