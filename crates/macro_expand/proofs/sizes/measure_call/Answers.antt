use Rattle.std.proofs.{Common.{length, get_or, ap, sym, ◌∙◌}, lemmas.Option.{get_or_from_slice_get}}
use Rattle.macro_expand.specs.{Tables.{callee_of, before, plain_macros, macro_at}, Measures.{measure_of}}
use Rattle.macro_expand.proofs.MeasureLaws.{measure_found, measure_not_found}
use Rattle.macro_expand.proofs.sizes.measure_call.Goals as goal

pub returns-in-Some : goal.returns-in-Some
returns-in-Some c = λ at args.
    let ms = before (plain_macros c.args.macros.now) (length c.args.measures.now) in
    let callee = c.in-Some.callee in
    let m = get_or c.args.measures.now callee.number (record { size = 0; height = 0 }) in
    let is =
    get_or_from_slice_get c.args.measures.now callee.number (measure_of (before (plain_macros c.args.macros.now) callee.number) (macro_at callee).body)
    (record { size = 0; height = 0 }) (c.requires callee.number (macro_at callee) c.in-Some.ensures.0 c.in-Some.ensures.1) in
    c.raise.ensures
    ∙ measure_found at c.args.name.now args ms (macro_at callee, before (plain_macros c.args.macros.now) callee.number) m
    (ap (callee_of ms) (sym c.as_slice.ensures.value) ∙ c.in-Some.ensures.2) is

pub returns-in-None : goal.returns-in-None
returns-in-None c = λ at args.
    let ms = before (plain_macros c.args.macros.now) (length c.args.measures.now) in
    c.atoms.ensures
    ∙ measure_not_found at c.args.name.now args ms (ap (callee_of ms) (sym c.as_slice.ensures.value) ∙ c.in-None.ensures)
