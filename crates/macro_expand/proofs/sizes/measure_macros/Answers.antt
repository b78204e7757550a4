use Rattle.std.proofs.{Common.{◌+◌, length, slice_get, ap, sym, subst, ◌∙◌, option_map}, lemmas.{List.{length_push}, Option.{slice_get-map}}}
use Rattle.pc_syntax.specs.Written.{written}
use Rattle.macro_expand.{specs.{Tables.{before, plain_macros, macro_at}, Measures.{measure_of, AreMeasures}}, proofs.MeasureLaws.{measures_more}}
use Rattle.macro_expand.proofs.sizes.measure_macros.Goals as goal

pub loop-number-preserved : goal.loop-number-preserved
loop-number-preserved c =
    let macros = c.args.macros.now in
    let ms = plain_macros macros in
    let measures = c.loop-number.measures.items in let x = c.measure-measured.result in
    let here =
    ap (λ k. slice_get ms k) c.loop-number.invariant.1
    ∙ slice_get-map macro_at macros c.loop-number.number ∙ ap (option_map macro_at) c.get.ensures in
    let is =
    c.measure-measured.ensures
    ∙ ap (λ old. measure_of (before ms (length old)) (written c.get.result.body.now)) c.deref.ensures.value in (
      subst (AreMeasures ms) (sym c.in_ok-push.ensures.items)
          (measures_more ms measures (macro_at c.get.result) x c.loop-number.invariant.0 here is),
      ap length c.in_ok-push.ensures.items ∙ length_push measures x ∙ ap (λ n. n + 1) c.loop-number.invariant.1,
    )
