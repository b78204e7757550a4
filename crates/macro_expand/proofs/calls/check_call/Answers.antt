use Rattle.std.proofs.Common.{ap, sym, ◌∙◌}
use Rattle.macro_expand.{specs.Tables.{callee_of, before, plain_macros, macro_at}, proofs.FaultLaws.{call_found, call_unknown}}
use Rattle.macro_expand.proofs.calls.check_call.Goals as goal

pub returns-in-Some : goal.returns-in-Some
returns-in-Some c =
    let ms = before (plain_macros c.args.macros.now) c.args.earlier in
    let m = c.in-Some.callee in
    call_found ms c.args.name.now c.args.args.now (macro_at m, before (plain_macros c.args.macros.now) m.number) c.check_count.result
    (ap (callee_of ms) (sym c.as_slice.ensures.value) ∙ c.in-Some.ensures.2) c.check_count.ensures

pub returns-in-None : goal.returns-in-None
returns-in-None c =
    let ms = before (plain_macros c.args.macros.now) c.args.earlier in
    call_unknown ms c.args.name.now c.args.args.now (ap (callee_of ms) (sym c.as_slice.ensures.value) ∙ c.in-None.ensures)
