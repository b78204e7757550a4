use Rattle.std.{proofs.{Common.{◌≡◌, None, [], ap, sym, subst, ◌∙◌}, lemmas.Result.{err_from_is_err_and}}, specs.Option.{option_or}}
use Rattle.pc_syntax.specs.{Written.{written}, MacroFaults.{macro_again, parameters_fault, body_fault, macro_fault}}
use Rattle.macro_expand.specs.{Faults.{IsFault}, Tables.{callee_of, before, plain_macros, macro_at}}
use Rattle.macro_expand.proofs.FaultLaws.{first_kept, second_kept, second_judged, named_again, named_newly}
use Rattle.macro_expand.proofs.calls.check_macro.Goals as goal

pub returns-in-Some : goal.returns-in-Some
returns-in-Some c =
    let ms = before (plain_macros c.args.macros.now) c.args.earlier in
    let m = c.in-Some.first in
    ap (λ o. option_or o (option_or (parameters_fault [] c.args.parameters.now) (body_fault ms (written c.args.body.now))))
    (named_again ms c.args.name.now (macro_at m, before (plain_macros c.args.macros.now) m.number)
    (ap (callee_of ms) (sym c.as_slice.ensures.value) ∙ c.in-Some.ensures.2))

pub returns-in_err-check_parameters : goal.returns-in_err-check_parameters
returns-in_err-check_parameters c =
    let ms = before (plain_macros c.args.macros.now) c.args.earlier in
    let parameters = c.args.parameters.now in let body = written c.args.body.now in
    let answer = c.in_err-check_parameters.field-0.0 in
    let new = named_newly ms c.args.name.now (ap (callee_of ms) (sym c.as_slice.ensures.value) ∙ c.in_default.ensures) in
    let here : IsFault (parameters_fault [] parameters) answer =
    subst (λ ws. IsFault (parameters_fault [] ws) answer) c.as_slice-2.ensures.value c.in_err-check_parameters.ensures in
    let kept : IsFault (macro_fault ms (record { name = c.args.name.now; parameters = parameters; body = body })) answer =
    second_kept (macro_again ms c.args.name.now) (option_or (parameters_fault [] parameters) (body_fault ms body)) answer new
    (first_kept (parameters_fault [] parameters) (body_fault ms body) answer here) in
    let p = err_from_is_err_and c.from_residual.result c.from_residual.ensures.1 in
    rw (p.1, p.2) kept

pub returns : goal.returns
returns c =
    let ms = before (plain_macros c.args.macros.now) c.args.earlier in
    let parameters = c.args.parameters.now in let body = written c.args.body.now in
    let new = named_newly ms c.args.name.now (ap (callee_of ms) (sym c.as_slice.ensures.value) ∙ c.in_default.ensures) in
    let fine : parameters_fault [] parameters ≡ None =
    subst (λ ws. parameters_fault [] ws ≡ None) c.as_slice-2.ensures.value c.in_ok-check_parameters.ensures in
    second_judged (macro_again ms c.args.name.now) (option_or (parameters_fault [] parameters) (body_fault ms body)) c.check_body.result new
    (second_judged (parameters_fault [] parameters) (body_fault ms body) c.check_body.result fine c.check_body.ensures)
