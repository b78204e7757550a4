use Rattle.std.proofs.{Common.{◌≡◌, ◌<◌, ◌+◌, ◌*◌, get_or, sym, ap, ◌∙◌, arith}, lemmas.Result.{IfOk-weaker}}
use Rattle.pc_syntax.specs.{Written.{Written, written, bind_, expand_}, Sizes.{expanded_height}, Expansion.{expansion_of}}
use Rattle.macro_expand.{specs.Tables.{callee_of, before, plain_macros, macro_at}, proofs.Expansions.{parameter_names_at, names_within}}
use Rattle.macro_expand.proofs.MeasureLaws.{lower, expansion_found, expansion_not_found}
use Rattle.macro_expand.proofs.expansion.Expander.+walk.Goals as goal

pub expansion-bounds-self-callee : goal.expansion-bounds-self-callee
expansion-bounds-self-callee t c =
    let callee = c.in-Some.callee in
    names_within (plain_macros c.args.self.now.macros.now) c.args.self.now.names.now callee.number (macro_at callee) c.requires c.in-Some.ensures.1

pub expansion-offset_bounds-self-callee : goal.expansion-offset_bounds-self-callee
expansion-offset_bounds-self-callee t c =
    let callee = c.in-Some.callee in
    let within =
    names_within (plain_macros c.args.self.now.macros.now) c.args.self.now.names.now callee.number (macro_at callee) c.requires c.in-Some.ensures.1 in
    omega (arith, within)

pub expansion-binding-requires-in-Some : goal.expansion-binding-requires-in-Some
expansion-binding-requires-in-Some t c =
    let ms = before (plain_macros c.args.self.now.macros.now) c.args.earlier in
    let callee = c.in-Some.callee in
    let below =
    lower c.in-Expand.at c.in-Expand.name c.in-Expand.args ms (macro_at callee, before (plain_macros c.args.self.now.macros.now) callee.number)
    (ap (callee_of ms) (sym c.as_slice.ensures.value) ∙ c.in-Some.ensures.2) in
    let here = ap (λ f. expanded_height ms (written f)) c.in-Expand.is in
    let fact : 2 * expanded_height (before (plain_macros c.args.self.now.macros.now) callee.number) (written callee.body.now) + 1 < t =
    omega (arith, c.decreases, here, below) in
    (fact, c.requires)

pub expansion-returns-in-Some : goal.expansion-returns-in-Some
expansion-returns-in-Some t c =
    let ms = before (plain_macros c.args.self.now.macros.now) c.args.earlier in
    let callee = c.in-Some.callee in
    let inside = before (plain_macros c.args.self.now.macros.now) callee.number in
    let at = c.in-Expand.at in
    let same =
    expansion_found at c.in-Expand.name c.in-Expand.args ms (macro_at callee, inside)
    (ap (callee_of ms) (sym c.as_slice.ensures.value) ∙ c.in-Some.ensures.2) in
    let names = get_or c.args.self.now.names.now callee.number c.index-self-callee.result in
    let named =
    parameter_names_at (plain_macros c.args.self.now.macros.now) c.args.self.now.names.now callee.number (macro_at callee) c.index-self-callee.result c.requires
    c.in-Some.ensures.1 in
    let body = expansion_of inside (written callee.body.now) in
    IfOk-weaker c.binding-in-Some.result
    (λ f. written f ≡ bind_ at names c.in-Expand.args body)
    (λ f. written f ≡ expansion_of ms (written c.args.formula.now))
    (λ f e. e ∙ ap (λ ns. bind_ at ns c.in-Expand.args body) named ∙ sym same ∙ ap (λ g. expansion_of ms (written g)) (sym c.in-Expand.is))
    c.binding-in-Some.ensures

pub expansion-returns-in-None : goal.expansion-returns-in-None
expansion-returns-in-None t c =
    let ms = before (plain_macros c.args.self.now.macros.now) c.args.earlier in
    let here : Written = expand_ c.in-Expand.at c.in-Expand.name c.in-Expand.args in
    let same : here ≡ expansion_of ms (written c.args.formula.now) =
    sym (expansion_not_found c.in-Expand.at c.in-Expand.name c.in-Expand.args ms (ap (callee_of ms) (sym c.as_slice.ensures.value) ∙ c.in-None.ensures))
    ∙ ap (λ f. expansion_of ms (written f)) (sym c.in-Expand.is) in
    IfOk-weaker c.shared_expand.result (λ f. written f ≡ here) (λ f. written f ≡ expansion_of ms (written c.args.formula.now))
    (λ f e. e ∙ same) c.shared_expand.ensures
