use Rattle.std.{proofs.Common.{◌≡◌, Bool, true, false, not, Option, Some, None, option_copied, Bor, sym, ap, ◌∙◌, subst}, specs.Option.{is_some}}
use Rattle.pc_syntax.specs.{Written.{written}, MacroFaults.{macro_with_name}}
use Rattle.macro_expand.specs.{declared.macros.Macro.{Macro}, Tables.{with_macro, macro_at, plain_macros}}
use Rattle.macro_expand.proofs.Tables.{entry_macros, still_table, entered_new, entered_old, some_first}
use Rattle.macro_expand.proofs.macros.Macros.enter.Goals as goal

none_is : (o : Option (Bor Macro)) (p : Option Macro) (b : Bool) → option_copied o ≡ p → is_some o ≡ not b → b ≡ true → p ≡ None
none_is None p b h e t = sym h
none_is (Some m) p b h e t = cc

some_is : (o : Option (Bor Macro)) (p : Option Macro) (b : Bool) → option_copied o ≡ p → is_some o ≡ not b → b ≡ false → is_some p ≡ true
some_is None p b h e t = cc
some_is (Some m) p b h e t = ap is_some (sym h)

pub invariant_of-self : goal.invariant_of-self
invariant_of-self c =
    still_table c.self.inside.by_name c.insert.new.self.entries c.as_slice-key.result
    (record { number = c.len-number.result; name = c.args.name; parameters = c.args.parameters; body = c.args.body })
    (none_is c.get.result _ c.is_none.result c.get.ensures.value c.is_none.ensures c.if-is_none.true)
    c.in_ok-insert.ensures.entries c.self.invariant.0 c.as_slice-key.ensures.value c.self.invariant.1 c.len-number.ensures.len

pub returns-in_ok-insert : goal.returns-in_ok-insert
returns-in_ok-insert c =
    let m : Macro = record { number = c.len-number.result; name = c.args.name; parameters = c.args.parameters; body = c.args.body } in
    entered_new c.self.inside.by_name c.insert.new.self.entries c.as_slice-key.result m
    (none_is c.get.result _ c.is_none.result c.get.ensures.value c.is_none.ensures c.if-is_none.true)
    c.in_ok-insert.ensures.entries c.self.invariant.0 c.as_slice-key.ensures.value
    ∙ ap (λ ms. with_macro (plain_macros ms) (macro_at m)) c.self.view_is

pub returns-else-is_none : goal.returns-else-is_none
returns-else-is_none c =
    let es = c.self.inside.by_name.entries in
    let there =
    some_first es c.as_slice-key.result.now c.self.invariant.0
    (some_is c.get.result _ c.is_none.result c.get.ensures.value c.is_none.ensures c.if-is_none.false) in
    entered_old (plain_macros c.args.self.now)
    (record { name = c.args.name.now; parameters = c.args.parameters.now; body = written c.args.body.now })
    (subst (λ ms. is_some (macro_with_name (plain_macros ms) c.args.name.now.name) ≡ true) c.self.view_is
    (subst (λ w. is_some (macro_with_name (entry_macros es) w) ≡ true) c.as_slice-key.ensures.value there))
