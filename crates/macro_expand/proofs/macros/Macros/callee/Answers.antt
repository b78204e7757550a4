use Rattle.std.proofs.Common.{◌≡◌, Some, None, slice_get, subst}
use Rattle.macro_expand.{specs.Tables.{callee_of, before, macro_at, plain_macros}, proofs.Tables.{found_below, found_above, found_none}}
use Rattle.macro_expand.proofs.macros.Macros.callee.Goals.{in_default-via-in-Some+else-found-earlier, in_default-via-in_default}
use Rattle.macro_expand.proofs.macros.Macros.callee.Goals as goal

pub returns-in-Some : goal.returns-in-Some
returns-in-Some c =
    let m = c.in-Some.found in
    let here =
    found_below c.self.inside.by_name.entries c.args.name.now c.self.invariant.0 c.self.invariant.1 c.get.result c.get.ensures.value m c.args.earlier
    c.in-Some.is c.if-found-earlier.true in (
      c.if-found-earlier.true,
      subst (λ ms. slice_get (plain_macros ms) m.now.number ≡ Some (macro_at m.now)) c.self.view_is here.0,
      subst (λ ms. callee_of (before (plain_macros ms) c.args.earlier) c.args.name.now ≡ Some (macro_at m.now, before (plain_macros ms) m.now.number))
          c.self.view_is here.1,
    )

pub returns-in_default : goal.returns-in_default
returns-in_default c =
    subst (λ ms. callee_of (before (plain_macros ms) c.args.earlier) c.args.name.now ≡ None) c.self.view_is
    (elim c.in_default.branch [
      | in_default-via-in-Some+else-found-earlier w ↦
          found_above c.self.inside.by_name.entries c.args.name.now c.self.invariant.0 c.self.invariant.1 c.get.result c.get.ensures.value w.in-Some.found
          c.args.earlier w.in-Some.is w.if-found-earlier.false
      | in_default-via-in_default w ↦
          found_none c.self.inside.by_name.entries c.args.name.now c.self.invariant.0 c.self.invariant.1 c.get.result c.get.ensures.value c.args.earlier
          w.in_default.is
    ])
