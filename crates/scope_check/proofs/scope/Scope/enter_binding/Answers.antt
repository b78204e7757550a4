use Rattle.std.proofs.Common.{◌<◌, ◌≤◌, length, refl, arith}
use Rattle.pc_syntax.specs.Scope.{bound_in}
use Rattle.scope_check.proofs.{Walks.{drop_at}, ScopeLists.{scope_within, scope_over, bound_in_length, bound_none, bound_one_more, bound_whole}}
use Rattle.scope_check.proofs.scope.Scope.enter_binding.Goals as goal

pub returns-then-not-has_room-clause-err : goal.returns-then-not-has_room-clause-err
returns-then-not-has_room-clause-err c =
    let inside = bound_in c.args.self.now c.args.names.now c.args.args.now in
    let many : 32 < length inside = omega (arith, bound_in_length c.args.self.now c.args.names.now c.args.args.now, c.if-not-has_room.ensures) in
    rw c.too_many_variables.ensures (scope_over c.args.at inside many)

pub loop-k-init : goal.loop-k-init
loop-k-init c = rw c.in_ok-inside.ensures.ok (bound_none c.args.self.now c.args.names.now c.args.args.now)

pub push-requires : goal.push-requires
push-requires c = omega (arith, c.loop-k.invariant.0, c.if-not-has_room.ensures)

pub loop-k-preserved : goal.loop-k-preserved
loop-k-preserved c =
    let names = c.args.names.now in
    let args = c.args.args.now in
    let k = c.loop-k.k in
    rw c.push.ensures
    (bound_one_more c.args.self.now names args k c.get-in-loop-k.result.now c.get.result.now _ c.loop-k.inside
    (drop_at names k _ c.get-in-loop-k.ensures) (drop_at args k _ c.get.ensures)
    (rw (c.as_slice.ensures.value, c.sort_of-sort.ensures, c.len-in-loop-k.ensures.value) refl) c.loop-k.invariant)

pub extend-requires : goal.extend-requires
extend-requires c = omega (arith, c.loop-k.invariant.0, c.if-not-has_room.ensures)

pub returns-clause-ok : goal.returns-clause-ok
returns-clause-ok c =
    let scope = c.args.self.now in
    let inside = bound_in scope c.args.names.now c.args.args.now in
    let few : length inside ≤ 32 = omega (arith, bound_in_length scope c.args.names.now c.args.args.now, c.if-not-has_room.ensures) in
    let whole = bound_whole scope c.args.names.now c.args.args.now c.loop-k.k c.loop-k.inside (omega arith) c.loop-k.invariant in
    (scope_within c.args.at inside few, rw (c.extend.ensures, whole) refl)
