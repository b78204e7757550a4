use Rattle.std.proofs.Common.{ap, arith}
use Rattle.pc_case.{specs.Plain.{micro_op}, proofs.Names.{stands_at, place_within, none_more, one_name, other_name}}
use Rattle.pc_case.proofs.case.Case.find.Goals as goal

pub returns-then-eq : goal.returns-then-eq
returns-then-eq c =
    let o = c.op-item.result in
    let named = one_name o.id.g c.args.id.g o.id.n c.args.id.n c.if-eq.ensures in (
      micro_op o,
      stands_at c.self.inside.ops c.as_slice-op-items.result.now c.args.self.now.ops c.loop-k.k o (ap (λ p. p.ops) c.self.view_is)
          c.as_slice-op-items.ensures.value
          c.loop-k-test.true c.op-item.is,
      named.0,
      named.1,
    )

pub loop-k-preserved : goal.loop-k-preserved
loop-k-preserved c =
    let o = c.op-item.result in
    none_more c.args.self.now.ops c.args.id.g c.args.id.n c.loop-k.k (micro_op o)
    (stands_at c.self.inside.ops c.as_slice-op-items.result.now c.args.self.now.ops c.loop-k.k o (ap (λ p. p.ops) c.self.view_is)
    c.as_slice-op-items.ensures.value
    c.loop-k-test.true c.op-item.is)
    (other_name o.id.g c.args.id.g o.id.n c.args.id.n c.if-eq.ensures) c.loop-k.invariant

pub returns : goal.returns
returns c = λ k named.
    let within = place_within c.self.inside.ops c.as_slice-op-items.result.now c.args.self.now.ops k named.0 (ap (λ p. p.ops) c.self.view_is)
    c.as_slice-op-items.ensures.value named.1 in
    c.loop-k.invariant k (omega (arith, within)) named
