use Rattle.std.proofs.{Common.{◌∙◌, inl, inr, get_or, sym, ap, arith}, lemmas.Bool.{cases_eq}}
use Rattle.pc_ground.specs.declared.literal.Literal.TheVariants.{Node, NoEdge}
use Rattle.order_graph.proofs.OnList.{same_read}
use Rattle.order_graph.proofs.clashes.first_joined_pair.Goals as goal

pub returns-in-Some : goal.returns-in-Some
returns-in-Some c =
    let ls = c.args.literals.now in let k = c.loop-literal.literal-index in let inside = c.loop-literal-test.true in
    let denied = NoEdge c.in-Some.pair.0 c.in-Some.pair.1 in
    let (is, over) = c.in-Some.ensures in
    ((k, inside, same_read ls k denied (Node 0) inside ∙ is), over)

pub loop-literal-preserved : goal.loop-literal-preserved
loop-literal-preserved c = λ j x y below is over.
    let ls = c.args.literals.now in let k = c.loop-literal.literal-index in
    elim (cases_eq j k) [
      | inl same ↦
          c.in_default.ensures x y
          (same_read ls k (Node 0) (NoEdge x y) c.loop-literal-test.true ∙ ap (λ i. get_or ls i (NoEdge x y)) (sym same) ∙ is) over
      | inr apart ↦ c.loop-literal.invariant j x y (omega arith) is over
    ]

pub returns : goal.returns
returns c = λ x y has over.
    let (k, inside, is) = has in let ended = c.loop-literal-test.false in c.loop-literal.invariant k x y (omega arith) is over
