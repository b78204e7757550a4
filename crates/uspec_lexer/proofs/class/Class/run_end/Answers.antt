use Rattle.std.proofs.{Common.{◌≡◌, true, sym, ◌∙◌, subst, arith, slice_index, ⊎_elim}, str.Laws.{order}}
use Rattle.uspec_lexer.specs.Scan.{is_in}
use Rattle.uspec_lexer.proofs.class.Class.run_end.Goals as goal

pub loop-end-preserved : goal.loop-end-preserved
loop-end-preserved g c =
    let bytes = c.args.bytes.now in
    let end = c.loop-end.end in
    let here : is_in g.L.LexicalGrammar.table c.args.self (slice_index bytes end) ≡ true = sym c.has.ensures ∙ c.if-has.true in
    record {
      rises = omega (arith, c.loop-end.invariant.rises);
      within = omega arith;
      inside = λ i from below.
          ⊎_elim
          (λ before. c.loop-end.invariant.inside i from before)
          (λ at. let same : end ≡ i = omega arith in subst (λ k. is_in g.L.LexicalGrammar.table c.args.self (slice_index bytes k) ≡ true) same here)
          (order i end);
    }
