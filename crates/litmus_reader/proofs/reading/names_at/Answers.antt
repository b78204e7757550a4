use Rattle.std.proofs.{Common.{◌≡◌, ℕ, ◌+◌, List, [], ◌∷◌, ◌++◌, Some, length, arith, sym, ap, ◌∙◌, append_assoc}, lemmas.List.{append-nil, length-append}}
use Rattle.std.proofs.lemmas.Option.{slice_get_within}
use Rattle.uspec_lexer.specs.{View.{plain}, Token.{Token as PlainToken}}
use Rattle.litmus_reader.{specs.Reading.{IsNameAt}, proofs.Places.{names-more, names-none}}
use Rattle.litmus_reader.proofs.reading.names_at.Goals.{then-loop-next-test+else-is_name_at, else-loop-next-test}
use Rattle.litmus_reader.proofs.reading.names_at.Goals as goal

pub loop-next-preserved : goal.loop-next-preserved
loop-next-preserved c =
    let n : IsNameAt c.args.tokens.now c.loop-next.next = c.is_name_at.ensures.0 c.if-is_name_at.true in
    let found : Some (plain c.get.result) ≡ Some n.token = sym c.get.ensures ∙ n.at in
    let read : plain c.get.result ≡ n.token = cc in
    let pushed : c.push.new.self ≡ c.loop-next.names ++ n.token.piece ∷ [] =
    c.in_ok-push.ensures ∙ ap (λ (t : PlainToken). c.loop-next.names ++ t.piece ∷ []) read in
    record {
      reached = omega (arith, c.loop-next.invariant.reached, ap length pushed, length-append c.loop-next.names (n.token.piece ∷ []));
      within = omega arith;
      agree = λ names at.
          let (ws, are, those) = c.loop-next.invariant.agree names at in
          let (others, first, these) = names-more ws those n in (
            others,
            are ∙ ap (λ (x : List (List ℕ)). c.loop-next.names ++ x) first ∙ sym (append_assoc c.loop-next.names (n.token.piece ∷ []) others)
                ∙ ap (λ (x : List (List ℕ)). x ++ others) (sym pushed),
            these,
          );
    }

pub returns-clause-names : goal.returns-clause-names
returns-clause-names c = λ names at.
    let (ws, are, those) = c.loop-next.invariant.agree names at in
    let none : ws ≡ [] = names-none ws those (elim c.loop-next-test.branch [
      | then-loop-next-test+else-is_name_at w ↦ λ n. let yes = w.is_name_at.ensures.1 n in let no = w.if-is_name_at.false in cc
      | else-loop-next-test w ↦ λ n. omega (arith, slice_get_within c.args.tokens.now c.loop-next.next n.token n.at)
    ]) in
    let same : names ≡ c.loop-next.names = are ∙ ap (λ (x : List (List ℕ)). c.loop-next.names ++ x) none ∙ append-nil c.loop-next.names in
    (sym same, c.loop-next.invariant.reached ∙ ap (λ (x : List (List ℕ)). c.args.k + length x) (sym same))
