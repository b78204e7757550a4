use Rattle.std.proofs.{Common.{◌∙◌, ap, arith, length, map, List, subst}, lemmas.Result.{IfErr-weaker}}
use Rattle.uspec_lexer.proofs.Order.{spells-length}
use Rattle.pattern_reader.specs.{Opens.{Open, plain_open}, Answer.{IsClosedFault, closed}}
use Rattle.pattern_reader.proofs.read.pattern_of_tokens.Goals as goal

pub pattern_with_opens-requires-clause-few_opens : goal.pattern_with_opens-requires-clause-few_opens
pattern_with_opens-requires-clause-few_opens c =
    let same = ap length c.deref.ensures.value in
    let few = c.in_ok-opens.ensures.few in
    let most = spells-length c.requires.spelled in
    let short = c.requires.few in
    omega (arith, same, few, most, short)

pub returns-clause-err : goal.returns-clause-err
returns-clause-err c =
    IfErr-weaker c.pattern_with_opens.result _ _ (λ fault h some. closed c.requires.spelled
    (subst (λ (os : List Open). IsClosedFault c.args.bytes.now os fault) (ap (map plain_open) c.deref.ensures.value ∙ c.in_ok-opens.ensures.opens) (h some)))
    c.pattern_with_opens.ensures.err
