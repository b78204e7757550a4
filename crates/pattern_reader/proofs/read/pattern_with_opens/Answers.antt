use Rattle.std.proofs.{Common.{◌∙◌, map, subst}, lemmas.Result.{IfErr-weaker}}
use Rattle.litmus_reader.specs.{Answer.{CaseOf}, Lists.{case_by}}
use Rattle.pattern_reader.{specs.{Opens.{plain_open}, Answer.{too_many}}, proofs.RowCases.{closed_short}}
use Rattle.pattern_reader.proofs.read.pattern_with_opens.Goals as goal

pub read_lists-requires : goal.read_lists-requires
read_lists-requires c =
    closed_short c.args.bytes.now (map plain_open c.args.opens.now) c.deref.result.now (c.deref.ensures.value ∙ c.in_ok-closed.ensures) c.requires.few

pub returns-clause-err : goal.returns-clause-err
returns-clause-err c =
    IfErr-weaker c.pattern_of_lists.result _ _ (λ fault h some. too_many
    (subst (λ b. CaseOf b (case_by c.in_ok-lists.lists)) (c.deref.ensures.value ∙ c.in_ok-closed.ensures) c.in_ok-lists.ensures.ok) (h some))
    c.pattern_of_lists.ensures.err
