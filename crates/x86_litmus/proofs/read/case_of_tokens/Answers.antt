use Rattle.std.proofs.{Common.{inr, subst}, lemmas.Result.{IfOk-weaker, IfErr-weaker}}
use Rattle.ll_grammar.specs.FirstFault.{IsSyntaxAnswer}
use Rattle.x86_litmus.{specs.Syntax.{IsListing}, proofs.Outcomes.{case_of_bytes, fault_of_bytes}}
use Rattle.x86_litmus.proofs.read.case_of_tokens.Goals as goal

pub returns-in-Some-clause-err : goal.returns-in-Some-clause-err
returns-in-Some-clause-err c = inr (record {
  tokens = c.args.tokens.now;
  spelled = c.requires.spelled;
  k = c.in-Some.k;
  fault_at = subst (IsSyntaxAnswer IsListing c.args.tokens.now) c.in-Some.is c.in_ok-k.ensures;
  at = c.place.ensures;
})

pub returns-clause-ok : goal.returns-clause-ok
returns-clause-ok c =
    IfOk-weaker c.case_of_listing.result _ _ (case_of_bytes c.args.bytes.now c.args.tokens.now c.requires.spelled) c.case_of_listing.ensures.ok

pub returns-clause-err : goal.returns-clause-err
returns-clause-err c =
    IfErr-weaker c.case_of_listing.result _ _ (fault_of_bytes c.args.bytes.now c.args.tokens.now c.requires.spelled) c.case_of_listing.ensures.err
