use Rattle.std.proofs.{Common.{ℕ, List, subst}, lemmas.Result.{IfOk-weaker, IfErr-weaker}}
use Rattle.pc_common.specs.Case.{Case}
use Rattle.uspec_lexer.specs.{Token.{Token}, Spells.{Spells}}
use Rattle.litmus_reader.specs.{Syntax.{IsTest}, Answer.{CaseOf, IsCaseFault, CaseIn, IsContentFaultIn}, Lists.{case_by}, declared.lists.CaseLists.{CaseLists}}
use Rattle.litmus_reader.specs.declared.fault.CaseFault.{CaseFault, TheVariants.{Lexical, Syntax, Content, Memory}}
use Rattle.ll_grammar.specs.FirstFault.{IsSyntaxAnswer}
use Rattle.litmus_reader.proofs.read.lists_of_tokens.Goals as goal

-- what the tokens say, the bytes say
case_of : (bytes : List ℕ) (ts : List Token) → Spells bytes ts → (case : Case) → CaseIn ts case → CaseOf bytes case
case_of bytes ts spelled case (items, test, clean, is) = record {
  items = items;
  text = record { tokens = ts; spelled = spelled; test = test };
  clean = clean;
  is = is;
}

refusal_of : (bytes : List ℕ) (ts : List Token) → Spells bytes ts → (fault : CaseFault) → IsContentFaultIn ts fault → IsCaseFault bytes fault
refusal_of bytes ts spelled (Content kind place) (items, test, here) = (items, record { tokens = ts; spelled = spelled; test = test }, here)
refusal_of bytes ts spelled Memory here = tt
refusal_of bytes ts spelled (Lexical place) here = absurd here
refusal_of bytes ts spelled (Syntax place) here = absurd here

pub returns-in-Some-clause-err : goal.returns-in-Some-clause-err
returns-in-Some-clause-err c = record {
  tokens = c.args.tokens.now;
  spelled = c.requires.spelled;
  k = c.in-Some.k;
  fault = subst (IsSyntaxAnswer IsTest c.args.tokens.now) c.in-Some.is c.in_ok-k.ensures;
  at = c.place.ensures;
}

pub returns-clause-ok : goal.returns-clause-ok
returns-clause-ok c =
    IfOk-weaker c.lists_of_test.result _ _ (λ (l : CaseLists). case_of c.args.bytes.now c.args.tokens.now c.requires.spelled (case_by l))
    c.lists_of_test.ensures.ok

pub returns-clause-err : goal.returns-clause-err
returns-clause-err c =
    IfErr-weaker c.lists_of_test.result _ _ (refusal_of c.args.bytes.now c.args.tokens.now c.requires.spelled) c.lists_of_test.ensures.err
