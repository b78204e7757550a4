-- A text has one case at most, and none where it has a first fault.
use Rattle.std.proofs.Common.{◌≡◌, ◌≢◌, ℕ, List, refl, sym, ap, subst, ◌∙◌}
use Rattle.pc_common.specs.Case.{Case}
use Rattle.ll_grammar.proofs.Faults.{no_place}
use Rattle.uspec_lexer.proofs.SpellsLaws.{spells-unique, spells-no_fault}
use Rattle.litmus_reader.specs.{Syntax.{IsTestOf, IsTest}, Items.{case_of}, Answer.{IsTextOf, CaseOf, IsCaseFault}, declared.item.Item.{Item}}
use Rattle.litmus_reader.{specs.declared.fault.CaseFault.{CaseFault, TheVariants.{Lexical, Syntax, Content, Memory}}, proofs.OneReading.{one_test}}

-- a text is a test of one list of items at most
pub one_reading : (bytes : List ℕ) (xs ys : List Item) → IsTextOf bytes xs → IsTextOf bytes ys → xs ≡ ys
one_reading bytes xs ys s t =
    one_test s.tokens xs ys s.test (subst (IsTestOf ys) (spells-unique t.spelled s.spelled) t.test)

-- no text has two cases
pub one_case : (bytes : List ℕ) (c d : Case) → CaseOf bytes c → CaseOf bytes d → c ≡ d
one_case bytes c d s t = s.is ∙ ap case_of (one_reading bytes s.items t.items s.text t.text) ∙ sym t.is

-- a text with a case has no fault
pub no_fault : (bytes : List ℕ) (c : Case) (fault : CaseFault) → CaseOf bytes c → fault ≢ Memory → IsCaseFault bytes fault → ⊥
no_fault bytes c (Lexical place) s not f = spells-no_fault s.text.spelled f
no_fault bytes c (Syntax place) s not f =
    no_place IsTest f.tokens f.k (s.items, subst (IsTestOf s.items) (spells-unique s.text.spelled f.spelled) s.text.test) f.fault
no_fault bytes c (Content kind place) s not (items, said, f) =
    s.clean f.before f.item f.after (one_reading bytes s.items items s.text said ∙ f.are) kind place f.here
no_fault bytes c Memory s not f = not refl
