-- The report on the ring's front says what is found of its model and its case.
use Rattle.std.{proofs.Common.{◌≡◌, ℕ, List, length, refl, sym, ◌∙◌, ap, subst}, specs.Prelude.{Result}}
use Rattle.pc_common.specs.{Case.{Case}, World.{Node}, Lines.{Verdict, observable, unobservable}, declared.status.Status.{Status}}
use Rattle.pc_common.specs.declared.status.Status.TheVariants.{Observable as is_observable, Unobservable as is_unobservable}
use Rattle.pc_case.specs.MicroOps.{AreMicroOps}
use Rattle.pc_syntax.specs.Written.{WrittenModel}
use Rattle.pc_ground.specs.{declared.{front.Front.{Front}, version.Version.{Version, TheVariants.{One}}}, GroundTree.{ground_tree}, Refutes.{IsRefutation}}
use Rattle.litmus_reader.specs.Answer.{CaseOf}
use Rattle.pc_front.specs.Front.{IsFrontOf, IsFirstFrontFault as IsTestFault}
use Rattle.solver.specs.{Answers.{IsAnswer}, declared.search.answer.Answer.{Answer as Found, TheVariants.{Observable as a_graph, Unobservable as a_refutation}}}
use Rattle.cert_check.specs.{Certificates.{certificate_lines, tree_lines}, Verdicts.{plain_verdict}}
use Rattle.gen_command.specs.{Ring.{ring_model, ring_test}, declared.report.Report.{Report}, Summaries.{IsTrueVerdict, IsCounted, of_graph, of_tree, IsSummary}}
use Rattle.gen_command.specs.{Reports.{IsReport}, GenAnswers.{IsRingReport}}
use Rattle.command_base.specs.{declared.ending.Ending.{Ending}, SecondFiles.{SaysFront}, Endings.{ReturnsFront}, Questions.{question_by}}
use Rattle.verdicts.specs.{declared.verdict.FoundVerdict.{FoundVerdict}, Certified.{IsCertified, seen, unseen}}
use Rattle.verdicts.specs.{Verdicts.{IsVerdict, status_of, kind_of_found, verdict_text}, StepCounts.{splits_found, leaves_found}}
use Rattle.verdicts.proofs.{CertifiedTruth.{certified_true}, VerdictTexts.{verdict_certified}}
use Rattle.search_trait.proofs.FoundFronts.{front_numbered}

-- what is said of these bytes is said of those
pub front_moved : (r : Result Front Ending) (mb tb model test : List ℕ) → mb ≡ model → tb ≡ test
    → ReturnsFront CaseOf IsTestFault mb tb r → ReturnsFront CaseOf IsTestFault model test r
front_moved r mb tb model test em et h =
    let P : List ℕ → Type 0 = λ b. ReturnsFront CaseOf IsTestFault b tb r in
    let Q : List ℕ → Type 0 = λ b. ReturnsFront CaseOf IsTestFault model b r in
    subst Q et (subst P em h)

true_kind : (version : Version) (m : WrittenModel) (c : Case) (text : List ℕ) (found : Found) → IsCertified version m c (status_of found) text
    → IsTrueVerdict m c (kind_of_found found)
true_kind version m c text (a_graph g) is = (certified_true is).0 refl
true_kind version m c text (a_refutation r) is = (certified_true is).1 refl

unlike : is_unobservable ≡ is_observable → ⊥
unlike e = cc

graph_counted : {version : Version} {m : WrittenModel} {c : Case} {text : List ℕ} {status : Status} → IsCertified version m c status text
    → status ≡ is_observable
    → IsCounted m c observable 0 0
graph_counted (seen is) e = of_graph {lines = is.lines} is.certificate
graph_counted (unseen lines is tree) e = absurd (unlike e)

counted_kind : (version : Version) → version ≡ One → (m : WrittenModel) (c : Case) (text : List ℕ) (nodes : List Node) (found : Found)
    → IsAnswer version nodes (ground_tree m c) found → IsCertified version m c (status_of found) text
    → IsCounted m c (kind_of_found found) (splits_found found) (leaves_found found)
counted_kind version one m c text nodes (a_graph g) w is = graph_counted is refl
counted_kind version one m c text nodes (a_refutation r) refuted is =
    let P : Version → Type 0 = λ v. IsRefutation v (ground_tree m c) r in
    of_tree {lines = certificate_lines (question_by m c) unobservable (tree_lines One r)}
    (record { steps = r; lines_are = refl; refutes = subst P one refuted.0 })

-- the report says it
summary_of : (n : ℕ) (m : WrittenModel) (c : Case) (v : FoundVerdict) (r : Report) → v.version ≡ One → AreMicroOps c.ops → IsVerdict m c v → IsReport n v r
    → IsSummary m c (plain_verdict r.verdict) r.nodes r.splits r.leaves
summary_of n m c v r one kept verdict report =
    let certified : IsCertified v.version m c (status_of v.found) (verdict_text v) = verdict_certified m c v kept verdict in
    let T : Verdict → Type 0 = λ k. IsTrueVerdict m c k in
    let A : Verdict → Type 0 = λ k. IsCounted m c k (splits_found v.found) (leaves_found v.found) in
    let B : ℕ → Type 0 = λ k. IsCounted m c (plain_verdict r.verdict) k (leaves_found v.found) in
    let D : ℕ → Type 0 = λ k. IsCounted m c (plain_verdict r.verdict) r.splits k in record {
      is_true = subst T (sym report.verdict) (true_kind v.version m c (verdict_text v) v.found certified);
      nodes_are = report.nodes ∙ ap length (front_numbered v.front (ground_tree m c) verdict.front_of.tree);
      counted = subst D (sym report.leaves) (subst B (sym report.splits) (subst A (sym report.verdict)
          (counted_kind v.version one m c (verdict_text v) v.front.numbering v.found verdict.found certified)));
    }

-- the verdict on the ring's front is reported
pub ring_reported : (n : ℕ) (front : Front) → SaysFront CaseOf ring_model (ring_test n) front → (v : FoundVerdict) → v.version ≡ One
    → ((m : WrittenModel) (c : Case) → IsFrontOf m c front → IsVerdict m c v)
    → (r : Report) → IsReport n v r → IsRingReport n r
ring_reported n front say v one each r report = record {
  cores = report.cores;
  m = say.m;
  c = say.c;
  says = record { says_model = say.says_model; says_test = say.says_case };
  summary = summary_of n say.m say.c v r one say.kept (each say.m say.c say.front_of) report;
}
