-- The text of a verdict is that of its certificate.
use Rattle.std.{proofs.Common.{◌≡◌, ℕ, List, [], ◌∷◌, ◌++◌, refl, sym, ◌∙◌, ap, subst}, specs.{Prelude.{codes, Contains}, List.{flat_map}}}
use Rattle.pc_common.specs.{Case.{Case, Expectation}, World.{Node}}
use Rattle.pc_common.specs.Lines.{Names, Line as Line', Verdict, observable, unobservable, end, lines_text, verdict_text as verdict_words, second_text}
use Rattle.pc_common.specs.Steps.{Step}
use Rattle.pc_case.specs.MicroOps.{AreMicroOps}
use Rattle.pc_syntax.specs.{Written.{stage_numbers, WrittenModel}, Observable.{IsNodeOf, IsWorldOf}}
use Rattle.pc_ground.specs.{declared.{front.Front.{Front}, version.Version.{Version, TheVariants.{One, Two}}}, GroundTree.{ground_tree}, NodeForm.{names_of}}
use Rattle.pc_ground.proofs.UnfoldedTruth.{ground_tree_true}
use Rattle.pc_front.specs.Front.{IsFrontOf}
use Rattle.refutation.specs.Steps.{step_text}
use Rattle.graph_text.specs.Graphs.{graph_nodes, graph_edges, graph_lines}
use Rattle.solver.specs.{Answers.{IsAnswer}, declared.search.answer.Answer.{Answer as Found, TheVariants.{Observable as a_graph, Unobservable as a_refutation}}}
use Rattle.verdicts.specs.{declared.verdict.FoundVerdict.{FoundVerdict}, Verdicts.{IsVerdict, status_of, version_text, verdict_text}}
use Rattle.verdicts.{specs.Certified.{IsCertified, seen, unseen}, proofs.Fronts.{node_of_both, all_nodes}}
use Rattle.cert_check.{specs.Certificates.{Question, certificate_lines, tree_lines}, proofs.StepNodes.{steps_text, lines_append}}
use Rattle.command_base.{specs.Questions.{names_by, question_by}, proofs.AskedAlike.{numbers_same, names_same}}

-- a text by its names and what it compares with
text_by : Verdict → List Line' → Names → Expectation → List ℕ
text_by kind body names e =
    (verdict_words kind ++ codes "\n") ++ ((second_text kind e ++ codes "\n") ++ (lines_text names body ++ codes "end\n"))

certificate_text : (q : Question) (kind : Verdict) (body : List Line')
    → text_by kind body q.names q.expectation ≡ lines_text q.names (certificate_lines q kind body)
unfolding text_by
certificate_text q kind body =
    ap (λ z. (verdict_words kind ++ codes "\n") ++ ((second_text kind q.expectation ++ codes "\n") ++ z)) (sym (lines_append q.names body (end ∷ [])))

module _ (m : WrittenModel) (c : Case) (front : Front) (is : IsFrontOf m c front) where
  moved_text : (kind : Verdict) (body : List Line')
      → text_by kind body (names_of front) front.case.expectation ≡ lines_text (names_by m c) (certificate_lines (question_by m c) kind body)
  moved_text kind body =
      ap (λ ns. text_by kind body ns front.case.expectation) (names_same m c front is)
      ∙ ap (λ (d : Case). text_by kind body (names_by m c) d.expectation) is.parts.case
      ∙ certificate_text (question_by m c) kind body

-- the lines of a refutation and their text
tree_text : (version : Version) (names : Names) (steps : List (Step Node))
    → version_text version ++ flat_map (step_text names) steps ≡ lines_text names (tree_lines version steps)
tree_text One names steps = steps_text names steps
tree_text Two names steps = ap (λ (z : List ℕ). codes "version 2\n" ++ z) (steps_text names steps)

-- the verdict is one on the model and the case, and so is its text
pub verdict_certified : (m : WrittenModel) (c : Case) (v : FoundVerdict) → AreMicroOps c.ops → IsVerdict m c v
    → IsCertified v.version m c (status_of v.found) (verdict_text v)
unfolding text_by
verdict_certified m c v kept is = go v.found is.found
  where
    go : (found : Found) → IsAnswer v.version v.front.numbering (ground_tree m c) found
        → IsCertified v.version m c (status_of found) (verdict_text (record { front = v.front; version = v.version; found = found }))
    go (a_graph g) w =
        let P : List ℕ → Type 0 = λ ns. IsWorldOf ns c.ops w.world in
        seen (record {
          lines = certificate_lines (question_by m c) observable (graph_lines (graph_nodes g) (graph_edges g));
          text_is = moved_text m c v.front is.front_of observable (graph_lines (graph_nodes g) (graph_edges g));
          certificate = record {
            nodes = graph_nodes g;
            edges = graph_edges g;
            lines_are = refl;
            ends = w.ends;
            world = w.world;
            generated = w.generated;
            of_both = subst P (sym (numbers_same m.stages)) (
              w.is_world,
              all_nodes (IsNodeOf (stage_numbers m.stages) c.ops) w.world.nodes (λ a i.
                  node_of_both m c v.front is.front_of kept a (w.known a (subst (λ (ns : List Node). Contains ns a) w.generated.nodes_are i))),
            );
            satisfied = ground_tree_true m c w.world ∙ w.satisfied;
          };
        })
    go (a_refutation r) refuted =
        let names = names_of v.front in
        let head = λ (z : List ℕ). (verdict_words unobservable ++ codes "\n")
        ++ ((second_text unobservable v.front.case.expectation ++ codes "\n") ++ (z ++ codes "end\n")) in
        unseen (certificate_lines (question_by m c) unobservable (tree_lines v.version r))
        (ap head (tree_text v.version names r) ∙ moved_text m c v.front is.front_of unobservable (tree_lines v.version r))
        (record { steps = r; lines_are = refl; refutes = refuted.0 })
