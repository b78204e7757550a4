use Rattle.std.{proofs.{Common.{◌≡◌, List, refl, subst}, lemmas.Result.{IfOk-weaker}}, specs.Prelude.{MatchBool, codes}}
use Rattle.pc_common.{specs.Lines.{Line}, proofs.Bools.{clash}}
use Rattle.graph_text.specs.OpenGraphs.{Takes, Refuses}
use Rattle.cert_check.specs.{Certificates.{Question}, Subjects.{question_of_subject, IsSubject}, Stages.{StandsAt, HasAdvanced, IsGraphSoFar, IsTreeSoFar}}
use Rattle.cert_check.specs.{Judged.{HasStepped}, declared.stage.Stage.{Stage, TheVariants.{Graph, Tree}}}
use Rattle.cert_check.proofs.{Advances.{graph_advanced, ended_stuck}, Judged.{after_header, later_stepped}}
use Rattle.cert_check.proofs.next.advance.Goals.{in-Start, in-SaidObservable, in-SaidUnobservable+in_ok-next-in-SaidUnobservable}
use Rattle.cert_check.proofs.next.advance.Goals.{in-Graph+else-not-is_end+in_ok-next-in-Graph, in-Tree+else-not-is_end-2, in-Ended}
use Rattle.cert_check.proofs.next.advance.Goals as goal

pub returns-then-not-is_end : goal.returns-then-not-is_end
returns-then-not-is_end c =
    let s = c.args.subject.now in let q = question_of_subject s in let text = c.args.line.now in
    let old = c.in-Graph.graph in let new = c.take.new.self in
    IfOk-weaker c.take.result (λ taken. MatchBool taken (Takes s.names text old new) (Refuses s.names text old × (new ≡ old)))
    (λ good. IsSubject s → (lines : List Line) → StandsAt q c.args.stage.now lines → HasStepped s lines text (Graph new) good)
    (λ good taken subject lines st.
    let P : Stage → Type 0 = λ stage. StandsAt q stage lines in
    let so_far : IsGraphSoFar q old lines = subst P c.in-Graph.is st in
    later_stepped s (Graph new) good (after_header s so_far.lines_are)
    (graph_advanced q subject.readable old new lines text so_far (λ e. clash (c.is_end.ensures.1 e) c.if-not-is_end.true) c.take.ensures.of_names good
    taken))
    c.take.ensures.taken

pub returns-then-not-is_end-2 : goal.returns-then-not-is_end-2
returns-then-not-is_end-2 c =
    let s = c.args.subject.now in let q = question_of_subject s in let text = c.args.line.now in
    let old = c.in-Tree.tree in let new = c.take-then-not-is_end-2.new.self in
    IfOk-weaker c.take-then-not-is_end-2.result
    (λ good. (p : Question) → s.names ≡ p.names → (lines : List Line) → IsTreeSoFar p old lines → (text ≡ codes "end" → ⊥)
    → HasAdvanced p lines text (Tree new) good)
    (λ good. IsSubject s → (lines : List Line) → StandsAt q c.args.stage.now lines → HasStepped s lines text (Tree new) good)
    (λ good h subject lines st.
    let P : Stage → Type 0 = λ stage. StandsAt q stage lines in
    let so_far : IsTreeSoFar q old lines = subst P c.in-Tree.is st in
    later_stepped s (Tree new) good (after_header s so_far.lines_are)
    (h q refl lines so_far (λ e. clash (c.is_end-in-Tree.ensures.1 e) c.if-not-is_end-2.true)))
    c.take-then-not-is_end-2.ensures

pub returns : goal.returns
returns c = λ subject lines st.
    let s = c.args.subject.now in let q = question_of_subject s in
    let P : Stage → Type 0 = λ stage. StandsAt q stage lines in
    c.go_on.ensures s lines c.args.line.now (elim c.match-stage.branch [
      | in-Start w ↦ rw w.next-is (w.after_start-next.ensures subject lines (subst P w.in-Start.is st))
      | in-SaidObservable w ↦ rw w.next-is (w.after_observable-next.ensures lines (subst P w.in-SaidObservable.is st))
      | in-SaidUnobservable+in_ok-next-in-SaidUnobservable w ↦ rw w.next-is
          (w.in_ok-next-in-SaidUnobservable.ensures lines (subst P w.in-SaidUnobservable.is st))
      | in-Graph+else-not-is_end+in_ok-next-in-Graph w ↦ rw (w.next-is, w.is_end.ensures.0 w.if-not-is_end.false)
          (w.in_ok-next-in-Graph.ensures lines (subst P w.in-Graph.is st))
      | in-Tree+else-not-is_end-2 w ↦ rw (w.next-is, w.is_end-in-Tree.ensures.0 w.if-not-is_end-2.false)
          (w.end_tree-next.ensures s lines (subst P w.in-Tree.is st))
      | in-Ended w ↦ rw w.next-is (λ can. ended_stuck q lines c.args.line.now w.in-Ended.field-0 (subst P w.in-Ended.is st))
    ])
