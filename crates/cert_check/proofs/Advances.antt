-- What the next line makes of each stage.
use Rattle.std.proofs.Common.{◌≡◌, inl, ℕ, Bool, true, false, List, [], ◌∷◌, ◌++◌, refl, sym, ◌∙◌, ap, subst, arith}
use Rattle.std.{proofs.lemmas.List.Elements.{All-contains, All-nil}, specs.Prelude.{All, Contains, MatchBool, codes}}
use Rattle.pc_common.specs.{World.{Node}, Generated.{HasEnds}}
use Rattle.pc_common.specs.Lines.{Names, Line, Verdict as PlainVerdict, observable, unobservable, verdict, second, version_two, node, edge, step, end, line_words, verdict_text, second_text}
use Rattle.pc_common.{specs.Steps.{Leaf, path, Step, split, close}, proofs.{Elements.{in_from_contains, contains_from_in}, Bools.{clash}}}
use Rattle.pc_ground.specs.{declared.{literal.Literal.{Literal}, version.Version.{Version, TheVariants.{One, Two}}}, NodeForm.{IsNodeIn, AreReadable}}
use Rattle.pc_ground.specs.{Numbers.{nodes_of_tree}, Tree.{Tree as GroundTree}}
use Rattle.pc_ground.specs.Refutes.{all_signed, Branch, IsContradiction, a_cycle, a_path, an_absence, Closes, a_contradiction, a_falsity, literals_of, Runs, IsPartial, asserted}
use Rattle.graph_text.{specs.OpenGraphs.{PlainGraph, empty_graph, Takes, Refuses}, proofs.LinesOf.{keeps_ends}}
use Rattle.refutation.specs.{Steps.{HasItsNodes, HasLine}, Reading.{IsLineOf}}
use Rattle.tree_check.{specs.OpenBranches.{Stands}, proofs.Runs.{runs_then}}
use Rattle.cert_check.specs.{Certificates.{Question, header, tree_lines, IsCertificate, BeginsWell}, Verdicts.{plain_verdict}, Proper.{IsAsked}}
use Rattle.cert_check.specs.{Stages.{IsGraphSoFar, IsTreeSoFar, StandsAt, GoesOn, IsStuck, HasAdvanced, StepsOn}, declared.{header.Verdict.{Verdict}, stage.Stage.{Stage}}}
use Rattle.cert_check.specs.declared.{header.Verdict.TheVariants.{Observable, Unobservable}, open_tree.OpenTree.{OpenTree}}
use Rattle.cert_check.{specs.declared.stage.Stage.TheVariants.{Graph, Tree, Ended}, proofs.{Lasts.{snoc_some}, TreeLines.{tree_snoc}}}
use Rattle.cert_check.proofs.BodyBegins.{first_line, second_line}
use Rattle.cert_check.proofs.Nexts.{HasWorld, GraphNext, node_next, edge_next, graph_end, next_in_graph, TreeNext, version_next, step_next, last_next, next_in_tree, no_more}
use Rattle.cert_check.proofs.{StepNodes.{StepHas, runs_have, step_in}, Propers.{IsWithin, runs_within}}
use Rattle.cert_check.proofs.Words.{one_verdict, no_end_node, no_end_edge, no_end_step, no_version_step, no_version_end, is_node_line, is_edge_line, no_end_graph}

-- the first line
pub start_goes : (q : Question) (lines : List Line) (text : List ℕ) (v : PlainVerdict) (next : Stage) → lines ≡ [] → text ≡ verdict_text v
    → StandsAt q next (verdict v ∷ []) → GoesOn q lines text next
start_goes q lines text v next none is stands = record {
  line = verdict v;
  text_is = is;
  only = λ other same begins.
      let P : List Line → Type 0 = λ ls. BeginsWell q (ls ++ other ∷ []) in
      let u = first_line q other [] (subst P none begins) in
      u.1 ∙ ap verdict (one_verdict u.0 v (sym (ap (line_words q.names) u.1) ∙ sym same ∙ is));
  stands = (let P : List Line → Type 0 = λ ls. StandsAt q next (ls ++ verdict v ∷ []) in subst P (sym none) stands);
}

-- the second line
second_is : (q : Question) (lines : List Line) (v : PlainVerdict) (l : Line) → lines ≡ verdict v ∷ [] → BeginsWell q (lines ++ l ∷ [])
    → l ≡ second v q.expectation
second_is q lines v l are begins =
    let P : List Line → Type 0 = λ ls. BeginsWell q (ls ++ l ∷ []) in second_line q v l [] (subst P are begins)

pub said_stuck : (q : Question) (lines : List Line) (text : List ℕ) (v : PlainVerdict) → lines ≡ verdict v ∷ [] → (text ≡ second_text v q.expectation → ⊥)
    → IsStuck q lines text
said_stuck q lines text v are other l is begins = other (is ∙ ap (line_words q.names) (second_is q lines v l are begins))

pub graph_begins : (q : Question) (lines : List Line) (text : List ℕ) → lines ≡ verdict observable ∷ [] → text ≡ second_text observable q.expectation
    → GoesOn q lines text (Graph empty_graph)
graph_begins q lines text are is = record {
  line = second observable q.expectation;
  text_is = is;
  only = λ other same begins. second_is q lines observable other are begins;
  stands = record {
    of_names = All-nil (IsNodeIn q.names);
    ends = λ a b listed. absurd (in_from_contains (a, b) [] listed);
    lines_are = ap (λ (ls : List Line). ls ++ second observable q.expectation ∷ []) are;
  };
}

pub tree_begins : (q : Question) → IsAsked q → (lines : List Line) (text : List ℕ) (o : OpenTree) → o.is_new ≡ true → lines ≡ verdict unobservable ∷ []
    → text ≡ second_text unobservable q.expectation → Stands o.branches One q.tree (all_signed false (asserted q.tree 0) ∷ []) → GoesOn q lines text (Tree o)
tree_begins q asked lines text o is_new are is stands = record {
  line = second unobservable q.expectation;
  text_is = is;
  only = λ other same begins. second_is q lines unobservable other are begins;
  stands = record {
    asked = asked;
    version = One;
    steps = [];
    opens = all_signed false (asserted q.tree 0) ∷ [];
    partial = refl;
    stands = stands;
    lines_are = ap (λ (ls : List Line). ls ++ second unobservable q.expectation ∷ []) are;
    fresh = λ yes. (refl, refl);
    begun = λ old one none. clash is_new old;
  };
}

-- a line of a graph
graph_next : (q : Question) (g : PlainGraph) (lines : List Line) (l : Line) → IsGraphSoFar q g lines → BeginsWell q (lines ++ l ∷ [])
    → GraphNext q g.nodes g.edges l
graph_next q g lines l so_far begins =
    let P : List Line → Type 0 = λ ls. BeginsWell q (ls ++ l ∷ []) in next_in_graph q g.nodes g.edges l (subst P so_far.lines_are begins)

pub graph_end_stuck : (q : Question) (g : PlainGraph) (lines : List Line) (text : List ℕ) → IsGraphSoFar q g lines → text ≡ codes "end"
    → (HasWorld q g.nodes g.edges → ⊥)
    → IsStuck q lines text
graph_end_stuck q g lines text so_far is none l same begins = go (graph_next q g lines l so_far begins)
  where
    go : GraphNext q g.nodes g.edges l → ⊥
    go (node_next a at no_edges inside) = no_end_node q.names a (sym (ap (line_words q.names) at) ∙ sym same ∙ is)
    go (edge_next a b at has_a has_b) = no_end_edge q.names a b (sym (ap (line_words q.names) at) ∙ sym same ∙ is)
    go (graph_end at shown) = none shown

pub graph_ended : (q : Question) (g : PlainGraph) (lines : List Line) (text : List ℕ) → IsGraphSoFar q g lines → text ≡ codes "end" → HasWorld q g.nodes g.edges
    → GoesOn q lines text (Ended Observable)
graph_ended q g lines text so_far is shown = record {
  line = end;
  text_is = is;
  only = λ other same begins. go other same (graph_next q g lines other so_far begins);
  stands = record {
    nodes = g.nodes;
    edges = g.edges;
    lines_are = ap (λ (ls : List Line). ls ++ end ∷ []) so_far.lines_are;
    ends = so_far.ends;
    world = shown.0;
    generated = shown.1;
    of_both = shown.2;
    satisfied = shown.3;
  };
}
  where
    go : (other : Line) → text ≡ line_words q.names other → GraphNext q g.nodes g.edges other → other ≡ end
    go other same (node_next a at no_edges inside) = absurd (no_end_node q.names a (sym (ap (line_words q.names) at) ∙ sym same ∙ is))
    go other same (edge_next a b at has_a has_b) = absurd (no_end_edge q.names a b (sym (ap (line_words q.names) at) ∙ sym same ∙ is))
    go other same (graph_end at shown) = at

pub graph_stuck : (q : Question) (g : PlainGraph) (lines : List Line) (text : List ℕ) → IsGraphSoFar q g lines → (text ≡ codes "end" → ⊥)
    → Refuses q.names text g
    → IsStuck q lines text
graph_stuck q g lines text so_far no_end refuses l same begins = go (graph_next q g lines l so_far begins)
  where
    inside : (a : Node) → Contains g.nodes a → IsNodeIn q.names a
    inside a has = All-contains (IsNodeIn q.names) g.nodes a so_far.of_names has

    go : GraphNext q g.nodes g.edges l → ⊥
    go (node_next a at no_edges of_names) = refuses (node a) of_names no_edges (same ∙ ap (line_words q.names) at)
    go (edge_next a b at has_a has_b) = refuses (edge a b) (inside a has_a, inside b has_b) (has_a, has_b) (same ∙ ap (line_words q.names) at)
    go (graph_end at shown) = no_end (same ∙ ap (line_words q.names) at)

pub graph_goes : (q : Question) → AreReadable q.names → (old new : PlainGraph) (lines : List Line) (text : List ℕ) → IsGraphSoFar q old lines
    → Takes q.names text old new
    → All (IsNodeIn q.names) new.nodes → HasEnds new.nodes new.edges → GoesOn q lines text (Graph new)
graph_goes q readable old new lines text so_far takes of_names ends = record {
  line = takes.line;
  text_is = takes.text_is;
  only = λ other same begins. go other same (graph_next q old lines other so_far begins);
  stands = record {
    of_names = of_names;
    ends = ends;
    lines_are =
        ap (λ (ls : List Line). ls ++ takes.line ∷ []) so_far.lines_are ∙ ap (λ (ls : List Line). header q observable ++ ls) (sym takes.put.lines);
  };
}
  where
    inside : (a : Node) → Contains old.nodes a → IsNodeIn q.names a
    inside a has = All-contains (IsNodeIn q.names) old.nodes a so_far.of_names has

    go : (other : Line) → text ≡ line_words q.names other → GraphNext q old.nodes old.edges other → other ≡ takes.line
    go other same (node_next a at no_edges within) =
        at ∙ is_node_line q.names readable takes.line a takes.of_names within (sym takes.text_is ∙ same ∙ ap (line_words q.names) at)
    go other same (edge_next a b at has_a has_b) =
        at ∙ is_edge_line q.names readable takes.line a b takes.of_names (inside a has_a) (inside b has_b)
        (sym takes.text_is ∙ same ∙ ap (line_words q.names) at)
    go other same (graph_end at shown) = absurd (no_end_graph q.names takes.line takes.of_names (sym takes.text_is ∙ same ∙ ap (line_words q.names) at))

-- a line of a refutation
tree_next : (q : Question) (o : OpenTree) (lines : List Line) (l : Line) (so_far : IsTreeSoFar q o lines) → BeginsWell q (lines ++ l ∷ [])
    → TreeNext q so_far.version so_far.steps so_far.opens l
tree_next q o lines l so_far begins =
    let P : List Line → Type 0 = λ ls. BeginsWell q (ls ++ l ∷ []) in
    next_in_tree q so_far.version so_far.steps so_far.opens l so_far.partial (subst P so_far.lines_are begins)

contradiction_nodes : (ls : List (Literal Node)) (l : Leaf Node) → IsContradiction ls l → HasItsNodes l
contradiction_nodes ls l (a_cycle a via leads) = tt
contradiction_nodes ls l (a_path a via b leads has) = two via
  where
    two : (via : List Node) → HasItsNodes (path (a ∷ (via ++ b ∷ [])))
    two [] = tt
    two (c ∷ via) = tt
contradiction_nodes ls l (an_absence a has present) = tt

pub closes_nodes : (t : GroundTree Node) (ls : List (Literal Node)) (l : Leaf Node) → Closes t ls l → HasItsNodes l
closes_nodes t ls l (a_contradiction c) = contradiction_nodes ls l c
closes_nodes t ls l (a_falsity same) = tt

pub run_line : (q : Question) → IsAsked q → (v : Version) (s : Step Node) (opens next : List Branch) → Runs v q.tree (s ∷ []) opens next → IsWithin q.tree s
    → HasLine s
run_line q asked v s [] next r within = absurd r
run_line q asked v (split n p) (ps ∷ opens) next r within = (let small = asked.small in omega arith)
run_line q asked v (close l) (ps ∷ opens) next r within = closes_nodes q.tree (literals_of q.tree ps) l r.0

-- a step that leads on has a line that can be read
pub line_of_run : (q : Question) → IsAsked q → (v : Version) (s : Step Node) (opens next : List Branch) (text : List ℕ) → Runs v q.tree (s ∷ []) opens next
    → text ≡ line_words q.names (step s) → IsLineOf q.names text s
line_of_run q asked v s opens next text run is =
    let has = All-contains (StepHas (IsNodeIn q.names)) (s ∷ []) s
    (runs_have (IsNodeIn q.names) v q.tree (λ a i. asked.named a (contains_from_in a (nodes_of_tree q.tree) i)) (s ∷ []) opens next run)
    (contains_from_in s (s ∷ []) (inl refl)) in
    let within = All-contains (IsWithin q.tree) (s ∷ []) s (runs_within v q.tree (s ∷ []) opens next run) (contains_from_in s (s ∷ []) (inl refl)) in
    record { has_line = run_line q asked v s opens next run within; inside = step_in q.names s has; is = is }

pub tree_end_stuck : (q : Question) (o : OpenTree) (lines : List Line) (text : List ℕ) (so_far : IsTreeSoFar q o lines) → text ≡ codes "end"
    → (so_far.opens ≡ [] → ⊥) → IsStuck q lines text
tree_end_stuck q o lines text so_far is some l same begins = go (tree_next q o lines l so_far begins)
  where
    go : TreeNext q so_far.version so_far.steps so_far.opens l → ⊥
    go (version_next at one none) = no_version_end (sym is ∙ same ∙ ap (line_words q.names) at)
    go (step_next s next at run) = no_end_step q.names s (sym (ap (line_words q.names) at) ∙ sym same ∙ is)
    go (last_next at none) = some none

pub tree_ended : (q : Question) (o : OpenTree) (lines : List Line) (text : List ℕ) (so_far : IsTreeSoFar q o lines) → text ≡ codes "end" → so_far.opens ≡ []
    → GoesOn q lines text (Ended Unobservable)
tree_ended q o lines text so_far is none = record {
  line = end;
  text_is = is;
  only = λ other same begins. go other same (tree_next q o lines other so_far begins);
  stands = (
    so_far.version,
    record {
      steps = so_far.steps;
      lines_are = ap (λ (ls : List Line). ls ++ end ∷ []) so_far.lines_are;
      refutes = (let P : List Branch → Type 0 = λ opens. IsPartial so_far.version q.tree so_far.steps opens in subst P none so_far.partial);
    },
  );
}
  where
    go : (other : Line) → text ≡ line_words q.names other → TreeNext q so_far.version so_far.steps so_far.opens other → other ≡ end
    go other same (version_next at one empty) = absurd (no_version_end (sym is ∙ same ∙ ap (line_words q.names) at))
    go other same (step_next s next at run) = absurd (no_end_step q.names s (sym (ap (line_words q.names) at) ∙ sym same ∙ is))
    go other same (last_next at none) = at

-- the line of version 2, which stands after the header
pub version_goes : (q : Question) (o new : OpenTree) (lines : List Line) (text : List ℕ) (so_far : IsTreeSoFar q o lines) → o.is_new ≡ true → new.is_new ≡ false
    → text ≡ codes "version 2" → ((v : Version) (t : GroundTree Node) (opens : List Branch) → Stands o.branches v t opens → Stands new.branches Two t opens)
    → GoesOn q lines text (Tree new)
version_goes q o new lines text so_far is_new is_old is begin_two = record {
  line = version_two;
  text_is = is;
  only = λ other same begins. go other same (tree_next q o lines other so_far begins);
  stands = record {
    asked = so_far.asked;
    version = Two;
    steps = [];
    opens = so_far.opens;
    partial = (let P : List (Step Node) → Type 0 = λ ss. Runs so_far.version q.tree ss (all_signed false (asserted q.tree 0) ∷ []) so_far.opens in subst P
        fresh.1 so_far.partial);
    stands = begin_two so_far.version q.tree so_far.opens so_far.stands;
    lines_are = ap (λ (ls : List Line). ls ++ version_two ∷ [])
        (so_far.lines_are ∙ ap (λ (v : Version). header q unobservable ++ tree_lines v so_far.steps) fresh.0
        ∙ ap (λ (ss : List (Step Node)). header q unobservable ++ tree_lines One ss) fresh.1);
    fresh = λ yes. absurd (clash yes is_old);
    begun = λ old two none. two_one two;
  };
}
  where
    fresh : (so_far.version ≡ One) × (so_far.steps ≡ [])
    fresh = so_far.fresh is_new

    two_one : Two ≡ One → ⊥
    two_one e = cc

    go : (other : Line) → text ≡ line_words q.names other → TreeNext q so_far.version so_far.steps so_far.opens other → other ≡ version_two
    go other same (version_next at one empty) = at
    go other same (step_next s next at run) = absurd (no_version_step q.names s (sym (ap (line_words q.names) at) ∙ sym same ∙ is))
    go other same (last_next at none) = absurd (no_version_end (sym (ap (line_words q.names) at) ∙ sym same ∙ is))

-- a line that is neither the last one nor the line of version 2, where that may stand
pub record IsOther (q : Question) (o : OpenTree) (lines : List Line) (text : List ℕ) (so_far : IsTreeSoFar q o lines) : Type 0 where
  pub no_end : text ≡ codes "end" → ⊥
  pub no_version : text ≡ codes "version 2" → so_far.version ≡ One → so_far.steps ≡ [] → ⊥

pub not_two : (q : Question) (o : OpenTree) (lines : List Line) (text : List ℕ) (so_far : IsTreeSoFar q o lines) → (text ≡ codes "end" → ⊥)
    → ((o.is_new ≡ true) × (text ≡ codes "version 2") → ⊥) → IsOther q o lines text so_far
not_two q o lines text so_far no_end none = record { no_end = no_end; no_version = λ is. by_flag o.is_new refl is }
  where
    by_flag : (b : Bool) → o.is_new ≡ b → text ≡ codes "version 2" → so_far.version ≡ One → so_far.steps ≡ [] → ⊥
    by_flag true new is = λ one empty. none (new, is)
    by_flag false old is = so_far.begun old

tree_stuck : (q : Question) → IsAsked q → (o : OpenTree) (lines : List Line) (text : List ℕ) (so_far : IsTreeSoFar q o lines) → IsOther q o lines text so_far
    → ((s : Step Node) (next : List Branch) → IsLineOf q.names text s → Runs so_far.version q.tree (s ∷ []) so_far.opens next → ⊥) → IsStuck q lines text
tree_stuck q asked o lines text so_far is_other none l same begins = go (tree_next q o lines l so_far begins)
  where
    go : TreeNext q so_far.version so_far.steps so_far.opens l → ⊥
    go (version_next at one empty) = is_other.no_version (same ∙ ap (line_words q.names) at) one empty
    go (step_next s next at run) = none s next (line_of_run q asked so_far.version s so_far.opens next text run (same ∙ ap (line_words q.names) at)) run
    go (last_next at ended) = is_other.no_end (same ∙ ap (line_words q.names) at)

tree_goes : (q : Question) → IsAsked q → (o new : OpenTree) (lines : List Line) (text : List ℕ) (so_far : IsTreeSoFar q o lines) → IsOther q o lines text so_far
    → new.is_new ≡ false → (s : Step Node) (next : List Branch) → IsLineOf q.names text s → ((r : Step Node) → IsLineOf q.names text r → r ≡ s)
    → Runs so_far.version q.tree (s ∷ []) so_far.opens next → Stands new.branches so_far.version q.tree next → GoesOn q lines text (Tree new)
tree_goes q asked o new lines text so_far is_other is_old s next is only run stands = record {
  line = step s;
  text_is = is.is;
  only = λ other same begins. go other same (tree_next q o lines other so_far begins);
  stands = record {
    asked = asked;
    version = so_far.version;
    steps = so_far.steps ++ s ∷ [];
    opens = next;
    partial = runs_then so_far.version q.tree so_far.steps (s ∷ []) (all_signed false (asserted q.tree 0) ∷ []) so_far.opens next so_far.partial run;
    stands = stands;
    lines_are =
        ap (λ (ls : List Line). ls ++ step s ∷ []) so_far.lines_are
        ∙ ap (λ (ls : List Line). header q unobservable ++ ls) (tree_snoc so_far.version so_far.steps s);
    fresh = λ yes. absurd (clash yes is_old);
    begun = λ old one none. snoc_some so_far.steps s none;
  };
}
  where
    go : (other : Line) → text ≡ line_words q.names other → TreeNext q so_far.version so_far.steps so_far.opens other → other ≡ step s
    go other same (version_next at one empty) = absurd (is_other.no_version (same ∙ ap (line_words q.names) at) one empty)
    go other same (step_next r after at run_r) =
        at ∙ ap step (only r (line_of_run q asked so_far.version r so_far.opens after text run_r (same ∙ ap (line_words q.names) at)))
    go other same (last_next at ended) = absurd (is_other.no_end (same ∙ ap (line_words q.names) at))

-- after the last line
pub ended_stuck : (q : Question) (lines : List Line) (text : List ℕ) (v : Verdict) → IsCertificate q (plain_verdict v) lines → IsStuck q lines text
ended_stuck q lines text v certificate l same begins = no_more q (plain_verdict v) lines l certificate begins

-- a line of a graph, judged where the graph is
pub graph_advanced : (q : Question) → AreReadable q.names → (old new : PlainGraph) (lines : List Line) (text : List ℕ) → IsGraphSoFar q old lines
    → (text ≡ codes "end" → ⊥) → (All (IsNodeIn q.names) old.nodes → All (IsNodeIn q.names) new.nodes) → (taken : Bool)
    → MatchBool taken (Takes q.names text old new) (Refuses q.names text old × (new ≡ old)) → HasAdvanced q lines text (Graph new) taken
graph_advanced q readable old new lines text so_far no_end of_names true takes =
    graph_goes q readable old new lines text so_far takes (of_names so_far.of_names) (keeps_ends old new takes.line takes.put so_far.ends)
graph_advanced q readable old new lines text so_far no_end of_names false refuses = graph_stuck q old lines text so_far no_end refuses.0

-- a step, taken where the branches are
pub tree_advanced : (q : Question) (names : Names) → names ≡ q.names → (old new : OpenTree) (lines : List Line) (text : List ℕ)
    (so_far : IsTreeSoFar q old lines) → IsOther q old lines text so_far → new.is_new ≡ false → (good : Bool)
    → StepsOn names so_far.version q.tree so_far.opens text new.branches good → HasAdvanced q lines text (Tree new) good
tree_advanced q names same old new lines text so_far is_other is_old true steps =
    let P : Names → Type 0 = λ ns. StepsOn ns so_far.version q.tree so_far.opens text new.branches true in
    let some = subst P same steps in
    tree_goes q so_far.asked old new lines text so_far is_other is_old some.0 some.3.0 some.1 some.2 some.3.1 some.3.2
tree_advanced q names same old new lines text so_far is_other is_old false steps =
    let P : Names → Type 0 = λ ns. StepsOn ns so_far.version q.tree so_far.opens text new.branches false in
    tree_stuck q so_far.asked old lines text so_far is_other (subst P same steps)
