-- Which lines have one text: by their first word.
use Rattle.std.{proofs.Common.{◌≡◌, ℕ, List, [], ◌∷◌, ◌++◌, refl, sym, ◌∙◌, ap, Bool, true, false, ◌==◌}, specs.Prelude.{codes}}
use Rattle.pc_common.specs.{World.{Node}, Steps.{Leaf, cycle, path, absent, false_step, Step, split, close}}
use Rattle.pc_common.specs.Lines.{Names, Line, Verdict, observable, unobservable, node, edge, step, end, line_words, verdict_text, verdict, second, version_two}
use Rattle.pc_ground.specs.NodeForm.{IsNodeIn, AreReadable}
use Rattle.refutation.specs.Reading.{leaf_head, leaf_nodes, head_of, nodes_of}
use Rattle.graph_text.specs.GraphTexts.{IsGraphLineIn}
use Rattle.cert_check.proofs.Apart.{one_node_line, one_edge_line}

-- first words that differ
node_end : (xs : List ℕ) → codes "node" ++ xs ≡ codes "end" → ⊥
node_end xs e = cc

edge_end : (xs : List ℕ) → codes "edge" ++ xs ≡ codes "end" → ⊥
edge_end xs e = cc

abbrev is_n : List ℕ → Bool
is_n [] = false
is_n (c ∷ cs) = c == 110

node_edge : (xs ys : List ℕ) → codes "node" ++ xs ≡ codes "edge" ++ ys → ⊥
node_edge xs ys e = clash (ap is_n e)
  where
    clash : true ≡ false → ⊥
    clash f = cc

split_end : (xs : List ℕ) → codes "split " ++ xs ≡ codes "end" → ⊥
split_end xs e = cc

cycle_end : (xs : List ℕ) → codes "cycle" ++ xs ≡ codes "end" → ⊥
cycle_end xs e = cc

path_end : (xs : List ℕ) → codes "path" ++ xs ≡ codes "end" → ⊥
path_end xs e = cc

absent_end : (xs : List ℕ) → codes "absent" ++ xs ≡ codes "end" → ⊥
absent_end xs e = cc

false_end : codes "false" ≡ codes "end" → ⊥
false_end e = cc

observable_unobservable : codes "observable" ≡ codes "unobservable" → ⊥
observable_unobservable e = cc

pub one_verdict : (u v : Verdict) → verdict_text u ≡ verdict_text v → u ≡ v
one_verdict observable observable e = refl
one_verdict observable unobservable e = absurd (observable_unobservable e)
one_verdict unobservable observable e = absurd (observable_unobservable (sym e))
one_verdict unobservable unobservable e = refl

-- no node, edge or step line is the last line
pub no_end_node : (names : Names) (a : Node) → line_words names (node a) ≡ line_words names end → ⊥
no_end_node names a e = node_end _ e

pub no_end_edge : (names : Names) (a b : Node) → line_words names (edge a b) ≡ line_words names end → ⊥
no_end_edge names a b e = edge_end _ e

no_end_leaf : (names : Names) (l : Leaf Node) → line_words names (step (close l)) ≡ line_words names end → ⊥
no_end_leaf names (cycle nodes) e = cycle_end _ e
no_end_leaf names (path nodes) e = path_end _ e
no_end_leaf names (absent a) e = absent_end _ e
no_end_leaf names false_step e = false_end e

pub no_end_step : (names : Names) (s : Step Node) → line_words names (step s) ≡ line_words names end → ⊥
no_end_step names (split n p) e = split_end _ e
no_end_step names (close l) e = no_end_leaf names l e

abbrev is_v : List ℕ → Bool
is_v [] = false
is_v (c ∷ cs) = c == 118

-- no step line and no last line says the version
no_version : (bs : List ℕ) → is_v bs ≡ false → bs ≡ codes "version 2" → ⊥
no_version bs other e = clash (sym (ap is_v e) ∙ other)
  where
    clash : true ≡ false → ⊥
    clash f = cc

no_version_leaf : (names : Names) (l : Leaf Node) → line_words names (step (close l)) ≡ codes "version 2" → ⊥
no_version_leaf names (cycle nodes) e = no_version (line_words names (step (close (cycle nodes)))) refl e
no_version_leaf names (path nodes) e = no_version (line_words names (step (close (path nodes)))) refl e
no_version_leaf names (absent a) e = no_version (line_words names (step (close (absent a)))) refl e
no_version_leaf names false_step e = no_version (codes "false") refl e

pub no_version_step : (names : Names) (s : Step Node) → line_words names (step s) ≡ codes "version 2" → ⊥
no_version_step names (split n p) e = no_version (line_words names (step (split n p))) refl e
no_version_step names (close l) e = no_version_leaf names l e

pub no_version_end : codes "end" ≡ codes "version 2" → ⊥
no_version_end e = no_version (codes "end") refl e

-- a graph's line with the text of a node line, or of an edge line
pub is_node_line : (names : Names) → AreReadable names → (l : Line) (a : Node) → IsGraphLineIn names l → IsNodeIn names a
    → line_words names l ≡ line_words names (node a) → node a ≡ l
is_node_line names readable (verdict v) a h inside e = absurd h
is_node_line names readable (second v x) a h inside e = absurd h
is_node_line names readable (node b) a h inside e = ap node (sym (one_node_line names readable b a h inside e))
is_node_line names readable (edge b c) a h inside e = absurd (node_edge _ _ (sym e))
is_node_line names readable version_two a h inside e = absurd h
is_node_line names readable (step s) a h inside e = absurd h
is_node_line names readable end a h inside e = absurd h

pub is_edge_line : (names : Names) → AreReadable names → (l : Line) (a b : Node) → IsGraphLineIn names l → IsNodeIn names a → IsNodeIn names b
    → line_words names l ≡ line_words names (edge a b) → edge a b ≡ l
is_edge_line names readable (verdict v) a b h ha hb e = absurd h
is_edge_line names readable (second v x) a b h ha hb e = absurd h
is_edge_line names readable (node c) a b h ha hb e = absurd (node_edge _ _ e)
is_edge_line names readable (edge c d) a b h ha hb e = sym (one_edge_line names readable c d a b h.0 h.1 ha hb e)
is_edge_line names readable version_two a b h ha hb e = absurd h
is_edge_line names readable (step s) a b h ha hb e = absurd h
is_edge_line names readable end a b h ha hb e = absurd h

pub no_end_graph : (names : Names) (l : Line) → IsGraphLineIn names l → line_words names l ≡ line_words names end → ⊥
no_end_graph names (verdict v) h e = h
no_end_graph names (second v x) h e = h
no_end_graph names (node b) h e = no_end_node names b e
no_end_graph names (edge b c) h e = no_end_edge names b c e
no_end_graph names version_two h e = h
no_end_graph names (step s) h e = h
no_end_graph names end h e = h

same_leaf : (k l : Leaf Node) → leaf_head k ≡ leaf_head l → leaf_nodes k ≡ leaf_nodes l → k ≡ l
same_leaf (cycle p) (cycle q) e f = ap cycle f
same_leaf (cycle p) (path q) e f = cc
same_leaf (cycle p) (absent q) e f = cc
same_leaf (cycle p) false_step e f = cc
same_leaf (path p) (cycle q) e f = cc
same_leaf (path p) (path q) e f = ap path f
same_leaf (path p) (absent q) e f = cc
same_leaf (path p) false_step e f = cc
same_leaf (absent p) (cycle q) e f = cc
same_leaf (absent p) (path q) e f = cc
same_leaf (absent p) (absent q) e f = (let same : p ≡ q = cc in ap absent same)
same_leaf (absent p) false_step e f = cc
same_leaf false_step (cycle q) e f = cc
same_leaf false_step (path q) e f = cc
same_leaf false_step (absent q) e f = cc
same_leaf false_step false_step e f = refl

split_leaf : (m : Bool) (p : ℕ) (l : Leaf Node) → head_of (split m p) ≡ leaf_head l → ⊥
split_leaf m p (cycle q) e = cc
split_leaf m p (path q) e = cc
split_leaf m p (absent q) e = cc
split_leaf m p false_step e = cc

-- a step is known by its head and its nodes
pub same_step : (r s : Step Node) → head_of r ≡ head_of s → nodes_of r ≡ nodes_of s → r ≡ s
same_step (split m p) (split n q) e f =
    let sign : m ≡ n = cc in
    let place : p ≡ q = cc in
    ap (λ (b : Bool). split b p) sign ∙ ap (split n) place
same_step (split m p) (close l) e f = absurd (split_leaf m p l e)
same_step (close l) (split n q) e f = absurd (split_leaf n q l (sym e))
same_step (close k) (close l) e f = ap close (same_leaf k l e f)
