-- No line of a certificate has an LF in it, and no node's text a space.
use Rattle.std.proofs.{Common.{inl, inr, ℕ, Bool, true, false, List, [], ◌∷◌, ◌++◌, refl, subst}, lemmas.List.Elements.{All-contains}}
use Rattle.std.specs.{Prelude.{All, codes}, Fmt.{decimal}}
use Rattle.pc_common.specs.{Case.{Expectation, permitted, forbidden, unstated}, World.{Node}, Steps.{Leaf, cycle, path, absent, false_step, split, close}}
use Rattle.pc_common.specs.Lines.{Names, Line, Verdict, observable, unobservable, verdict, second, version_two, node, edge, step, end, node_text, nodes_text, sign_text, line_words}
use Rattle.pc_common.proofs.Elements.{In, contains_from_in}
use Rattle.refutation.specs.Steps.{IsLeafIn}
use Rattle.pc_ground.{specs.{NodeForm.{IsNodeIn, AreReadable}, NodeWords.{Lacks}}, proofs.Cuts.{decimal_lacks}}
use Rattle.pc_ground.proofs.Outside.{IsOutside, lacks_append, line_feed, form_lacks}
use Rattle.cert_check.proofs.Propers.{IsProper}

pub node_lacks : (m : ℕ) → IsOutside m → (names : Names) → AreReadable names → (a : Node) → IsNodeIn names a → Lacks m (node_text names a)
node_lacks m out names readable a inside = form_lacks m out (node_text names a) (readable.form a inside)

nodes_lack : (names : Names) → AreReadable names → (nodes : List Node) → ((a : Node) → In a nodes → IsNodeIn names a) → Lacks 10 (nodes_text names nodes)
nodes_lack names readable [] each = refl
nodes_lack names readable (a ∷ nodes) each =
    lacks_append 10 (codes " " ++ node_text names a) (nodes_text names nodes)
    (lacks_append 10 (codes " ") (node_text names a) refl (node_lacks 10 line_feed names readable a (each a (inl refl))))
    (nodes_lack names readable nodes (λ b i. each b (inr i)))

each_in : (names : Names) (nodes : List Node) → All (IsNodeIn names) nodes → (a : Node) → In a nodes → IsNodeIn names a
each_in names nodes all a i = All-contains (IsNodeIn names) nodes a all (contains_from_in a nodes i)

one_in : (names : Names) (a : Node) → IsNodeIn names a → (b : Node) → In b (a ∷ []) → IsNodeIn names b
one_in names a h b (inl e) = subst (IsNodeIn names) e h
one_in names a h b (inr i) = absurd i

two_in : (names : Names) (a b : Node) → IsNodeIn names a → IsNodeIn names b → (c : Node) → In c (a ∷ b ∷ []) → IsNodeIn names c
two_in names a b h k c (inl e) = subst (IsNodeIn names) e h
two_in names a b h k c (inr (inl e)) = subst (IsNodeIn names) e k
two_in names a b h k c (inr (inr i)) = absurd i

second_lacks : (names : Names) (v : Verdict) (e : Expectation) → Lacks 10 (line_words names (second v e))
second_lacks names observable permitted = refl
second_lacks names observable forbidden = refl
second_lacks names observable unstated = refl
second_lacks names unobservable permitted = refl
second_lacks names unobservable forbidden = refl
second_lacks names unobservable unstated = refl

verdict_lacks : (names : Names) (v : Verdict) → Lacks 10 (line_words names (verdict v))
verdict_lacks names observable = refl
verdict_lacks names unobservable = refl

leaf_lacks : (names : Names) → AreReadable names → (l : Leaf Node) → IsLeafIn names l → Lacks 10 (line_words names (step (close l)))
leaf_lacks names readable (cycle nodes) h =
    lacks_append 10 (codes "cycle") (nodes_text names nodes) refl (nodes_lack names readable nodes (each_in names nodes h))
leaf_lacks names readable (path nodes) h =
    lacks_append 10 (codes "path") (nodes_text names nodes) refl (nodes_lack names readable nodes (each_in names nodes h))
leaf_lacks names readable (absent a) h =
    lacks_append 10 (codes "absent") (nodes_text names (a ∷ [])) refl (nodes_lack names readable (a ∷ []) (one_in names a h))
leaf_lacks names readable false_step h = refl

sign_lacks : (negated : Bool) → Lacks 10 (sign_text negated)
sign_lacks true = refl
sign_lacks false = refl

pub words_lack : (names : Names) → AreReadable names → (l : Line) → IsProper names l → Lacks 10 (line_words names l)
words_lack names readable (verdict v) h = verdict_lacks names v
words_lack names readable (second v e) h = second_lacks names v e
words_lack names readable version_two h = refl
words_lack names readable (node a) h = lacks_append 10 (codes "node") (nodes_text names (a ∷ [])) refl (nodes_lack names readable (a ∷ []) (one_in names a h))
words_lack names readable (edge a b) h =
    lacks_append 10 (codes "edge") (nodes_text names (a ∷ b ∷ [])) refl (nodes_lack names readable (a ∷ b ∷ []) (two_in names a b h.0 h.1))
words_lack names readable (step (split n p)) h =
    lacks_append 10 (codes "split ") (sign_text n ++ decimal p) refl
    (lacks_append 10 (sign_text n) (decimal p) (sign_lacks n) (decimal_lacks 10 (decimal p) refl (p, (h, refl))))
words_lack names readable (step (close l)) h = leaf_lacks names readable l h
words_lack names readable end h = refl
