-- Words with a space between.
use Rattle.std.proofs.{Common.{◌≡◌, ℕ, ◌==◌, List, [], ◌∷◌, ◌++◌, refl, ap, subst, get_or, arith, eq-eqb}, lemmas.List.{Elements.{All-cons}, append-nil}}
use Rattle.std.{proofs.lemmas.Bool.{or_left}, specs.{Prelude.{codes, ◌≢◌}, List.{list_any}}}
use Rattle.line_judge.specs.Texts.{IsLine}
use Rattle.pc_common.{specs.{World.{Node}, Lines.{Names, node as node_line, edge as edge_line, node_text, line_words}}, proofs.Bools.{or_none, not_both}}
use Rattle.pc_ground.{specs.{NodeForm.{IsNodeForm}, NodeWords.{Lacks}}, proofs.Outside.{line_feed, a_space, form_lacks}}
use Rattle.graph_text.specs.GraphTexts.{space, ends_words}

pub has_mark : (m : ℕ) (a b : List ℕ) → Lacks m (a ++ m ∷ b) → ⊥
has_mark m [] b h = not_both (list_any (λ d. d == m) (m ∷ b)) (or_left (m == m) (list_any (λ d. d == m) b) (eq-eqb m m refl)) h
has_mark m (c ∷ cs) b h = has_mark m cs b (or_none (c == m) (list_any (λ d. d == m) (cs ++ m ∷ b)) h)

-- no space stands in a node's text
pub form_spaceless : (word : List ℕ) → IsNodeForm word → Lacks space word
form_spaceless = form_lacks space a_space

-- bytes without LF are a line's
pub lacking_on_line : (cs : List ℕ) → Lacks 10 cs → IsLine cs
lacking_on_line [] h = λ k d inside. absurd (omega (arith, inside))
lacking_on_line (c ∷ cs) h =
    All-cons (λ byte. byte ≢ 10) c cs (λ e. has_mark 10 [] cs (let P : ℕ → Type 0 = λ x. Lacks 10 (x ∷ cs) in subst P e h))
    (lacking_on_line cs (or_none (c == 10) (list_any (λ d. d == 10) cs) h))

-- no LF stands in a node's text
pub form_on_one_line : (word : List ℕ) → IsNodeForm word → IsLine word
form_on_one_line word f = lacking_on_line word (form_lacks 10 line_feed word f)

-- a node's word is no edge's
pub words_apart : codes "node" ≡ codes "edge" → ⊥
words_apart e = (let heads : 110 ≡ 101 = ap (λ cs. get_or cs 0 0) e in absurd (omega (arith, heads)))

pub node_words_are : (names : Names) (a : Node) → line_words names (node_line a) ≡ codes "node" ++ space ∷ node_text names a
node_words_are names a = ap (λ t. codes "node" ++ space ∷ t) (append-nil (node_text names a))

pub edge_words_are : (names : Names) (a b : Node) → line_words names (edge_line a b) ≡ codes "edge" ++ space ∷ ends_words names a b
edge_words_are names a b = ap (λ t. codes "edge" ++ space ∷ (node_text names a ++ space ∷ t)) (append-nil (node_text names b))
