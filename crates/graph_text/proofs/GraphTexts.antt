-- What the words of a line are read as.
use Rattle.std.{proofs.Common.{◌≡◌, ℕ, List, ◌∷◌, ◌++◌, Result, Ok, Err, refl, sym, ◌∙◌, ap, subst}, specs.Prelude.{codes}}
use Rattle.pc_common.specs.{World.{Node}, Lines.{Names, Line, node as node_line, edge as edge_line, node_text, line_words}}
use Rattle.pc_ground.specs.{declared.{node_key.NodeKey.{NodeKey}, line_fault.LineFault.{LineFault, TheVariants.{Malformed, Foreign}}}, Keys.{key_node}}
use Rattle.pc_ground.{specs.{NodeForm.{IsNodeForm, IsNodeIn, ReadsNode, Answers, AreReadable}, NodeWords.{Lacks, IsCut}}, proofs.Cuts.{cut_is}}
use Rattle.graph_text.specs.GraphTexts.{space, as_node, as_edge, both_ends, IsGraphLineIn, AreEndsForm, AreEndsIn, ends_words, IsGraphForm, of_node, of_edge, ReadsLine, AnswersLine, ReadsEnds, AnswersEnds}
use Rattle.graph_text.proofs.{LinesOf.{graph_line_cases}, Spaces.{form_spaceless, words_apart, node_words_are, edge_words_are}}

-- each node of these names whose text the word is, is the one that was read
abbrev pub IsAgain : Names → List ℕ → Result NodeKey LineFault → Type 0
IsAgain names word r = (a : Node) → IsNodeIn names a → word ≡ node_text names a → Answers r a

-- two words, a space between
module _ (names : Names) (words from to : List ℕ) (cut : IsCut space words from to) where
  ends_form : (f : AreEndsForm words) → (f.from ≡ from) × (f.to ≡ to)
  ends_form f = cut_is space words f.from f.to from to (form_spaceless f.from f.from_form, f.is) cut

  from_ends_form : AreEndsForm words → IsNodeForm from
  from_ends_form f = (let P : List ℕ → Type 0 = λ w. IsNodeForm w in subst P (ends_form f).0 f.from_form)

  to_ends_form : AreEndsForm words → IsNodeForm to
  to_ends_form f = (let P : List ℕ → Type 0 = λ w. IsNodeForm w in subst P (ends_form f).1 f.to_form)

  module _ (readable : AreReadable names) where
    ends_texts : (a b : Node) → AreEndsIn names a b → words ≡ ends_words names a b → (from ≡ node_text names a) × (to ≡ node_text names b)
    ends_texts a b inside is =
        cut_is space words from to (node_text names a) (node_text names b) cut (form_spaceless (node_text names a) (readable.form a inside.0), is)

    -- a word that was read, or names nothing, has the form of a node's text
    read_form : (word : List ℕ) (k : NodeKey) → ReadsNode names word (Ok k) → IsNodeForm word
    read_form word k h = (let P : List ℕ → Type 0 = λ w. IsNodeForm w in subst P (sym h.1) (readable.form (key_node k) h.0))

    formed : IsNodeForm from → IsNodeForm to → AreEndsForm words
    formed f g = record { from = from; to = to; from_form = f; to_form = g; is = cut.1 }

    pub ends_again : (r s : Result NodeKey LineFault) → IsAgain names from r → IsAgain names to s → AnswersEnds names words (both_ends r s)
    ends_again (Ok k) (Ok l) f g = λ a b inside is. (let texts = ends_texts a b inside is in (f a inside.0 texts.0, g b inside.1 texts.1))
    ends_again (Ok k) (Err Malformed) f g = λ a b inside is. g b inside.1 (ends_texts a b inside is).1
    ends_again (Ok k) (Err Foreign) f g = λ a b inside is. g b inside.1 (ends_texts a b inside is).1
    ends_again (Err Malformed) s f g = λ a b inside is. f a inside.0 (ends_texts a b inside is).0
    ends_again (Err Foreign) (Ok l) f g = λ a b inside is. f a inside.0 (ends_texts a b inside is).0
    ends_again (Err Foreign) (Err Malformed) f g = λ a b inside is. f a inside.0 (ends_texts a b inside is).0
    ends_again (Err Foreign) (Err Foreign) f g = λ a b inside is. f a inside.0 (ends_texts a b inside is).0

    pub ends_read : (r s : Result NodeKey LineFault) → ReadsNode names from r → ReadsNode names to s → ReadsEnds names words (both_ends r s)
    ends_read (Ok k) (Ok l) f g =
        ((f.0, g.0), cut.1 ∙ ap (λ w. w ++ space ∷ to) f.1 ∙ ap (λ w. node_text names (key_node k) ++ space ∷ w) g.1)
    ends_read (Ok k) (Err Malformed) f g = λ form. g (to_ends_form form)
    ends_read (Ok k) (Err Foreign) f g = (formed (read_form from k f) g.0, λ a b inside is. g.1 b inside.1 (ends_texts a b inside is).1)
    ends_read (Err Malformed) s f g = λ form. f (from_ends_form form)
    ends_read (Err Foreign) (Ok l) f g = (formed f.0 (read_form to l g), λ a b inside is. f.1 a inside.0 (ends_texts a b inside is).0)
    ends_read (Err Foreign) (Err Malformed) f g = λ form. g (to_ends_form form)
    ends_read (Err Foreign) (Err Foreign) f g = (formed f.0 g.0, λ a b inside is. f.1 a inside.0 (ends_texts a b inside is).0)

-- a line of a word before the first space, and what is after it
module _ (names : Names) (line kind words : List ℕ) (cut : IsCut space line kind words) where
  kind_of : (word rest : List ℕ) → Lacks space word → line ≡ word ++ space ∷ rest → (kind ≡ word) × (words ≡ rest)
  kind_of word rest lacks is = cut_is space line kind words word rest cut (lacks, is)

  line_is : (word : List ℕ) → kind ≡ word → line ≡ word ++ space ∷ words
  line_is word e = cut.1 ∙ ap (λ w. w ++ space ∷ words) e

  node_text_is : (a : Node) → line ≡ line_words names (node_line a) → (kind ≡ codes "node") × (words ≡ node_text names a)
  node_text_is a is = kind_of (codes "node") (node_text names a) refl (is ∙ node_words_are names a)

  edge_text_is : (a b : Node) → line ≡ line_words names (edge_line a b) → (kind ≡ codes "edge") × (words ≡ ends_words names a b)
  edge_text_is a b is = kind_of (codes "edge") (ends_words names a b) refl (is ∙ edge_words_are names a b)

  answers_node : (r : Result NodeKey LineFault) (a : Node) → Answers r a → AnswersLine (as_node r) (node_line a)
  answers_node (Ok k) a same = ap node_line same
  answers_node (Err fault) a none = none

  pub node_again : (r : Result NodeKey LineFault) → kind ≡ codes "node" → IsAgain names words r
      → (l : Line) → IsGraphLineIn names l → line ≡ line_words names l → AnswersLine (as_node r) l
  node_again r e h =
      graph_line_cases names (λ l. line ≡ line_words names l → AnswersLine (as_node r) l)
      (λ a inside is. answers_node r a (h a inside (node_text_is a is).1))
      (λ a b inside is. absurd (words_apart (sym e ∙ (edge_text_is a b is).0)))

  pub node_read : (r : Result NodeKey LineFault) → kind ≡ codes "node" → ReadsNode names words r → ReadsLine names line (as_node r)
  node_read (Ok k) e h = (h.0, line_is (codes "node") e ∙ ap (λ w. codes "node" ++ space ∷ w) h.1 ∙ sym (node_words_are names (key_node k)))
  node_read (Err Malformed) e h = λ form. no form
    where
      no : IsGraphForm line → ⊥
      no (of_node word f is) = (let P : List ℕ → Type 0 = λ w. IsNodeForm w in h (subst P (sym (kind_of (codes "node") word refl is).1) f))
      no (of_edge rest f is) = words_apart (sym e ∙ (kind_of (codes "edge") rest refl is).0)
  node_read (Err Foreign) e h = (of_node words h.0 (line_is (codes "node") e), λ l inside is. no l inside is)
    where
      no : (l : Line) → IsGraphLineIn names l → line ≡ line_words names l → ⊥
      no = graph_line_cases names (λ l. line ≡ line_words names l → ⊥)
          (λ a inside is. h.1 a inside (node_text_is a is).1)
          (λ a b inside is. words_apart (sym e ∙ (edge_text_is a b is).0))

  answers_edge : (r : Result (NodeKey × NodeKey) LineFault) (a b : Node) → AnswersEnds names words r → AreEndsIn names a b → words ≡ ends_words names a b
      → AnswersLine (as_edge r) (edge_line a b)
  answers_edge (Ok (k, l)) a b h inside is =
      let same = h a b inside is in
      ap (λ x. edge_line x (key_node l)) same.0 ∙ ap (λ x. edge_line a x) same.1
  answers_edge (Err fault) a b h inside is = h a b inside is

  pub edge_again : (r : Result (NodeKey × NodeKey) LineFault) → kind ≡ codes "edge" → AnswersEnds names words r
      → (l : Line) → IsGraphLineIn names l → line ≡ line_words names l → AnswersLine (as_edge r) l
  edge_again r e h =
      graph_line_cases names (λ l. line ≡ line_words names l → AnswersLine (as_edge r) l)
      (λ a inside is. absurd (words_apart (sym (node_text_is a is).0 ∙ e)))
      (λ a b inside is. answers_edge r a b h inside (edge_text_is a b is).1)

  pub edge_read : (r : Result (NodeKey × NodeKey) LineFault) → kind ≡ codes "edge" → ReadsEnds names words r → ReadsLine names line (as_edge r)
  edge_read (Ok (k, l)) e h =
      (h.0, line_is (codes "edge") e ∙ ap (λ w. codes "edge" ++ space ∷ w) h.1 ∙ sym (edge_words_are names (key_node k) (key_node l)))
  edge_read (Err Malformed) e h = λ form. no form
    where
      no : IsGraphForm line → ⊥
      no (of_node word f is) = words_apart (sym (kind_of (codes "node") word refl is).0 ∙ e)
      no (of_edge rest f is) = (let P : List ℕ → Type 0 = λ w. AreEndsForm w in h (subst P (sym (kind_of (codes "edge") rest refl is).1) f))
  edge_read (Err Foreign) e h = (of_edge words h.0 (line_is (codes "edge") e), λ l inside is. no l inside is)
    where
      no : (l : Line) → IsGraphLineIn names l → line ≡ line_words names l → ⊥
      no = graph_line_cases names (λ l. line ≡ line_words names l → ⊥)
          (λ a inside is. words_apart (sym (node_text_is a is).0 ∙ e))
          (λ a b inside is. h.1 a b inside (edge_text_is a b is).1)

-- a line that is none
module _ (line : List ℕ) (no_node : (rest : List ℕ) → line ≡ codes "node" ++ space ∷ rest → ⊥)
    (no_edge : (rest : List ℕ) → line ≡ codes "edge" ++ space ∷ rest → ⊥) where
  no_form : IsGraphForm line → ⊥
  no_form (of_node word f is) = no_node word is
  no_form (of_edge words f is) = no_edge words is

  no_again : (names : Names) (l : Line) → IsGraphLineIn names l → line ≡ line_words names l → ⊥
  no_again names =
      graph_line_cases names (λ l. line ≡ line_words names l → ⊥)
      (λ a inside is. no_node (node_text names a) (is ∙ node_words_are names a))
      (λ a b inside is. no_edge (ends_words names a b) (is ∙ edge_words_are names a b))

-- another word first
pub no_form-other : (line kind words : List ℕ) → IsCut space line kind words → (kind ≡ codes "node" → ⊥) → (kind ≡ codes "edge" → ⊥) → IsGraphForm line → ⊥
no_form-other line kind words cut other another =
    no_form line (λ rest is. other (cut_is space line kind words (codes "node") rest cut (refl, is)).0)
    (λ rest is. another (cut_is space line kind words (codes "edge") rest cut (refl, is)).0)

pub no_again-other : (line kind words : List ℕ) → IsCut space line kind words → (kind ≡ codes "node" → ⊥) → (kind ≡ codes "edge" → ⊥)
    → (names : Names) (l : Line) → IsGraphLineIn names l → line ≡ line_words names l → ⊥
no_again-other line kind words cut other another =
    no_again line (λ rest is. other (cut_is space line kind words (codes "node") rest cut (refl, is)).0)
    (λ rest is. another (cut_is space line kind words (codes "edge") rest cut (refl, is)).0)
