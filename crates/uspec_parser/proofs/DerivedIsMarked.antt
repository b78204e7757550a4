-- What the table reads are texts of the grammar, with the marks of these: each rule spells a production.
use Rattle.std.proofs.Common.{◌≡◌, ℕ, ◌+◌, Bool, true, false, List, [], ◌∷◌, ◌++◌, Option, Some, None, IsTrue, MatchOption, map, refl, sym, ap, subst, ◌∙◌, append_assoc}
use Rattle.std.proofs.lemmas.List.{append-nil, map-append}
use Rattle.pc_syntax.specs.declared.term.{Sort.TheVariants.{Microop as microop, Core as core}, Word.{Word}, Arg.{Arg}}
use Rattle.pc_syntax.specs.declared.term.{Arg.TheVariants.{Word as word_arg, Number as number_arg}, NodeTerm.{NodeTerm}}
use Rattle.ll_grammar.specs.{Rules.{Derives}, declared.grammar.Symbol.{Symbol, TheVariants.{Terminal as a_terminal, Nonterminal as a_nonterminal}}}
use Rattle.ll_grammar.proofs.DerivesLaws.{IsClosedUnder, meaning}
use Rattle.uspec_parser.proofs.Payloads.{Payload, with_payload, HavePayloads, some_lexeme, payloads-somes, terminals-somes, EachWithPayload, Means, rule_of}
use Rattle.uspec_parser.{proofs.Payloads.EachWithPayload.{none, class, part}, specs.Terminals.{Lexeme, plain, name_, quoted, terminal}}
use Rattle.uspec_parser.specs.declared.operands.Connective.{Connective, TheVariants.{And as conjoins, Or as disjoins, Implies as implies}}
use Rattle.uspec_parser.specs.declared.{level.Level.{Level}, terminal.Terminal.{Terminal}}
use Rattle.uspec_parser.specs.declared.terminal.Terminal.TheVariants.{StageName, Axiom, DefineMacro, ExpandMacro, Forall, Exists, Microop, Core, OneEdge, EdgeList, OneNode, NodeList, Name, Number, Quoted, Text, Open, Close, OpenBracket, CloseBracket, Comma, Semicolon, Colon, Dot, Not, And, Or, Implies}
use Rattle.uspec_parser.specs.declared.phrase.Phrase.{Phrase}
use Rattle.uspec_parser.specs.declared.phrase.Phrase.TheVariants.{Items, Parameters, Label as LabelPhrase, Operand, More, Arguments, Argument, Node, Location, Edge, Labels as LabelsPhrase, SecondLabel, SortWord, Nodes, MoreNodes, Edges, MoreEdges}
use Rattle.uspec_parser.specs.Syntax.{spelled_arg, spelled_location, spelled_node, Label, named, other, spelled_label, Labels, unlabelled, labelled, coloured, spelled_labels, Edge as EdgeText, spelled_edge, empty, some, spelled_others, spelled_elements, Atom, one_edge, one_node, edge_list, node_list, expand, predicate, spelled_atom, spelled_sort, spelled_connective, Formula, last, last_wide, more, atom, bracketed, negated, binding, negated_wide, spelled_formula, Item, stage, axiom_item, macro, spelled_model}
use Rattle.uspec_parser.specs.Levels.{is_deep, level_of, level_after_and, level_after_or, level_after_implies}
use Rattle.uspec_parser.specs.Marks.{shallow, open_at, level_behind, marks_formula, marks_outer, marks_model, IsMarkedFormula, IsMarkedModel}
use Rattle.uspec_parser.specs.Phrases.{production, is_nullable, deep, rules}

-- a text without openers
abbrev Flat : {X : Type 0} → (X → List Lexeme) → List Lexeme → List Bool → Type 0
Flat {X} spelled xs marks = (x : X) × (xs ≡ spelled x) × (marks ≡ shallow (spelled x))

-- what may follow an operand: a connective and the rest of the list
abbrev spelled_tail : Option (Connective × Formula) → List Lexeme
spelled_tail None = []
spelled_tail (Some t) = plain (spelled_connective t.0) ∷ spelled_formula t.1

abbrev marks_tail : Level → Option (Connective × Formula) → List Bool
marks_tail l None = []
marks_tail l (Some t) = is_deep (open_at t.0 l) ∷ marks_formula (level_behind t.0 l) (open_at t.0 l + 1) t.1

abbrev spelled_second : Option Label → List Lexeme
spelled_second None = []
spelled_second (Some l) = plain Comma ∷ spelled_label l ∷ []

-- the texts of a phrase
abbrev Texts : Phrase → List Lexeme → List Bool → Type 0
Texts Items xs marks = (is : List Item) × (xs ≡ spelled_model is) × (marks ≡ marks_model is)
Texts Parameters xs marks = Flat (λ (ws : List Word). map quoted ws) xs marks
Texts LabelPhrase xs marks = Flat (λ l. spelled_label l ∷ []) xs marks
Texts (Operand l n) xs marks = (f : Formula) × (xs ≡ spelled_formula f) × (marks ≡ marks_formula l n f)
Texts (More l) xs marks = (t : Option (Connective × Formula)) × (xs ≡ spelled_tail t) × (marks ≡ marks_tail l t)
Texts Arguments xs marks = Flat (λ (args : List Arg). map spelled_arg args) xs marks
Texts Argument xs marks = Flat (λ a. spelled_arg a ∷ []) xs marks
Texts Node xs marks = Flat spelled_node xs marks
Texts Location xs marks = Flat (λ (l : Option Arg × Word). spelled_location l.0 l.1) xs marks
Texts Edge xs marks = Flat spelled_edge xs marks
Texts LabelsPhrase xs marks = Flat spelled_labels xs marks
Texts SecondLabel xs marks = Flat spelled_second xs marks
Texts SortWord xs marks = Flat (λ s. plain (spelled_sort s) ∷ []) xs marks
Texts Nodes xs marks = Flat (spelled_elements spelled_node) xs marks
Texts MoreNodes xs marks = Flat (λ (o : List NodeTerm × Bool). spelled_others spelled_node o.0 o.1) xs marks
Texts Edges xs marks = Flat (spelled_elements spelled_edge) xs marks
Texts MoreEdges xs marks = Flat (λ (o : List EdgeText × Bool). spelled_others spelled_edge o.0 o.1) xs marks

texts-end : (n : Phrase) → IsTrue (is_nullable n) → Texts n [] []
texts-end Items h = ([], refl, refl)
texts-end Parameters h = ([], refl, refl)
texts-end (More l) h = (None, refl, refl)
texts-end Arguments h = ([], refl, refl)
texts-end LabelsPhrase h = (unlabelled, refl, refl)
texts-end SecondLabel h = (None, refl, refl)
texts-end LabelPhrase h = absurd (cc)
texts-end (Operand l n) h = absurd (cc)
texts-end Argument h = absurd (cc)
texts-end Node h = absurd (cc)
texts-end Location h = absurd (cc)
texts-end Edge h = absurd (cc)
texts-end SortWord h = absurd (cc)
texts-end Nodes h = absurd (cc)
texts-end MoreNodes h = absurd (cc)
texts-end Edges h = absurd (cc)
texts-end MoreEdges h = absurd (cc)

-- that a rule spells a text
abbrev Keeps : Phrase → Terminal → List (Symbol Terminal Phrase) → Type 0
Keeps n c body =
    (p : Payload c) (xs : List Lexeme) (marks : List Bool) → EachWithPayload Texts body xs marks → Texts n (with_payload c p ∷ xs) (deep n c ∷ marks)

items_stage : Keeps Items StageName (a_terminal Number ∷ a_terminal Quoted ∷ a_terminal Dot ∷ a_nonterminal Items ∷ [])
items_stage _ _ _ (class n (class w (class _ (part (is, e, f) none)))) =
    (stage (record { number = n.0; number_at = n.1; name = w }) ∷ is, simp (e, append-nil), simp (f, append-nil))

items_axiom : Keeps Items Axiom
    (a_nonterminal LabelPhrase ∷ a_terminal Colon ∷ a_nonterminal (Operand (level_of 0) 0) ∷ a_terminal Dot ∷ a_nonterminal Items ∷ [])
items_axiom at _ _ (part (l, e, f) (class _ (part (b, g, h) (class _ (part (is, i, j) none))))) =
    (axiom_item at l b ∷ is, simp (e, g, i, append-nil, append_assoc), simp (f, h, j, append-nil, append_assoc))

items_macro : Keeps Items DefineMacro
    (a_terminal Quoted ∷ a_nonterminal Parameters ∷ a_terminal Colon ∷ a_nonterminal (Operand (level_of 0) 0) ∷ a_terminal Dot ∷ a_nonterminal Items ∷ [])
items_macro _ _ _ (class w (part (ws, e, f) (class _ (part (b, g, h) (class _ (part (is, i, j) none)))))) =
    (macro w ws b ∷ is, simp (e, g, i, append-nil, append_assoc), simp (f, h, j, append-nil, append_assoc))

parameters_more : Keeps Parameters Quoted (a_nonterminal Parameters ∷ [])
parameters_more w _ _ (part (ws, e, f) none) = (w ∷ ws, simp (e, append-nil), simp (f, append-nil))

label_quoted : Keeps LabelPhrase Quoted []
label_quoted w _ _ none = (named w, refl, refl)

label_text : Keeps LabelPhrase Text []
label_text _ _ _ none = (other, refl, refl)

-- an operand without openers, and what follows it
with_tail : (a : Atom) (t : Option (Connective × Formula)) → Formula
with_tail a None = last (atom a)
with_tail a (Some t) = more (atom a) t.0 t.1

tail_lexemes : (a : Atom) (t : Option (Connective × Formula)) → spelled_formula (with_tail a t) ≡ spelled_atom a ++ spelled_tail t
unfolding with_tail
tail_lexemes a None = sym (append-nil (spelled_atom a))
tail_lexemes a (Some t) = refl

tail_marks : (l : Level) (n : ℕ) (a : Atom) (t : Option (Connective × Formula))
    → marks_formula l n (with_tail a t) ≡ shallow (spelled_atom a) ++ marks_tail l t
unfolding with_tail
tail_marks l n a None = sym (append-nil (shallow (spelled_atom a)))
tail_marks l n a (Some t) = refl

operand_one_edge : (l : Level) (n : ℕ) → Keeps (Operand l n) OneEdge (a_nonterminal Edge ∷ a_nonterminal (More l) ∷ [])
operand_one_edge l n _ _ _ (part (x, e, f) (part (t, g, h) none)) = (
  with_tail (one_edge x) t,
  simp (e, g, append-nil, tail_lexemes (one_edge x) t),
  simp (f, h, append-nil, tail_marks l n (one_edge x) t),
)

operand_edges : (l : Level) (n : ℕ) → Keeps (Operand l n) EdgeList (a_terminal OpenBracket ∷ a_nonterminal Edges ∷ a_nonterminal (More l) ∷ [])
operand_edges l n _ _ _ (class _ (part (x, e, f) (part (t, g, h) none))) = (
  with_tail (edge_list x) t,
  simp (e, g, append-nil, tail_lexemes (edge_list x) t),
  simp (f, h, append-nil, tail_marks l n (edge_list x) t),
)

operand_one_node : (l : Level) (n : ℕ) → Keeps (Operand l n) OneNode (a_nonterminal Node ∷ a_nonterminal (More l) ∷ [])
operand_one_node l n _ _ _ (part (x, e, f) (part (t, g, h) none)) = (
  with_tail (one_node x) t,
  simp (e, g, append-nil, tail_lexemes (one_node x) t),
  simp (f, h, append-nil, tail_marks l n (one_node x) t),
)

operand_nodes : (l : Level) (n : ℕ) → Keeps (Operand l n) NodeList (a_terminal OpenBracket ∷ a_nonterminal Nodes ∷ a_nonterminal (More l) ∷ [])
operand_nodes l n _ _ _ (class _ (part (x, e, f) (part (t, g, h) none))) = (
  with_tail (node_list x) t,
  simp (e, g, append-nil, tail_lexemes (node_list x) t),
  simp (f, h, append-nil, tail_marks l n (node_list x) t),
)

operand_expand : (l : Level) (n : ℕ) → Keeps (Operand l n) ExpandMacro (a_terminal Name ∷ a_nonterminal Arguments ∷ a_nonterminal (More l) ∷ [])
operand_expand l n at _ _ (class w (part (x, e, f) (part (t, g, h) none))) = (
  with_tail (expand at w x) t,
  simp (e, g, append-nil, tail_lexemes (expand at w x) t),
  simp (f, h, append-nil, tail_marks l n (expand at w x) t),
)

operand_name : (l : Level) (n : ℕ) → Keeps (Operand l n) Name (a_nonterminal Arguments ∷ a_nonterminal (More l) ∷ [])
operand_name l n w _ _ (part (x, e, f) (part (t, g, h) none)) = (
  with_tail (predicate w x) t,
  simp (e, g, append-nil, tail_lexemes (predicate w x) t),
  simp (f, h, append-nil, tail_marks l n (predicate w x) t),
)

operand_open : (l : Level) (n : ℕ)
    → Keeps (Operand l n) Open (a_nonterminal (Operand (level_of (n + 1)) (n + 1)) ∷ a_terminal Close ∷ a_nonterminal (More l) ∷ [])
operand_open l n _ _ _ (part (b, e, f) (class _ (part (None, g, h) none))) =
    (last (bracketed b), simp (e, g, append-nil), simp (f, h, append-nil))
operand_open l n _ _ _ (part (b, e, f) (class _ (part (Some t, g, h) none))) =
    (more (bracketed b) t.0 t.1, simp (e, g, append-nil, append_assoc), simp (f, h, append-nil, append_assoc))

operand_not : (l : Level) (n : ℕ) → Keeps (Operand l n) Not (a_nonterminal (Operand l (n + 1)) ∷ [])
operand_not l n _ _ _ (part (last u, e, f) none) = (last (negated u), simp (e, append-nil), simp (f, append-nil))
operand_not l n _ _ _ (part (last_wide w, e, f) none) = (last_wide (negated_wide w), simp (e, append-nil), simp (f, append-nil))
operand_not l n _ _ _ (part (more u op b, e, f) none) = (more (negated u) op b, simp (e, append-nil), simp (f, append-nil))

operand_forall : (l : Level) (n : ℕ)
    → Keeps (Operand l n) Forall (a_nonterminal SortWord ∷ a_terminal Quoted ∷ a_terminal Comma ∷ a_nonterminal (Operand (level_of (n + 1)) (n + 1)) ∷ [])
operand_forall l n at _ _ (part (s, e, f) (class w (class _ (part (b, g, h) none)))) = (
  last_wide (binding (record { universal = true; at = at; sort = s; bound = w }) b),
  simp (e, g, append-nil),
  simp (f, h, append-nil),
)

operand_exists : (l : Level) (n : ℕ)
    → Keeps (Operand l n) Exists (a_nonterminal SortWord ∷ a_terminal Quoted ∷ a_terminal Comma ∷ a_nonterminal (Operand (level_of (n + 1)) (n + 1)) ∷ [])
operand_exists l n at _ _ (part (s, e, f) (class w (class _ (part (b, g, h) none)))) = (
  last_wide (binding (record { universal = false; at = at; sort = s; bound = w }) b),
  simp (e, g, append-nil),
  simp (f, h, append-nil),
)

more_and : (l : Level) → Keeps (More l) And (a_nonterminal (Operand (level_after_and l) (l.at_and + 1)) ∷ [])
more_and l _ _ _ (part (b, e, f) none) = (Some (conjoins, b), simp (e, append-nil), simp (f, append-nil))

more_or : (l : Level) → Keeps (More l) Or (a_nonterminal (Operand (level_after_or l) (l.at_or + 1)) ∷ [])
more_or l _ _ _ (part (b, e, f) none) = (Some (disjoins, b), simp (e, append-nil), simp (f, append-nil))

more_implies : (l : Level) → Keeps (More l) Implies (a_nonterminal (Operand (level_after_implies l) (l.at_implies + 1)) ∷ [])
more_implies l _ _ _ (part (b, e, f) none) = (Some (implies, b), simp (e, append-nil), simp (f, append-nil))

arguments_name : Keeps Arguments Name (a_nonterminal Arguments ∷ [])
arguments_name w _ _ (part (xs, e, f) none) = (word_arg w ∷ xs, simp (e, append-nil), simp (f, append-nil))

arguments_number : Keeps Arguments Number (a_nonterminal Arguments ∷ [])
arguments_number n _ _ (part (xs, e, f) none) = (number_arg n.0 n.1 ∷ xs, simp (e, append-nil), simp (f, append-nil))

argument_name : Keeps Argument Name []
argument_name w _ _ none = (word_arg w, refl, refl)

argument_number : Keeps Argument Number []
argument_number n _ _ none = (number_arg n.0 n.1, refl, refl)

-- a node and an edge with what stands after them, lexeme by lexeme
node_behind : {Y : Type 0} (o w k z : Y) (l r : List Y) → (o ∷ w ∷ k ∷ (l ++ z ∷ [])) ++ r ≡ o ∷ w ∷ k ∷ (l ++ z ∷ r)
node_behind o w k z l r = simp append_assoc

edge_behind : {Y : Type 0} (o c z : Y) (a b l r : List Y)
    → (o ∷ (a ++ c ∷ (b ++ (l ++ z ∷ [])))) ++ r ≡ o ∷ (a ++ c ∷ (b ++ (l ++ z ∷ r)))
edge_behind o c z a b l r = simp append_assoc

pub node_lexemes : {Y : Type 0} (f : Lexeme → Y) (o w k z : Lexeme) (l r : List Lexeme)
    → map f ((o ∷ w ∷ k ∷ (l ++ z ∷ [])) ++ r) ≡ f o ∷ f w ∷ f k ∷ (map f l ++ f z ∷ map f r)
node_lexemes f o w k z l r = simp (map-append, append_assoc)

pub edge_lexemes : {Y : Type 0} (f : Lexeme → Y) (o c z : Lexeme) (a b l r : List Lexeme)
    → map f ((o ∷ (a ++ c ∷ (b ++ (l ++ z ∷ [])))) ++ r) ≡ f o ∷ (map f a ++ f c ∷ (map f b ++ (map f l ++ f z ∷ map f r)))
edge_lexemes f o c z a b l r = simp (map-append, append_assoc)

pub edge_alone : {Y : Type 0} (f : Lexeme → Y) (o c z : Lexeme) (a b l : List Lexeme)
    → map f (o ∷ (a ++ c ∷ (b ++ (l ++ z ∷ [])))) ≡ f o ∷ (map f a ++ f c ∷ (map f b ++ (map f l ++ f z ∷ [])))
edge_alone f o c z a b l = simp map-append

abbrev pub mark : Lexeme → Bool
mark x = false

abbrev node_at : Word → Option Arg × Word → NodeTerm
node_at w l = record { op = w; core = l.0; stage = l.1 }

node_open : Keeps Node Open (a_terminal Name ∷ a_terminal Comma ∷ a_nonterminal Location ∷ a_terminal Close ∷ [])
node_open _ _ _ (class w (class _ (part (l, e, f) (class _ none)))) = (node_at w l, simp e, simp (f, map-append))

location_name : Keeps Location Name []
location_name w _ _ none = ((None, w), refl, refl)

location_open : Keeps Location Open (a_nonterminal Argument ∷ a_terminal Comma ∷ a_terminal Name ∷ a_terminal Close ∷ [])
location_open _ _ _ (part (a, e, f) (class _ (class w (class _ none)))) = ((Some a, w), simp e, simp f)

abbrev edge_between : NodeTerm → NodeTerm → Labels → EdgeText
edge_between m n l = record { term = record { from = m; to = n }; labels = l }

edge_open : Keeps Edge Open (a_nonterminal Node ∷ a_terminal Comma ∷ a_nonterminal Node ∷ a_nonterminal LabelsPhrase ∷ a_terminal Close ∷ [])
edge_open _ _ _ (part (m, e, f) (class _ (part (n, g, h) (part (l, i, j) (class _ none))))) = (
  edge_between m n l,
  simp (e, g, i),
  simp (f, h, j) (sym (edge_alone mark (plain Open) (plain Comma) (plain Close) (spelled_node m) (spelled_node n) (spelled_labels l))),
)

labels_comma : Keeps LabelsPhrase Comma (a_nonterminal LabelPhrase ∷ a_nonterminal SecondLabel ∷ [])
labels_comma _ _ _ (part (l, e, f) (part (None, g, h) none)) = (labelled l, simp (e, g), simp (f, h))
labels_comma _ _ _ (part (l, e, f) (part (Some c, g, h) none)) = (coloured l c, simp (e, g), simp (f, h))

second_comma : Keeps SecondLabel Comma (a_nonterminal LabelPhrase ∷ [])
second_comma _ _ _ (part (l, e, f) none) = (Some l, simp e, simp f)

sort_microop : Keeps SortWord Microop []
sort_microop _ _ _ none = (microop, refl, refl)

sort_core : Keeps SortWord Core []
sort_core _ _ _ none = (core, refl, refl)

nodes_close : Keeps Nodes CloseBracket []
nodes_close _ _ _ none = (empty, refl, refl)

nodes_open : Keeps Nodes Open (a_terminal Name ∷ a_terminal Comma ∷ a_nonterminal Location ∷ a_terminal Close ∷ a_nonterminal MoreNodes ∷ [])
nodes_open _ _ _ (class w (class _ (part (l, e, f) (class _ (part (o, g, h) none))))) =
    let others = spelled_others spelled_node o.0 o.1 in (
      some (node_at w l) o.0 o.1,
      simp (e, g, append-nil) (sym (node_behind (plain Open) (name_ w) (plain Comma) (plain Close) (spelled_location l.0 l.1) others)),
      simp (f, h, append-nil) (sym (node_lexemes mark (plain Open) (name_ w) (plain Comma) (plain Close) (spelled_location l.0 l.1) others)),
    )

more_nodes_close : Keeps MoreNodes CloseBracket []
more_nodes_close _ _ _ none = (([], false), refl, refl)

more_nodes_semicolon : Keeps MoreNodes Semicolon (a_nonterminal Nodes ∷ [])
more_nodes_semicolon _ _ _ (part (empty, e, f) none) = (([], true), simp e, simp f)
more_nodes_semicolon _ _ _ (part (some x xs t, e, f) none) = ((x ∷ xs, t), simp (e, append-nil), simp (f, append-nil))

edges_close : Keeps Edges CloseBracket []
edges_close _ _ _ none = (empty, refl, refl)

edges_open : Keeps Edges Open (a_nonterminal Node ∷ a_terminal Comma ∷ a_nonterminal Node ∷ a_nonterminal LabelsPhrase
    ∷ a_terminal Close ∷ a_nonterminal MoreEdges ∷ [])
edges_open _ _ _ (part (m, e, f) (class _ (part (n, g, h) (part (l, i, j) (class _ (part (o, k, p) none)))))) =
    let others = spelled_others spelled_edge o.0 o.1 in (
      some (edge_between m n l) o.0 o.1,
      simp (e, g, i, k, append-nil) (sym (edge_behind (plain Open) (plain Comma) (plain Close) (spelled_node m) (spelled_node n) (spelled_labels l) others)),
      simp (f, h, j, p, append-nil) (sym
          (edge_lexemes mark (plain Open) (plain Comma) (plain Close) (spelled_node m) (spelled_node n) (spelled_labels l) others)),
    )

more_edges_close : Keeps MoreEdges CloseBracket []
more_edges_close _ _ _ none = (([], false), refl, refl)

more_edges_semicolon : Keeps MoreEdges Semicolon (a_nonterminal Edges ∷ [])
more_edges_semicolon _ _ _ (part (empty, e, f) none) = (([], true), simp e, simp f)
more_edges_semicolon _ _ _ (part (some x xs t, e, f) none) = ((x ∷ xs, t), simp (e, append-nil), simp (f, append-nil))

rule : (n : Phrase) (c : Terminal) → MatchOption (production n c) (Unit {0}) (λ body. Keeps n c body)
rule Items StageName = items_stage
rule Items Axiom = items_axiom
rule Items DefineMacro = items_macro
rule Items _ = tt
rule Parameters Quoted = parameters_more
rule Parameters _ = tt
rule LabelPhrase Quoted = label_quoted
rule LabelPhrase Text = label_text
rule LabelPhrase _ = tt
rule (Operand l n) OneEdge = operand_one_edge l n
rule (Operand l n) EdgeList = operand_edges l n
rule (Operand l n) OneNode = operand_one_node l n
rule (Operand l n) NodeList = operand_nodes l n
rule (Operand l n) ExpandMacro = operand_expand l n
rule (Operand l n) Name = operand_name l n
rule (Operand l n) Open = operand_open l n
rule (Operand l n) Not = operand_not l n
rule (Operand l n) Forall = operand_forall l n
rule (Operand l n) Exists = operand_exists l n
rule (Operand l n) _ = tt
rule (More l) And = more_and l
rule (More l) Or = more_or l
rule (More l) Implies = more_implies l
rule (More l) _ = tt
rule Arguments Name = arguments_name
rule Arguments Number = arguments_number
rule Arguments _ = tt
rule Argument Name = argument_name
rule Argument Number = argument_number
rule Argument _ = tt
rule Node Open = node_open
rule Node _ = tt
rule Location Name = location_name
rule Location Open = location_open
rule Location _ = tt
rule Edge Open = edge_open
rule Edge _ = tt
rule LabelsPhrase Comma = labels_comma
rule LabelsPhrase _ = tt
rule SecondLabel Comma = second_comma
rule SecondLabel _ = tt
rule SortWord Microop = sort_microop
rule SortWord Core = sort_core
rule SortWord _ = tt
rule Nodes CloseBracket = nodes_close
rule Nodes Open = nodes_open
rule Nodes _ = tt
rule MoreNodes CloseBracket = more_nodes_close
rule MoreNodes Semicolon = more_nodes_semicolon
rule MoreNodes _ = tt
rule Edges CloseBracket = edges_close
rule Edges Open = edges_open
rule Edges _ = tt
rule MoreEdges CloseBracket = more_edges_close
rule MoreEdges Semicolon = more_edges_semicolon
rule MoreEdges _ = tt

closed_rules : IsClosedUnder rules (Means Texts)
closed_rules = record {
  empty = λ n h. ended n h;
  rule = λ n c. rule_of Texts n c (production n c) (rule n c);
}
  where
    ended : (n : Phrase) → IsTrue (is_nullable n) → Means Texts n [] []
    ended n h [] payloads e = texts-end n h
    ended n h (x ∷ xs) payloads e = absurd (cc)

-- whatever lexemes have terminals that a phrase reads are a text of it
texts_read : (n : Phrase) (xs : List Lexeme) (marks : List Bool) → HavePayloads xs → Derives rules n (map terminal xs) marks → Texts n xs marks
texts_read n xs marks payloads reads = meaning rules (Means Texts) closed_rules n (map terminal xs) marks reads xs payloads refl

pub model_read : (xs : List Lexeme) (marks : List Bool) → HavePayloads xs → Derives rules Items (map terminal xs) marks
    → (is : List Item) × (xs ≡ spelled_model is) × (marks ≡ marks_model is)
model_read xs marks payloads reads = texts_read Items xs marks payloads reads

pub formula_read : (xs : List Lexeme) (marks : List Bool) → HavePayloads xs → Derives rules (Operand (level_of 0) 0) (map terminal xs) marks
    → (f : Formula) × (xs ≡ spelled_formula f) × (marks ≡ marks_outer f)
formula_read xs marks payloads reads = texts_read (Operand (level_of 0) 0) xs marks payloads reads

pub marked_model_of : (cs : List Terminal) (marks : List Bool) → Derives rules Items cs marks → IsMarkedModel cs marks
marked_model_of cs marks reads =
    let all = terminals-somes cs in
    let (is, e, f) = model_read (map some_lexeme cs) marks (payloads-somes cs) (subst (λ (ds : List Terminal). Derives rules Items ds marks) (sym all) reads) in
    (is, sym all ∙ ap (map terminal) e, f)

pub marked_formula_of : (cs : List Terminal) (marks : List Bool) → Derives rules (Operand (level_of 0) 0) cs marks
    → IsMarkedFormula cs marks
marked_formula_of cs marks reads =
    let all = terminals-somes cs in
    let (b, e, f) = formula_read (map some_lexeme cs) marks (payloads-somes cs)
    (subst (λ (ds : List Terminal). Derives rules (Operand (level_of 0) 0) ds marks) (sym all) reads) in
    (b, sym all ∙ ap (map terminal) e, f)
