-- The table reads each text of the grammar, with its marks.
use Rattle.std.proofs.Common.{◌≡◌, ℕ, ◌+◌, Bool, true, false, List, [], ◌∷◌, ◌++◌, Option, Some, None, map, refl, sym, subst, append_assoc}
use Rattle.std.proofs.lemmas.List.{append-nil, map-append}
use Rattle.pc_syntax.specs.declared.term.{Sort.{Sort, TheVariants.{Microop as microop, Core as core}}, Word.{Word}, Arg.{Arg}}
use Rattle.pc_syntax.specs.declared.term.{Arg.TheVariants.{Word as word_arg, Number as number_arg}, NodeTerm.{NodeTerm}}
use Rattle.ll_grammar.specs.{Rules.{Derives}, declared.grammar.Symbol.TheVariants.{Terminal as a_terminal, Nonterminal as a_nonterminal}}
use Rattle.ll_grammar.proofs.DerivesLaws.{derives-begin, derives-end, Each.{none, class, part}}
use Rattle.uspec_parser.specs.{Terminals.{Lexeme, plain, name_, quoted, terminal}, declared.operands.Connective.{Connective}}
use Rattle.uspec_parser.specs.declared.{operands.Connective.TheVariants.{And as conjoins, Or as disjoins, Implies as implies}, level.Level.{Level}}
use Rattle.uspec_parser.specs.declared.terminal.Terminal.{Terminal}
use Rattle.uspec_parser.specs.declared.terminal.Terminal.TheVariants.{StageName, Axiom, DefineMacro, ExpandMacro, Forall, Exists, Microop, Core, OneEdge, EdgeList, OneNode, NodeList, Name, Number, Quoted, Text, Open, Close, OpenBracket, CloseBracket, Comma, Semicolon, Colon, Dot, Not, And, Or, Implies}
use Rattle.uspec_parser.specs.declared.phrase.Phrase.{Phrase}
use Rattle.uspec_parser.specs.declared.phrase.Phrase.TheVariants.{Items, Parameters, Label as LabelPhrase, Operand, More, Arguments, Argument, Node, Location, Edge, Labels as LabelsPhrase, SecondLabel, SortWord, Nodes, MoreNodes, Edges, MoreEdges}
use Rattle.uspec_parser.specs.Syntax.{spelled_arg, spelled_location, spelled_node, Label, named, other, spelled_label, Labels, unlabelled, labelled, coloured, spelled_labels, Edge as EdgeText, spelled_edge, Listing, empty, some, spelled_others, spelled_elements, Atom, one_edge, one_node, edge_list, node_list, expand, predicate, spelled_atom, spelled_sort, spelled_quantifier_word, spelled_connective, Formula, last, last_wide, more, Operand as OperandText, atom, bracketed, negated, Wide, binding, negated_wide, spelled_formula, spelled_operand, spelled_wide, Item, stage, axiom_item, macro, spelled_model}
use Rattle.uspec_parser.specs.Levels.{is_deep, level_of, level_after_and, level_after_or, level_after_implies}
use Rattle.uspec_parser.specs.Marks.{shallow, open_at, level_behind, marks_formula, marks_operand, marks_wide, marks_model, IsMarkedFormula, IsMarkedModel}
use Rattle.uspec_parser.{specs.Phrases.{rules}, proofs.DerivedIsMarked.{node_lexemes, edge_lexemes, edge_alone, mark}}

abbrev Read : Phrase → List Lexeme → Type 0
Read n xs = Derives rules n (map terminal xs) (shallow xs)

read_label : (l : Label) → Read LabelPhrase (spelled_label l ∷ [])
read_label (named w) = derives-begin LabelPhrase Quoted [] refl none refl refl
read_label other = derives-begin LabelPhrase Text [] refl none refl refl

read_argument : (a : Arg) → Read Argument (spelled_arg a ∷ [])
read_argument (word_arg w) = derives-begin Argument Name [] refl none refl refl
read_argument (number_arg n at) = derives-begin Argument Number [] refl none refl refl

read_arguments : (args : List Arg) → Read Arguments (map spelled_arg args)
read_arguments [] = derives-end Arguments refl
read_arguments (word_arg w ∷ args) =
    derives-begin Arguments Name (a_nonterminal Arguments ∷ []) refl (part (read_arguments args) none) (simp append-nil) (simp append-nil)
read_arguments (number_arg n at ∷ args) =
    derives-begin Arguments Number (a_nonterminal Arguments ∷ []) refl (part (read_arguments args) none) (simp append-nil) (simp append-nil)

read_parameters : (ws : List Word) → Read Parameters (map quoted ws)
read_parameters [] = derives-end Parameters refl
read_parameters (w ∷ ws) =
    derives-begin Parameters Quoted (a_nonterminal Parameters ∷ []) refl (part (read_parameters ws) none) (simp append-nil) (simp append-nil)

read_location : (c : Option Arg) (s : Word) → Read Location (spelled_location c s)
read_location None s = derives-begin Location Name [] refl none refl refl
read_location (Some a) s =
    derives-begin Location Open (a_nonterminal Argument ∷ a_terminal Comma ∷ a_terminal Name ∷ a_terminal Close ∷ []) refl
    (part (read_argument a) (class (class (class none)))) refl refl

read_node : (n : NodeTerm) → Read Node (spelled_node n)
read_node n =
    derives-begin Node Open (a_terminal Name ∷ a_terminal Comma ∷ a_nonterminal Location ∷ a_terminal Close ∷ []) refl
    (class (class (part (read_location n.core n.stage) (class none)))) (simp map-append) (simp map-append)

read_labels : (l : Labels) → Read LabelsPhrase (spelled_labels l)
read_labels unlabelled = derives-end LabelsPhrase refl
read_labels (labelled l) =
    derives-begin LabelsPhrase Comma (a_nonterminal LabelPhrase ∷ a_nonterminal SecondLabel ∷ []) refl
    (part (read_label l) (part (derives-end SecondLabel refl) none)) refl refl
read_labels (coloured l c) =
    derives-begin LabelsPhrase Comma (a_nonterminal LabelPhrase ∷ a_nonterminal SecondLabel ∷ []) refl
    (part (read_label l) (part (derives-begin SecondLabel Comma (a_nonterminal LabelPhrase ∷ []) refl (part (read_label c) none) refl refl) none))
    refl refl

read_edge : (e : EdgeText) → Read Edge (spelled_edge e)
read_edge e =
    let m = spelled_node e.term.from in
    let n = spelled_node e.term.to in
    let l = spelled_labels e.labels in
    derives-begin Edge Open (a_nonterminal Node ∷ a_terminal Comma ∷ a_nonterminal Node ∷ a_nonterminal LabelsPhrase ∷ a_terminal Close ∷ []) refl
    (part (read_node e.term.from) (class (part (read_node e.term.to) (part (read_labels e.labels) (class none)))))
    (edge_alone terminal (plain Open) (plain Comma) (plain Close) m n l) (edge_alone mark (plain Open) (plain Comma) (plain Close) m n l)

-- a list whose first element is read already
read_first_node : (n : NodeTerm) (xs : List Lexeme) → Read MoreNodes xs → Read Nodes (spelled_node n ++ xs)
read_first_node n xs reads =
    let l = spelled_location n.core n.stage in
    derives-begin Nodes Open (a_terminal Name ∷ a_terminal Comma ∷ a_nonterminal Location ∷ a_terminal Close ∷ a_nonterminal MoreNodes ∷ []) refl
    (class (class (part (read_location n.core n.stage) (class (part reads none)))))
    (simp append-nil (node_lexemes terminal (plain Open) (name_ n.op) (plain Comma) (plain Close) l xs))
    (simp append-nil (node_lexemes mark (plain Open) (name_ n.op) (plain Comma) (plain Close) l xs))

read_more_nodes : (ns : List NodeTerm) (t : Bool) → Read MoreNodes (spelled_others spelled_node ns t)
read_more_nodes [] false = derives-begin MoreNodes CloseBracket [] refl none refl refl
read_more_nodes [] true =
    derives-begin MoreNodes Semicolon (a_nonterminal Nodes ∷ []) refl (part (derives-begin Nodes CloseBracket [] refl none refl refl) none) refl refl
read_more_nodes (n ∷ ns) t =
    derives-begin MoreNodes Semicolon (a_nonterminal Nodes ∷ []) refl
    (part (read_first_node n (spelled_others spelled_node ns t) (read_more_nodes ns t)) none) (simp append-nil) (simp append-nil)

read_nodes : (l : Listing NodeTerm) → Read Nodes (spelled_elements spelled_node l)
read_nodes empty = derives-begin Nodes CloseBracket [] refl none refl refl
read_nodes (some n ns t) = read_first_node n (spelled_others spelled_node ns t) (read_more_nodes ns t)

read_first_edge : (e : EdgeText) (xs : List Lexeme) → Read MoreEdges xs → Read Edges (spelled_edge e ++ xs)
read_first_edge e xs reads =
    let m = spelled_node e.term.from in
    let n = spelled_node e.term.to in
    let l = spelled_labels e.labels in
    derives-begin Edges Open (a_nonterminal Node ∷ a_terminal Comma ∷ a_nonterminal Node ∷ a_nonterminal LabelsPhrase
    ∷ a_terminal Close ∷ a_nonterminal MoreEdges ∷ []) refl
    (part (read_node e.term.from) (class (part (read_node e.term.to) (part (read_labels e.labels) (class (part reads none))))))
    (simp append-nil (edge_lexemes terminal (plain Open) (plain Comma) (plain Close) m n l xs))
    (simp append-nil (edge_lexemes mark (plain Open) (plain Comma) (plain Close) m n l xs))

read_more_edges : (es : List EdgeText) (t : Bool) → Read MoreEdges (spelled_others spelled_edge es t)
read_more_edges [] false = derives-begin MoreEdges CloseBracket [] refl none refl refl
read_more_edges [] true =
    derives-begin MoreEdges Semicolon (a_nonterminal Edges ∷ []) refl (part (derives-begin Edges CloseBracket [] refl none refl refl) none) refl refl
read_more_edges (e ∷ es) t =
    derives-begin MoreEdges Semicolon (a_nonterminal Edges ∷ []) refl
    (part (read_first_edge e (spelled_others spelled_edge es t) (read_more_edges es t)) none) (simp append-nil) (simp append-nil)

read_edges : (l : Listing EdgeText) → Read Edges (spelled_elements spelled_edge l)
read_edges empty = derives-begin Edges CloseBracket [] refl none refl refl
read_edges (some e es t) = read_first_edge e (spelled_others spelled_edge es t) (read_more_edges es t)

read_sort : (s : Sort) → Read SortWord (plain (spelled_sort s) ∷ [])
read_sort microop = derives-begin SortWord Microop [] refl none refl refl
read_sort core = derives-begin SortWord Core [] refl none refl refl

-- an operand, where what follows it in its list is read already
abbrev ReadMore : Level → List Terminal → List Bool → Type 0
ReadMore l cs marks = Derives rules (More l) cs marks

read_atom : (l : Level) (n : ℕ) (a : Atom) {cs : List Terminal} {marks : List Bool} → ReadMore l cs marks
    → Derives rules (Operand l n) (map terminal (spelled_atom a) ++ cs) (shallow (spelled_atom a) ++ marks)
read_atom l n (one_edge e) reads =
    derives-begin (Operand l n) OneEdge (a_nonterminal Edge ∷ a_nonterminal (More l) ∷ []) refl (part (read_edge e) (part reads none))
    (simp append-nil) (simp append-nil)
read_atom l n (one_node m) reads =
    derives-begin (Operand l n) OneNode (a_nonterminal Node ∷ a_nonterminal (More l) ∷ []) refl (part (read_node m) (part reads none))
    (simp append-nil) (simp append-nil)
read_atom l n (edge_list es) reads =
    derives-begin (Operand l n) EdgeList (a_terminal OpenBracket ∷ a_nonterminal Edges ∷ a_nonterminal (More l) ∷ []) refl
    (class (part (read_edges es) (part reads none))) (simp append-nil) (simp append-nil)
read_atom l n (node_list ns) reads =
    derives-begin (Operand l n) NodeList (a_terminal OpenBracket ∷ a_nonterminal Nodes ∷ a_nonterminal (More l) ∷ []) refl
    (class (part (read_nodes ns) (part reads none))) (simp append-nil) (simp append-nil)
read_atom l n (expand at name args) reads =
    derives-begin (Operand l n) ExpandMacro (a_terminal Name ∷ a_nonterminal Arguments ∷ a_nonterminal (More l) ∷ []) refl
    (class (part (read_arguments args) (part reads none))) (simp append-nil) (simp append-nil)
read_atom l n (predicate name args) reads =
    derives-begin (Operand l n) Name (a_nonterminal Arguments ∷ a_nonterminal (More l) ∷ []) refl
    (part (read_arguments args) (part reads none)) (simp append-nil) (simp append-nil)

read_connective : (l : Level) (op : Connective) {cs : List Terminal} {marks : List Bool}
    → Derives rules (Operand (level_behind op l) (open_at op l + 1)) cs marks
    → ReadMore l (spelled_connective op ∷ cs) (is_deep (open_at op l) ∷ marks)
read_connective l conjoins reads =
    derives-begin (More l) And (a_nonterminal (Operand (level_after_and l) (l.at_and + 1)) ∷ []) refl (part reads none) (simp append-nil) (simp append-nil)
read_connective l disjoins reads =
    derives-begin (More l) Or (a_nonterminal (Operand (level_after_or l) (l.at_or + 1)) ∷ []) refl (part reads none) (simp append-nil) (simp append-nil)
read_connective l implies reads =
    derives-begin (More l) Implies (a_nonterminal (Operand (level_after_implies l) (l.at_implies + 1)) ∷ []) refl (part reads none)
    (simp append-nil) (simp append-nil)

read_binding : (l : Level) (n : ℕ) (u : Bool) (s : Sort) {cs : List Terminal} {marks : List Bool}
    → Derives rules (Operand (level_of (n + 1)) (n + 1)) cs marks
    → Derives rules (Operand l n) (spelled_quantifier_word u ∷ spelled_sort s ∷ Quoted ∷ Comma ∷ cs) (is_deep n ∷ false ∷ false ∷ false ∷ marks)
read_binding l n true s reads =
    derives-begin (Operand l n) Forall
    (a_nonterminal SortWord ∷ a_terminal Quoted ∷ a_terminal Comma ∷ a_nonterminal (Operand (level_of (n + 1)) (n + 1)) ∷ []) refl
    (part (read_sort s) (class (class (part reads none)))) (simp append-nil) (simp append-nil)
read_binding l n false s reads =
    derives-begin (Operand l n) Exists
    (a_nonterminal SortWord ∷ a_terminal Quoted ∷ a_terminal Comma ∷ a_nonterminal (Operand (level_of (n + 1)) (n + 1)) ∷ []) refl
    (part (read_sort s) (class (class (part reads none)))) (simp append-nil) (simp append-nil)

-- at the end of a list nothing follows
ended : (n : Phrase) {cs : List Terminal} {marks : List Bool} → Derives rules n (cs ++ []) (marks ++ []) → Derives rules n cs marks
ended n {cs} {marks} reads =
    subst (λ (x : List Terminal). Derives rules n x marks) (append-nil cs)
    (subst (λ (x : List Bool). Derives rules n (cs ++ []) x) (append-nil marks) reads)

mutual
  read_formula : (l : Level) (n : ℕ) (f : Formula) → Derives rules (Operand l n) (map terminal (spelled_formula f)) (marks_formula l n f)
  read_formula l n (last u) = ended (Operand l n) (read_operand l n u (derives-end (More l) refl))
  read_formula l n (last_wide w) = read_wide l n w
  read_formula l n (more u op f) =
      subst (λ (x : List Terminal). Derives rules (Operand l n) x (marks_formula l n (more u op f)))
      (sym (map-append terminal (spelled_operand u) (plain (spelled_connective op) ∷ spelled_formula f)))
      (read_operand l n u (read_connective l op (read_formula (level_behind op l) (open_at op l + 1) f)))

  read_operand : (l : Level) (n : ℕ) (u : OperandText) {cs : List Terminal} {marks : List Bool} → ReadMore l cs marks
      → Derives rules (Operand l n) (map terminal (spelled_operand u) ++ cs) (marks_operand n u ++ marks)
  read_operand l n (atom a) reads = read_atom l n a reads
  read_operand l n (bracketed f) reads =
      derives-begin (Operand l n) Open (a_nonterminal (Operand (level_of (n + 1)) (n + 1)) ∷ a_terminal Close ∷ a_nonterminal (More l) ∷ []) refl
      (part (read_formula (level_of (n + 1)) (n + 1) f) (class (part reads none)))
      (simp (map-append, append_assoc, append-nil)) (simp (append_assoc, append-nil))
  read_operand l n (negated u) reads =
      derives-begin (Operand l n) Not (a_nonterminal (Operand l (n + 1)) ∷ []) refl (part (read_operand l (n + 1) u reads) none)
      (simp append-nil) (simp append-nil)

  read_wide : (l : Level) (n : ℕ) (w : Wide) → Derives rules (Operand l n) (map terminal (spelled_wide w)) (marks_wide n w)
  read_wide l n (binding q f) = read_binding l n q.universal q.sort (read_formula (level_of (n + 1)) (n + 1) f)
  read_wide l n (negated_wide w) =
      derives-begin (Operand l n) Not (a_nonterminal (Operand l (n + 1)) ∷ []) refl (part (read_wide l (n + 1) w) none)
      (simp append-nil) (simp append-nil)

read_model : (is : List Item) → Derives rules Items (map terminal (spelled_model is)) (marks_model is)
read_model [] = derives-end Items refl
read_model (stage s ∷ is) =
    derives-begin Items StageName (a_terminal Number ∷ a_terminal Quoted ∷ a_terminal Dot ∷ a_nonterminal Items ∷ []) refl
    (class (class (class (part (read_model is) none)))) (simp append-nil) (simp append-nil)
read_model (axiom_item at label f ∷ is) =
    derives-begin Items Axiom (a_nonterminal LabelPhrase ∷ a_terminal Colon ∷ a_nonterminal (Operand (level_of 0) 0)
    ∷ a_terminal Dot ∷ a_nonterminal Items ∷ []) refl
    (part (read_label label) (class (part (read_formula (level_of 0) 0 f) (class (part (read_model is) none)))))
    (simp (append-nil, append_assoc, map-append)) (simp (append-nil, append_assoc))
read_model (macro name parameters f ∷ is) =
    derives-begin Items DefineMacro
    (a_terminal Quoted ∷ a_nonterminal Parameters ∷ a_terminal Colon ∷ a_nonterminal (Operand (level_of 0) 0)
    ∷ a_terminal Dot ∷ a_nonterminal Items ∷ []) refl
    (class (part (read_parameters parameters) (class (part (read_formula (level_of 0) 0 f) (class (part (read_model is) none))))))
    (simp (append-nil, append_assoc, map-append)) (simp (append-nil, append_assoc))

pub model_derived : (cs : List Terminal) (marks : List Bool) → IsMarkedModel cs marks → Derives rules Items cs marks
model_derived cs marks (is, e, f) =
    subst (λ (x : List Terminal). Derives rules Items x marks) (sym e)
    (subst (λ (x : List Bool). Derives rules Items (map terminal (spelled_model is)) x) (sym f) (read_model is))

pub formula_derived : (cs : List Terminal) (marks : List Bool) → IsMarkedFormula cs marks → Derives rules (Operand (level_of 0) 0) cs marks
formula_derived cs marks (b, e, f) =
    subst (λ (x : List Terminal). Derives rules (Operand (level_of 0) 0) x marks) (sym e)
    (subst (λ (x : List Bool). Derives rules (Operand (level_of 0) 0) (map terminal (spelled_formula b)) x) (sym f) (read_formula (level_of 0) 0 b))
