-- Of a text the descent makes what it means.
use Rattle.std.proofs.Common.{◌≡◌, Bool, true, false, List, [], ◌∷◌, ◌++◌, Option, Some, None, map, refl, sym, ap, subst, ◌∙◌, append_assoc}
use Rattle.pc_syntax.specs.declared.term.{Sort.{Sort, TheVariants.{Microop as microop, Core as core}}, Word.{Word}, Arg.{Arg}}
use Rattle.pc_syntax.specs.declared.term.{Arg.TheVariants.{Word as word_arg, Number as number_arg}, NodeTerm.{NodeTerm}, EdgeTerm.{EdgeTerm}}
use Rattle.pc_syntax.specs.Written.{Written, edges_, nodes_, axiom_, macro_}
use Rattle.uspec_parser.specs.{Terminals.{Lexeme, plain, placed, quoted}, declared.operands.Connective.{Connective}}
use Rattle.uspec_parser.specs.declared.operands.Connective.TheVariants.{And as conjoins, Or as disjoins, Implies as implies}
use Rattle.uspec_parser.specs.{declared.terminal.Terminal.TheVariants.{Forall, Exists, Open, Close, Comma, Colon, Dot}, Operands.{Operands, chain, formula_of}}
use Rattle.uspec_parser.specs.Syntax.{spelled_arg, spelled_node, Labels, unlabelled, labelled, coloured, spelled_labels, Edge, spelled_edge, Listing, empty, some, spelled_others, spelled_elements, elements, one_edge, one_node, edge_list, node_list, expand, predicate, spelled_atom, meant_atom, Quantifier, spelled_sort, spelled_connective, Formula, last, last_wide, more, Wide, binding, negated_wide, spelled_formula, spelled_operand, spelled_wide, meant_operands, meant_operand, meant_wide, quantified, Atom as AtomText, Operand as OperandText, spelled_quantifier_word, Item as ItemText, stage as stage_text, axiom_item, macro, spelled_model, stages_of, items_of}
use Rattle.uspec_parser.specs.Syntax.Operand.{atom as u_atom, bracketed as u_bracketed, negated as u_negated}
use Rattle.uspec_parser.specs.Descent.{next, behind, sort_by, begins_argument, Arguments, behind_semicolon, behind_label, Elements, node, behind_node, edge, behind_edge, connective, Operand, Row, Tail, is_quoted, Parameters, Item, Items}

-- no argument comes next
abbrev pub EndsAtom : List Lexeme → Type 0
EndsAtom rest = begins_argument (next rest) ≡ false

arguments_of : (args : List Arg) (rest : List Lexeme) → EndsAtom rest → Arguments (map spelled_arg args ++ rest) args rest
arguments_of [] rest e = Arguments.ends e
arguments_of (word_arg w ∷ args) rest e = Arguments.goes_on refl (arguments_of args rest e)
arguments_of (number_arg n at ∷ args) rest e = Arguments.goes_on refl (arguments_of args rest e)

node_parts : (op : Word) (c : Option Arg) (stage : Word) (rest : List Lexeme)
    → let n : NodeTerm = record { op = op; core = c; stage = stage } in
    (node (spelled_node n ++ rest) ≡ n) × (behind_node (spelled_node n ++ rest) ≡ rest)
node_parts op None stage rest = (refl, refl)
node_parts op (Some (word_arg w)) stage rest = (refl, refl)
node_parts op (Some (number_arg n at)) stage rest = (refl, refl)

node_of : (n : NodeTerm) (rest : List Lexeme) → (node (spelled_node n ++ rest) ≡ n) × (behind_node (spelled_node n ++ rest) ≡ rest)
node_of n rest = node_parts n.op n.core n.stage rest

labels_of : (l : Labels) (rest : List Lexeme) → behind_label (behind_label (spelled_labels l ++ plain Close ∷ rest)) ≡ plain Close ∷ rest
labels_of unlabelled rest = refl
labels_of (labelled l) rest = refl
labels_of (coloured l c) rest = refl

edge_form : {Y : Type 0} (o c z : Y) (a b l r : List Y)
    → (o ∷ (a ++ c ∷ (b ++ (l ++ z ∷ [])))) ++ r ≡ o ∷ (a ++ c ∷ (b ++ (l ++ z ∷ r)))
edge_form o c z a b l r = simp append_assoc

edge_of : (e : Edge) (rest : List Lexeme) → (edge (spelled_edge e ++ rest) ≡ e.term) × (behind_edge (spelled_edge e ++ rest) ≡ rest)
edge_of e rest =
    let from = e.term.from in
    let to = e.term.to in
    let after_to = spelled_labels e.labels ++ plain Close ∷ rest in
    let after_from = plain Comma ∷ (spelled_node to ++ after_to) in
    let (first, left) = node_of from after_from in
    let (second, others) = node_of to after_to in
    let form = edge_form (plain Open) (plain Comma) (plain Close) (spelled_node from) (spelled_node to) (spelled_labels e.labels) rest in
    let whole = plain Open ∷ (spelled_node from ++ after_from) in
    let to_is : node (behind (behind_node (spelled_node from ++ after_from))) ≡ to = ap (λ (xs : List Lexeme). node (behind xs)) left ∙ second in
    let edge_is : edge whole ≡ e.term = λ i. record { from = first i; to = to_is i } in
    let behind_is : behind_edge whole ≡ rest =
    ap (λ (xs : List Lexeme). behind (behind_label (behind_label (behind_node (behind xs))))) left
    ∙ ap (λ (xs : List Lexeme). behind (behind_label (behind_label xs))) others
    ∙ ap behind (labels_of e.labels rest) in
    (ap edge form ∙ edge_is, ap behind_edge form ∙ behind_is)

module _ {X Y : Type 0} (spelled : X → List Lexeme) (meant : X → Y) (one : List Lexeme → Y) (behind_one : List Lexeme → List Lexeme)
    (is : (x : X) (rest : List Lexeme) → (one (spelled x ++ rest) ≡ meant x) × (behind_one (spelled x ++ rest) ≡ rest))
    (opens : (x : X) (rest : List Lexeme) → next (spelled x ++ rest) ≡ Open) where
  one_more : (x : X) (after rest : List Lexeme) (es : List Y) → Elements one behind_one (behind_semicolon after) es rest
      → Elements one behind_one (spelled x ++ after) (meant x ∷ es) rest
  one_more x after rest es others =
      subst (λ (y : Y). Elements one behind_one (spelled x ++ after) (y ∷ es) rest) (is x after).0
      (Elements.goes_on (opens x after)
      (subst (λ (xs : List Lexeme). Elements one behind_one (behind_semicolon xs) es rest) (sym (is x after).1) others))

  others_of : (xs : List X) (t : Bool) (rest : List Lexeme)
      → Elements one behind_one (behind_semicolon (spelled_others spelled xs t ++ rest)) (map meant xs) rest
  others_of [] false rest = Elements.ends (λ e. cc)
  others_of [] true rest = Elements.ends (λ e. cc)
  others_of (x ∷ xs) t rest =
      subst (λ (ys : List Lexeme). Elements one behind_one ys (meant x ∷ map meant xs) rest) (sym (append_assoc (spelled x) (spelled_others spelled xs t) rest))
      (one_more x (spelled_others spelled xs t ++ rest) rest (map meant xs) (others_of xs t rest))

  elements_of : (l : Listing X) (rest : List Lexeme) → Elements one behind_one (spelled_elements spelled l ++ rest) (map meant (elements l)) rest
  elements_of empty rest = Elements.ends (λ e. cc)
  elements_of (some x xs t) rest =
      subst (λ (ys : List Lexeme). Elements one behind_one ys (meant x ∷ map meant xs) rest) (sym (append_assoc (spelled x) (spelled_others spelled xs t) rest))
      (one_more x (spelled_others spelled xs t ++ rest) rest (map meant xs) (others_of xs t rest))

map_same : {X : Type 0} (xs : List X) → map (λ (x : X). x) xs ≡ xs
map_same [] = refl
map_same (x ∷ xs) = ap (λ ys. x ∷ ys) (map_same xs)

nodes_of : (l : Listing NodeTerm) (rest : List Lexeme) → Elements node behind_node (spelled_elements spelled_node l ++ rest) (elements l) rest
nodes_of l rest =
    subst (λ (ns : List NodeTerm). Elements node behind_node (spelled_elements spelled_node l ++ rest) ns rest) (map_same (elements l))
    (elements_of spelled_node (λ n. n) node behind_node node_of (λ n after. refl) l rest)

edges_of : (l : Listing Edge) (rest : List Lexeme)
    → Elements edge behind_edge (spelled_elements spelled_edge l ++ rest) (map (λ (e : Edge). e.term) (elements l)) rest
edges_of l rest = elements_of spelled_edge (λ (e : Edge). e.term) edge behind_edge edge_of (λ e after. refl) l rest

atom_of : (a : AtomText) (rest : List Lexeme) → EndsAtom rest → Operand (spelled_atom a ++ rest) (meant_atom a) rest
atom_of (one_edge e) rest h =
    let (value, left) = edge_of e rest in Operand.atom refl (ap (λ (t : EdgeTerm). edges_ (t ∷ [])) (sym value), sym left)
atom_of (one_node n) rest h =
    let (value, left) = node_of n rest in Operand.atom refl (ap (λ (t : NodeTerm). nodes_ (t ∷ [])) (sym value), sym left)
atom_of (edge_list es) rest h = Operand.atom refl (map (λ (e : Edge). e.term) (elements es), edges_of es rest, refl)
atom_of (node_list ns) rest h = Operand.atom refl (elements ns, nodes_of ns rest, refl)
atom_of (expand at name args) rest h = Operand.atom refl (args, arguments_of args rest h, refl)
atom_of (predicate name args) rest h = Operand.atom refl (args, arguments_of args rest h, refl)

-- neither an argument nor a connective comes next
abbrev pub Ends : List Lexeme → Type 0
Ends rest = EndsAtom rest × (connective (next rest) ≡ None)

connective_is : (op : Connective) → connective (spelled_connective op) ≡ Some op
connective_is conjoins = refl
connective_is disjoins = refl
connective_is implies = refl

connective_ends : (op : Connective) → begins_argument (spelled_connective op) ≡ false
connective_ends conjoins = refl
connective_ends disjoins = refl
connective_ends implies = refl

tail_of_row : (op : Connective) (xs rest : List Lexeme) (w : Written) (l : Operands) → connective (next xs) ≡ Some op → Row (behind xs) l rest
    → Tail xs w (chain w op l) rest
tail_of_row op xs rest w l e (Row.row a t) = Tail.goes_on op e a t

sort_is : (s : Sort) → sort_by (spelled_sort s) ≡ s
sort_is microop = refl
sort_is core = refl

binding_of : (q : Quantifier) (xs rest : List Lexeme) (l : Operands) → Row xs l rest
    → (u : Bool) → u ≡ q.universal
    → Operand (placed (spelled_quantifier_word u) q.at ∷ plain (spelled_sort q.sort) ∷ quoted q.bound ∷ plain Comma ∷ xs)
    (quantified q.universal q.at q.sort q.bound.name (formula_of l)) rest
binding_of q xs rest l body true e =
    let same : quantified true q.at (sort_by (spelled_sort q.sort)) q.bound.name (formula_of l) ≡ quantified q.universal
    q.at q.sort q.bound.name (formula_of l) =
    let s = sort_is q.sort in cc in
    subst (λ (w : Written). Operand (placed Forall q.at ∷ plain (spelled_sort q.sort) ∷ quoted q.bound ∷ plain Comma ∷ xs) w rest)
    same (Operand.bound true refl body)
binding_of q xs rest l body false e =
    let same : quantified false q.at (sort_by (spelled_sort q.sort)) q.bound.name (formula_of l) ≡ quantified q.universal
    q.at q.sort q.bound.name (formula_of l) =
    let s = sort_is q.sort in cc in
    subst (λ (w : Written). Operand (placed Exists q.at ∷ plain (spelled_sort q.sort) ∷ quoted q.bound ∷ plain Comma ∷ xs) w rest)
    same (Operand.bound false refl body)

mutual
  operand_of : (u : OperandText) (rest : List Lexeme) → EndsAtom rest → Operand (spelled_operand u ++ rest) (meant_operand u) rest
  operand_of (u_atom a) rest h = atom_of a rest h
  operand_of (u_bracketed f) rest h =
      Operand.bracketed refl
      (subst (λ (xs : List Lexeme). Row xs (meant_operands f) (plain Close ∷ rest)) (sym (append_assoc (spelled_formula f) (plain Close ∷ []) rest))
      (row_of f (plain Close ∷ rest) (refl, refl)))
  operand_of (u_negated u) rest h = Operand.negated refl (operand_of u rest h)

  wide_of : (w : Wide) (rest : List Lexeme) → Ends rest → Operand (spelled_wide w ++ rest) (meant_wide w) rest
  wide_of (binding q f) rest h = binding_of q (spelled_formula f ++ rest) rest (meant_operands f) (row_of f rest h) q.universal refl
  wide_of (negated_wide w) rest h = Operand.negated refl (wide_of w rest h)

  pub row_of : (f : Formula) (rest : List Lexeme) → Ends rest → Row (spelled_formula f ++ rest) (meant_operands f) rest
  row_of (last u) rest h = Row.row (operand_of u rest h.0) (Tail.ends h.1)
  row_of (last_wide w) rest h = Row.row (wide_of w rest h) (Tail.ends h.1)
  row_of (more u op f) rest h =
      let after = plain (spelled_connective op) ∷ (spelled_formula f ++ rest) in
      subst (λ (xs : List Lexeme). Row xs (chain (meant_operand u) op (meant_operands f)) rest)
      (sym (append_assoc (spelled_operand u) (plain (spelled_connective op) ∷ spelled_formula f) rest))
      (Row.row (operand_of u after (connective_ends op))
      (tail_of_row op after rest (meant_operand u) (meant_operands f) (connective_is op) (row_of f rest h)))

parameters_of : (ws : List Word) (rest : List Lexeme) → is_quoted (next rest) ≡ false → Parameters (map quoted ws ++ rest) ws rest
parameters_of [] rest e = Parameters.ends e
parameters_of (w ∷ ws) rest e = Parameters.goes_on refl (parameters_of ws rest e)

macro_form : {Y : Type 0} (p f r : List Y) (c d : Y) → (p ++ c ∷ (f ++ d ∷ [])) ++ r ≡ p ++ c ∷ (f ++ d ∷ r)
macro_form p f r c d = simp append_assoc

pub items_made : (is : List ItemText) → Items (spelled_model is) (stages_of is) (items_of is)
items_made [] = Items.ends refl
items_made (stage_text s ∷ is) = Items.goes_on (Item.stage refl) (items_made is)
items_made (axiom_item at label f ∷ is) =
    let rest = plain Dot ∷ spelled_model is in
    let row = subst (λ (xs : List Lexeme). Row xs (meant_operands f) rest) (sym (append_assoc (spelled_formula f) (plain Dot ∷ []) (spelled_model is)))
    (row_of f rest (refl, refl)) in
    Items.goes_on {ss = []} {others = stages_of is} {is = axiom_ at (formula_of (meant_operands f)) ∷ []} {more = items_of is}
    (Item.axiom_line refl row) (items_made is)
items_made (macro name parameters f ∷ is) =
    let rest = plain Dot ∷ spelled_model is in
    let form = macro_form (map quoted parameters) (spelled_formula f) (spelled_model is) (plain Colon) (plain Dot) in
    let between = plain Colon ∷ (spelled_formula f ++ rest) in
    let words = subst (λ (xs : List Lexeme). Parameters xs parameters between) (sym form) (parameters_of parameters between refl) in
    Items.goes_on {ss = []} {others = stages_of is} {is = macro_ (record { name = name; parameters = parameters; body = formula_of (meant_operands f) }) ∷ []}
    {more = items_of is} (Item.macro refl words (row_of f rest (refl, refl))) (items_made is)
