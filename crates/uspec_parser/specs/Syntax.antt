-- The grammar of models, production by production: each is a constructor, `spelled_..` gives its lexemes and `meant_..`
-- its tree. Nothing here says how a text is read.
use Rattle.std.specs.Prelude.{◌≡◌, ℕ, Bool, true, false, List, [], ◌∷◌, ◌++◌, Option, Some, None, map}
use Rattle.pc_common.specs.declared.place.Place.{Place}
use Rattle.pc_syntax.specs.declared.term.{Sort.{Sort, TheVariants.{Microop as microop, Core as core}}, Word.{Word}, Arg.{Arg}}
use Rattle.pc_syntax.specs.declared.term.{Arg.TheVariants.{Word as word_arg, Number as number_arg}, NodeTerm.{NodeTerm}, EdgeTerm.{EdgeTerm}}
use Rattle.pc_syntax.specs.declared.model.StageItem.{StageItem}
use Rattle.pc_syntax.specs.Written.{Written, not_, forall_, exists_, static_, nodes_, edges_, expand_, WrittenItem, axiom_, macro_, WrittenModel}
use Rattle.uspec_lexer.specs.Token.{Token}
use Rattle.uspec_parser.specs.{Terminals.{Lexeme, plain, placed, name_, quoted, number_, lexeme}, declared.operands.Connective.{Connective}}
use Rattle.uspec_parser.specs.declared.{operands.Connective.TheVariants.{And as conjoins, Or as disjoins, Implies as implies}, terminal.Terminal.{Terminal}}
use Rattle.uspec_parser.specs.declared.terminal.Terminal.TheVariants.{StageName, Axiom, DefineMacro, ExpandMacro, Forall, Exists, Microop, Core, OneEdge, EdgeList, OneNode, NodeList, Text, Open, Close, OpenBracket, CloseBracket, Comma, Semicolon, Colon, Dot, Not, And, Or, Implies}
use Rattle.uspec_parser.specs.Operands.{Operands, only, chain, formula_of}

-- arg = NAME | NUMBER
abbrev pub spelled_arg : Arg → Lexeme
spelled_arg (word_arg w) = name_ w
spelled_arg (number_arg n at) = number_ n at

-- loc = NAME | "(" arg "," NAME ")"
abbrev pub spelled_location : Option Arg → Word → List Lexeme
spelled_location None stage = name_ stage ∷ []
spelled_location (Some c) stage = plain Open ∷ spelled_arg c ∷ plain Comma ∷ name_ stage ∷ plain Close ∷ []

-- node = "(" NAME "," loc ")"
abbrev pub spelled_node : NodeTerm → List Lexeme
spelled_node n = plain Open ∷ name_ n.op ∷ plain Comma ∷ (spelled_location n.core n.stage ++ plain Close ∷ [])

-- TEXT: any text, whose content may be a name that is not reserved
pub data Label : Type 0 where
  named : Word → Label
  other : Label

abbrev pub spelled_label : Label → Lexeme
spelled_label (named w) = quoted w
spelled_label other = plain Text

-- [ "," TEXT [ "," TEXT ] ]
pub data Labels : Type 0 where
  unlabelled : Labels
  labelled : Label → Labels
  coloured : Label → Label → Labels

abbrev pub spelled_labels : Labels → List Lexeme
spelled_labels unlabelled = []
spelled_labels (labelled l) = plain Comma ∷ spelled_label l ∷ []
spelled_labels (coloured l c) = plain Comma ∷ spelled_label l ∷ plain Comma ∷ spelled_label c ∷ []

-- edge = "(" node "," node [ "," TEXT [ "," TEXT ] ] ")"
pub record Edge : Type 0 where
  pub term : EdgeTerm
  pub labels : Labels

abbrev pub spelled_edge : Edge → List Lexeme
spelled_edge e =
    plain Open ∷ (spelled_node e.term.from ++ plain Comma ∷
    (spelled_node e.term.to ++ (spelled_labels e.labels ++ plain Close ∷ [])))

-- list = "[" "]" | "[" x (";" x)* [";"] "]"
pub data Listing (X : Type 0) : Type 0 where
  empty : Listing X
  -- the first, the others, and whether a ";" stands after the last
  some : X → List X → Bool → Listing X

-- what stands after an element, up to the "]"
abbrev pub spelled_others : {X : Type 0} → (X → List Lexeme) → List X → Bool → List Lexeme
spelled_others spelled [] false = plain CloseBracket ∷ []
spelled_others spelled [] true = plain Semicolon ∷ plain CloseBracket ∷ []
spelled_others spelled (x ∷ xs) trailing = plain Semicolon ∷ (spelled x ++ spelled_others spelled xs trailing)

-- what stands after the "["
abbrev pub spelled_elements : {X : Type 0} → (X → List Lexeme) → Listing X → List Lexeme
spelled_elements spelled empty = plain CloseBracket ∷ []
spelled_elements spelled (some x xs trailing) = spelled x ++ spelled_others spelled xs trailing

abbrev pub elements : {X : Type 0} → Listing X → List X
elements empty = []
elements (some x xs trailing) = x ∷ xs

-- atom = (AddEdge | EdgeExists) edge | NodeExists node
--      | (AddEdges | EdgesExist) list of edge | NodesExist list of node
--      | ExpandMacro NAME arg* | NAME arg*
pub data Atom : Type 0 where
  one_edge : Edge → Atom
  one_node : NodeTerm → Atom
  edge_list : Listing Edge → Atom
  node_list : Listing NodeTerm → Atom
  expand : Place → Word → List Arg → Atom
  predicate : Word → List Arg → Atom

abbrev pub spelled_atom : Atom → List Lexeme
spelled_atom (one_edge e) = plain OneEdge ∷ spelled_edge e
spelled_atom (one_node n) = plain OneNode ∷ spelled_node n
spelled_atom (edge_list es) = plain EdgeList ∷ plain OpenBracket ∷ spelled_elements spelled_edge es
spelled_atom (node_list ns) = plain NodeList ∷ plain OpenBracket ∷ spelled_elements spelled_node ns
spelled_atom (expand at name args) = placed ExpandMacro at ∷ name_ name ∷ map spelled_arg args
spelled_atom (predicate name args) = name_ name ∷ map spelled_arg args

abbrev pub meant_atom : Atom → Written
meant_atom (one_edge e) = edges_ (e.term ∷ [])
meant_atom (one_node n) = nodes_ (n ∷ [])
meant_atom (edge_list es) = edges_ (map (λ (e : Edge). e.term) (elements es))
meant_atom (node_list ns) = nodes_ (elements ns)
meant_atom (expand at name args) = expand_ at name args
meant_atom (predicate name args) = static_ name args

-- q = (forall | exists) (microop | microops | core | cores) NTEXT ","
pub record Quantifier : Type 0 where
  pub universal : Bool
  pub at : Place
  pub sort : Sort
  pub bound : Word

abbrev pub spelled_sort : Sort → Terminal
spelled_sort microop = Microop
spelled_sort core = Core

abbrev pub spelled_quantifier_word : Bool → Terminal
spelled_quantifier_word true = Forall
spelled_quantifier_word false = Exists

abbrev pub spelled_quantifier : Quantifier → List Lexeme
spelled_quantifier q =
    placed (spelled_quantifier_word q.universal) q.at ∷ plain (spelled_sort q.sort) ∷ quoted q.bound ∷ plain Comma ∷ []

abbrev pub quantified : Bool → Place → Sort → List ℕ → Written → Written
quantified true at sort name body = forall_ at sort name body
quantified false at sort name body = exists_ at sort name body

-- op = "/\" | "\/" | "=>"
abbrev pub spelled_connective : Connective → Terminal
spelled_connective conjoins = And
spelled_connective disjoins = Or
spelled_connective implies = Implies

-- f = (u op)* (u | w)      u = atom | "(" f ")" | "~" u      w = q f | "~" w
mutual
  pub data Formula : Type 0 where
    last : Operand → Formula
    last_wide : Wide → Formula
    more : Operand → Connective → Formula → Formula

  pub data Operand : Type 0 where
    atom : Atom → Operand
    bracketed : Formula → Operand
    negated : Operand → Operand

  pub data Wide : Type 0 where
    binding : Quantifier → Formula → Wide
    negated_wide : Wide → Wide

abbrev mutual
  pub spelled_formula : Formula → List Lexeme
  spelled_formula (last u) = spelled_operand u
  spelled_formula (last_wide w) = spelled_wide w
  spelled_formula (more u op f) = spelled_operand u ++ plain (spelled_connective op) ∷ spelled_formula f

  pub spelled_operand : Operand → List Lexeme
  spelled_operand (atom a) = spelled_atom a
  spelled_operand (bracketed f) = plain Open ∷ (spelled_formula f ++ plain Close ∷ [])
  spelled_operand (negated u) = plain Not ∷ spelled_operand u

  pub spelled_wide : Wide → List Lexeme
  spelled_wide (binding q f) = spelled_quantifier q ++ spelled_formula f
  spelled_wide (negated_wide w) = plain Not ∷ spelled_wide w

-- brackets leave no trace; a list of operands is grouped
abbrev mutual
  pub meant_operands : Formula → Operands
  meant_operands (last u) = only (meant_operand u)
  meant_operands (last_wide w) = only (meant_wide w)
  meant_operands (more u op f) = chain (meant_operand u) op (meant_operands f)

  pub meant_operand : Operand → Written
  meant_operand (atom a) = meant_atom a
  meant_operand (bracketed f) = formula_of (meant_operands f)
  meant_operand (negated u) = not_ (meant_operand u)

  pub meant_wide : Wide → Written
  meant_wide (binding q f) = quantified q.universal q.at q.sort q.bound.name (formula_of (meant_operands f))
  meant_wide (negated_wide w) = not_ (meant_wide w)

abbrev pub meant_formula : Formula → Written
meant_formula f = formula_of (meant_operands f)

-- item = StageName NUMBER NTEXT "."
--      | Axiom TEXT ":" f "."
--      | DefineMacro NTEXT NTEXT* ":" f "."
pub data Item : Type 0 where
  stage : StageItem → Item
  axiom_item : Place → Label → Formula → Item
  macro : Word → List Word → Formula → Item

abbrev pub spelled_item : Item → List Lexeme
spelled_item (stage s) = plain StageName ∷ number_ s.number s.number_at ∷ quoted s.name ∷ plain Dot ∷ []
spelled_item (axiom_item at label f) =
    placed Axiom at ∷ spelled_label label ∷ plain Colon ∷ (spelled_formula f ++ plain Dot ∷ [])
spelled_item (macro name parameters f) =
    plain DefineMacro ∷ quoted name ∷ (map quoted parameters ++ plain Colon ∷ (spelled_formula f ++ plain Dot ∷ []))

-- model = item*
abbrev pub spelled_model : List Item → List Lexeme
spelled_model [] = []
spelled_model (i ∷ is) = spelled_item i ++ spelled_model is

abbrev pub stages_of : List Item → List StageItem
stages_of [] = []
stages_of (stage s ∷ is) = s ∷ stages_of is
stages_of (_ ∷ is) = stages_of is

abbrev pub items_of : List Item → List WrittenItem
items_of [] = []
items_of (stage s ∷ is) = items_of is
items_of (axiom_item at label f ∷ is) = axiom_ at (meant_formula f) ∷ items_of is
items_of (macro name parameters f ∷ is) =
    macro_ (record { name = name; parameters = parameters; body = meant_formula f }) ∷ items_of is

abbrev pub meant_model : List Item → WrittenModel
meant_model is = record { stages = stages_of is; items = items_of is }

-- The tokens are a text of the grammar, and the tree is what it means.
abbrev pub DerivesModel : List Token → WrittenModel → Type 0
DerivesModel tokens m = (items : List Item) × (map lexeme tokens ≡ spelled_model items) × (m ≡ meant_model items)

abbrev pub DerivesFormula : List Token → Written → Type 0
DerivesFormula tokens w = (f : Formula) × (map lexeme tokens ≡ spelled_formula f) × (w ≡ meant_formula f)
