-- Each step of the descent leaves fewer lexemes.
use Rattle.std.proofs.Common.{◌≡◌, ◌<◌, ◌≤◌, true, List, [], ◌∷◌, Some, length, ap, arith}
use Rattle.pc_syntax.specs.{declared.{term.{Arg.{Arg}, Word.{Word}}, model.StageItem.{StageItem}}, Written.{Written, WrittenItem}}
use Rattle.uspec_parser.specs.declared.{operands.Connective.{Connective}, terminal.Terminal.{Terminal}}
use Rattle.uspec_parser.specs.declared.terminal.Terminal.TheVariants.{Open, Comma, Semicolon, OneEdge, OneNode, EdgeList, NodeList, ExpandMacro}
use Rattle.uspec_parser.specs.{Operands.{Operands}, Terminals.{Lexeme}}
use Rattle.uspec_parser.specs.Descent.{next, behind, behind_location_by, behind_node, behind_label_by, behind_label, behind_edge, behind_semicolon_by, behind_semicolon, Arguments, Elements, node, edge, Atom, connective, Operand, Row, Tail, Parameters, begins_item, Item}

pub behind_no_longer : (xs : List Lexeme) → length (behind xs) ≤ length xs
behind_no_longer [] = omega arith
behind_no_longer (x ∷ xs) = omega arith

pub behind_open : (xs : List Lexeme) → next xs ≡ Open → length (behind xs) < length xs
behind_open [] e = absurd (cc)
behind_open (x ∷ xs) e = omega arith

location_no_longer : (t : Terminal) (xs : List Lexeme) → length (behind_location_by t xs) ≤ length xs
location_no_longer Open xs =
    omega (
      arith,
      behind_no_longer xs,
      behind_no_longer (behind xs),
      behind_no_longer (behind (behind xs)),
      behind_no_longer (behind (behind (behind xs))),
      behind_no_longer (behind (behind (behind (behind xs)))),
    )
location_no_longer _ xs = behind_no_longer xs

pub node_no_longer : (xs : List Lexeme) → length (behind_node xs) ≤ length (behind xs)
node_no_longer xs =
    let location = behind (behind (behind xs)) in
    omega (
      arith,
      behind_no_longer (behind xs),
      behind_no_longer (behind (behind xs)),
      location_no_longer (next location) location,
      behind_no_longer (behind_location_by (next location) location),
    )

label_by_no_longer : (t : Terminal) (xs : List Lexeme) → length (behind_label_by t xs) ≤ length xs
label_by_no_longer Comma xs = omega (arith, behind_no_longer xs, behind_no_longer (behind xs))
label_by_no_longer _ xs = omega arith

pub edge_no_longer : (xs : List Lexeme) → length (behind_edge xs) ≤ length (behind xs)
edge_no_longer xs =
    let from = behind_node (behind xs) in
    let to = behind_node (behind from) in
    omega (
      arith,
      node_no_longer (behind xs),
      behind_no_longer (behind xs),
      node_no_longer (behind from),
      behind_no_longer (behind from),
      behind_no_longer from,
      label_by_no_longer (next to) to,
      label_by_no_longer (next (behind_label to)) (behind_label to),
      behind_no_longer (behind_label (behind_label to)),
    )

semicolon_by_no_longer : (t : Terminal) (xs : List Lexeme) → length (behind_semicolon_by t xs) ≤ length xs
semicolon_by_no_longer Semicolon xs = behind_no_longer xs
semicolon_by_no_longer _ xs = omega arith

pub semicolon_no_longer : (xs : List Lexeme) → length (behind_semicolon xs) ≤ length xs
semicolon_no_longer xs = semicolon_by_no_longer (next xs) xs

pub arguments_no_longer : {xs rest : List Lexeme} {args : List Arg} → Arguments xs args rest → length rest ≤ length xs
arguments_no_longer (Arguments.ends e) = omega arith
arguments_no_longer {xs} (Arguments.goes_on e more) = omega (arith, arguments_no_longer more, behind_no_longer xs)

pub elements_no_longer : {X : Type 0} (one : List Lexeme → X) (behind_one : List Lexeme → List Lexeme)
    → ((xs : List Lexeme) → length (behind_one xs) ≤ length (behind xs))
    → {xs rest : List Lexeme} {es : List X} → Elements one behind_one xs es rest → length rest ≤ length xs
elements_no_longer one behind_one shorter {xs} (Elements.ends e) = behind_no_longer xs
elements_no_longer one behind_one shorter {xs} (Elements.goes_on e more) =
    omega (arith, elements_no_longer one behind_one shorter more, semicolon_no_longer (behind_one xs), shorter xs, behind_no_longer xs)

atom_no_longer : (t : Terminal) (xs : List Lexeme) (w : Written) (rest : List Lexeme) → Atom t xs w rest → length rest ≤ length xs
atom_no_longer OneEdge xs w rest a =
    let same = ap length a.1 in omega (arith, edge_no_longer (behind xs), behind_no_longer xs, behind_no_longer (behind xs))
atom_no_longer OneNode xs w rest a =
    let same = ap length a.1 in omega (arith, node_no_longer (behind xs), behind_no_longer xs, behind_no_longer (behind xs))
atom_no_longer EdgeList xs w rest a =
    omega (arith, elements_no_longer edge behind_edge edge_no_longer a.1, behind_no_longer xs, behind_no_longer (behind xs))
atom_no_longer NodeList xs w rest a =
    omega (arith, elements_no_longer node behind_node node_no_longer a.1, behind_no_longer xs, behind_no_longer (behind xs))
atom_no_longer ExpandMacro xs w rest a =
    omega (arith, arguments_no_longer a.1, behind_no_longer xs, behind_no_longer (behind xs))
atom_no_longer _ xs w rest a = omega (arith, arguments_no_longer a.1, behind_no_longer xs)

mutual
  pub operand_no_longer : {xs rest : List Lexeme} {w : Written} → Operand xs w rest → length rest ≤ length xs
  operand_no_longer {xs} (Operand.negated e u) = omega (arith, operand_no_longer u, behind_no_longer xs)
  operand_no_longer {xs} (Operand.bracketed {rest = rest} e r) = omega (arith, row_no_longer r, behind_no_longer xs, behind_no_longer rest)
  operand_no_longer {xs} (Operand.bound universal e r) =
      omega (
        arith,
        row_no_longer r,
        behind_no_longer xs,
        behind_no_longer (behind xs),
        behind_no_longer (behind (behind xs)),
        behind_no_longer (behind (behind (behind xs))),
      )
  operand_no_longer {xs} {rest} {w} (Operand.atom e a) = atom_no_longer (next xs) xs w rest a

  row_no_longer : {xs rest : List Lexeme} {l : Operands} → Row xs l rest → length rest ≤ length xs
  row_no_longer (Row.row u t) = omega (arith, operand_no_longer u, tail_no_longer t)

  tail_no_longer : {xs rest : List Lexeme} {w : Written} {l : Operands} → Tail xs w l rest → length rest ≤ length xs
  tail_no_longer (Tail.ends e) = omega arith
  tail_no_longer {xs} (Tail.goes_on op e u t) = omega (arith, operand_no_longer u, tail_no_longer t, behind_no_longer xs)

pub behind_connective : (xs : List Lexeme) (op : Connective) → connective (next xs) ≡ Some op → length (behind xs) < length xs
behind_connective [] op e = absurd (cc)
behind_connective (x ∷ xs) op e = omega arith

pub parameters_no_longer : {xs rest : List Lexeme} {ws : List Word} → Parameters xs ws rest → length rest ≤ length xs
parameters_no_longer (Parameters.ends e) = omega arith
parameters_no_longer {xs} (Parameters.goes_on e more) = omega (arith, parameters_no_longer more, behind_no_longer xs)

behind_item : (xs : List Lexeme) → begins_item (next xs) ≡ true → length (behind xs) < length xs
behind_item [] e = absurd (cc)
behind_item (x ∷ xs) e = omega arith

-- an item takes a lexeme at least
pub item_shorter : {xs rest : List Lexeme} {ss : List StageItem} {is : List WrittenItem} → begins_item (next xs) ≡ true
    → Item xs ss is rest → length rest < length xs
item_shorter {xs} e (Item.stage f) =
    omega (arith, behind_item xs e, behind_no_longer (behind xs), behind_no_longer (behind (behind xs)), behind_no_longer (behind (behind (behind xs))))
item_shorter {xs} e (Item.axiom_line {rest = rest} f r) =
    omega (arith, behind_item xs e, behind_no_longer (behind xs), behind_no_longer (behind (behind xs)), row_no_longer r, behind_no_longer rest)
item_shorter {xs} e (Item.macro {between = between} {rest = rest} f p r) =
    omega (arith, behind_item xs e, behind_no_longer (behind xs), parameters_no_longer p, behind_no_longer between, row_no_longer r, behind_no_longer rest)
