-- What the descent that builds the tree makes of lexemes, of which the first is read next. It looks for no fault: of
-- lexemes that are no text it makes something too. Only private functions are described by it.
use Rattle.std.specs.Prelude.{◌≡◌, ◌≢◌, ℕ, zero, suc, Bool, true, false, List, [], ◌∷◌, ◌++◌, Option, Some, None}
use Rattle.pc_common.specs.declared.place.Place.{Place}
use Rattle.pc_syntax.specs.declared.term.{Sort.{Sort, TheVariants.{Microop as microop, Core as core}}, Word.{Word}, Arg.{Arg}}
use Rattle.pc_syntax.specs.declared.term.{Arg.TheVariants.{Word as word_arg, Number as number_arg}, NodeTerm.{NodeTerm}, EdgeTerm.{EdgeTerm}}
use Rattle.pc_syntax.specs.{declared.model.StageItem.{StageItem}, Written.{Written, not_, static_, nodes_, edges_, expand_, WrittenItem, axiom_, macro_}}
use Rattle.uspec_parser.specs.{Terminals.{Lexeme, placed, name_, quoted, number_, terminal}, declared.operands.Connective.{Connective}}
use Rattle.uspec_parser.specs.declared.{operands.Connective.TheVariants.{And as conjoins, Or as disjoins, Implies as implies}, terminal.Terminal.{Terminal}}
use Rattle.uspec_parser.specs.declared.terminal.Terminal.TheVariants.{StageName, Axiom, DefineMacro, ExpandMacro, Forall, Exists, Core, OneEdge, EdgeList, OneNode, NodeList, Name, Number, Quoted, Open, Comma, Semicolon, Not, And, Or, Implies, Arrow}
use Rattle.uspec_parser.specs.{Operands.{Operands, only, chain, formula_of}, Syntax.{quantified}}

-- the first terminal; after the end the one that no text has
abbrev pub next : List Lexeme → Terminal
next [] = Arrow
next (x ∷ xs) = terminal x

abbrev pub behind : List Lexeme → List Lexeme
behind [] = []
behind (x ∷ xs) = xs

-- what stands behind this many
abbrev pub after_tokens : ℕ → List Lexeme → List Lexeme
after_tokens zero xs = xs
after_tokens (suc k) xs = after_tokens k (behind xs)

abbrev pub nowhere : Place
nowhere = record { offset = 0 }

-- the word of a first lexeme that has one, else an empty one
abbrev pub word_in : Lexeme → Word
word_in (name_ w) = w
word_in (quoted w) = w
word_in _ = record { name = []; at = nowhere }

abbrev pub word : List Lexeme → Word
word [] = record { name = []; at = nowhere }
word (x ∷ xs) = word_in x

abbrev pub place_in : Lexeme → Place
place_in (placed t at) = at
place_in _ = nowhere

abbrev pub place : List Lexeme → Place
place [] = nowhere
place (x ∷ xs) = place_in x

abbrev pub number_in : Lexeme → ℕ
number_in (number_ n at) = n
number_in _ = 0

abbrev pub number_place_in : Lexeme → Place
number_place_in (number_ n at) = at
number_place_in _ = nowhere

abbrev pub number : List Lexeme → ℕ
number [] = 0
number (x ∷ xs) = number_in x

abbrev pub number_place : List Lexeme → Place
number_place [] = nowhere
number_place (x ∷ xs) = number_place_in x

abbrev pub argument_by : Terminal → List Lexeme → Arg
argument_by Number xs = number_arg (number xs) (number_place xs)
argument_by _ xs = word_arg (word xs)

abbrev pub argument : List Lexeme → Arg
argument xs = argument_by (next xs) xs

abbrev pub begins_argument : Terminal → Bool
begins_argument Name = true
begins_argument Number = true
begins_argument _ = false

-- arguments up to the first lexeme that is none
pub data Arguments : List Lexeme → List Arg → List Lexeme → Type 0 where
  ends : {xs : List Lexeme} → begins_argument (next xs) ≡ false → Arguments xs [] xs
  goes_on : {xs rest : List Lexeme} {args : List Arg} → begins_argument (next xs) ≡ true
      → Arguments (behind xs) args rest
      → Arguments xs (argument xs ∷ args) rest

abbrev pub core_by : Terminal → List Lexeme → Option Arg
core_by Open xs = Some (argument (behind xs))
core_by _ xs = None

abbrev pub stage_by : Terminal → List Lexeme → Word
stage_by Open xs = word (behind (behind (behind xs)))
stage_by _ xs = word xs

abbrev pub behind_location_by : Terminal → List Lexeme → List Lexeme
behind_location_by Open xs = behind (behind (behind (behind (behind xs))))
behind_location_by _ xs = behind xs

abbrev pub node : List Lexeme → NodeTerm
node xs =
    let location = behind (behind (behind xs)) in
    record {
      op = word (behind xs);
      core = core_by (next location) location;
      stage = stage_by (next location) location;
    }

abbrev pub behind_node : List Lexeme → List Lexeme
behind_node xs = let location = behind (behind (behind xs)) in behind (behind_location_by (next location) location)

abbrev pub behind_label_by : Terminal → List Lexeme → List Lexeme
behind_label_by Comma xs = behind (behind xs)
behind_label_by _ xs = xs

abbrev pub behind_label : List Lexeme → List Lexeme
behind_label xs = behind_label_by (next xs) xs

abbrev pub edge : List Lexeme → EdgeTerm
edge xs = record { from = node (behind xs); to = node (behind (behind_node (behind xs))) }

abbrev pub behind_edge : List Lexeme → List Lexeme
behind_edge xs = behind (behind_label (behind_label (behind_node (behind (behind_node (behind xs))))))

abbrev pub behind_semicolon_by : Terminal → List Lexeme → List Lexeme
behind_semicolon_by Semicolon xs = behind xs
behind_semicolon_by _ xs = xs

abbrev pub behind_semicolon : List Lexeme → List Lexeme
behind_semicolon xs = behind_semicolon_by (next xs) xs

-- elements up to the first lexeme that begins none
pub data Elements {X : Type 0} (one : List Lexeme → X) (behind_one : List Lexeme → List Lexeme) : List Lexeme → List X
    → List Lexeme → Type 0 where
  ends : {xs : List Lexeme} → next xs ≢ Open → Elements one behind_one xs [] (behind xs)
  goes_on : {xs rest : List Lexeme} {es : List X} → next xs ≡ Open
      → Elements one behind_one (behind_semicolon (behind_one xs)) es rest
      → Elements one behind_one xs (one xs ∷ es) rest

-- an atom, by its first terminal
abbrev pub Atom : Terminal → List Lexeme → Written → List Lexeme → Type 0
Atom OneEdge xs w rest = (w ≡ edges_ (edge (behind xs) ∷ [])) × (rest ≡ behind_edge (behind xs))
Atom OneNode xs w rest = (w ≡ nodes_ (node (behind xs) ∷ [])) × (rest ≡ behind_node (behind xs))
Atom EdgeList xs w rest = (es : List EdgeTerm) × Elements edge behind_edge (behind (behind xs)) es rest
    × (w ≡ edges_ es)
Atom NodeList xs w rest = (ns : List NodeTerm) × Elements node behind_node (behind (behind xs)) ns rest
    × (w ≡ nodes_ ns)
Atom ExpandMacro xs w rest =
    (args : List Arg) × Arguments (behind (behind xs)) args rest × (w ≡ expand_ (place xs) (word (behind xs)) args)
Atom _ xs w rest = (args : List Arg) × Arguments (behind xs) args rest × (w ≡ static_ (word xs) args)

-- what begins an operand
pub data Start : Type 0 where
  negation : Start
  bracket : Start
  -- `forall` or `exists`
  quantifier : Bool → Start
  no_opener : Start

abbrev pub start : Terminal → Start
start Not = negation
start Open = bracket
start Forall = quantifier true
start Exists = quantifier false
start _ = no_opener

abbrev pub sort_by : Terminal → Sort
sort_by Core = core
sort_by _ = microop

abbrev pub connective : Terminal → Option Connective
connective And = Some conjoins
connective Or = Some disjoins
connective Implies = Some implies
connective _ = None

mutual
  -- an operand; a quantifier's body reaches to its list's end
  pub data Operand : List Lexeme → Written → List Lexeme → Type 0 where
    negated : {xs rest : List Lexeme} {w : Written} → start (next xs) ≡ negation → Operand (behind xs) w rest
        → Operand xs (not_ w) rest
    bracketed : {xs rest : List Lexeme} {l : Operands} → start (next xs) ≡ bracket → Row (behind xs) l rest
        → Operand xs (formula_of l) (behind rest)
    bound : {xs rest : List Lexeme} {l : Operands} (universal : Bool) → start (next xs) ≡ quantifier universal
        → Row (behind (behind (behind (behind xs)))) l rest
        → Operand xs (quantified universal (place xs) (sort_by (next (behind xs))) (word (behind (behind xs))).name
        (formula_of l)) rest
    atom : {xs rest : List Lexeme} {w : Written} → start (next xs) ≡ no_opener → Atom (next xs) xs w rest
        → Operand xs w rest

  -- a list of operands
  pub data Row : List Lexeme → Operands → List Lexeme → Type 0 where
    row : {xs between rest : List Lexeme} {w : Written} {l : Operands} → Operand xs w between → Tail between w l rest
        → Row xs l rest

  -- the list from its operand `w` on, after which the lexemes begin
  pub data Tail : List Lexeme → Written → Operands → List Lexeme → Type 0 where
    ends : {xs : List Lexeme} {w : Written} → connective (next xs) ≡ None → Tail xs w (only w) xs
    goes_on : {xs between rest : List Lexeme} {w v : Written} {l : Operands} (op : Connective)
        → connective (next xs) ≡ Some op → Operand (behind xs) v between → Tail between v l rest
        → Tail xs w (chain w op l) rest

abbrev pub is_quoted : Terminal → Bool
is_quoted Quoted = true
is_quoted _ = false

-- a macro's parameters, up to the first lexeme that is none
pub data Parameters : List Lexeme → List Word → List Lexeme → Type 0 where
  ends : {xs : List Lexeme} → is_quoted (next xs) ≡ false → Parameters xs [] xs
  goes_on : {xs rest : List Lexeme} {ws : List Word} → is_quoted (next xs) ≡ true → Parameters (behind xs) ws rest
      → Parameters xs (word xs ∷ ws) rest

abbrev pub begins_item : Terminal → Bool
begins_item StageName = true
begins_item Axiom = true
begins_item DefineMacro = true
begins_item _ = false

abbrev pub stage_item : List Lexeme → StageItem
stage_item xs =
    record { number = number (behind xs); number_at = number_place (behind xs); name = word (behind (behind xs)) }

abbrev pub macro_item : List Lexeme → List Word → Operands → WrittenItem
macro_item xs ws l = macro_ (record { name = word (behind xs); parameters = ws; body = formula_of l })

-- what one item adds to the stages, and what to the axioms and macros
pub data Item : List Lexeme → List StageItem → List WrittenItem → List Lexeme → Type 0 where
  stage : {xs : List Lexeme} → next xs ≡ StageName
      → Item xs (stage_item xs ∷ []) [] (behind (behind (behind (behind xs))))
  axiom_line : {xs rest : List Lexeme} {l : Operands} → next xs ≡ Axiom → Row (behind (behind (behind xs))) l rest
      → Item xs [] (axiom_ (place xs) (formula_of l) ∷ []) (behind rest)
  macro : {xs between rest : List Lexeme} {ws : List Word} {l : Operands} → next xs ≡ DefineMacro
      → Parameters (behind (behind xs)) ws between → Row (behind between) l rest
      → Item xs [] (macro_item xs ws l ∷ []) (behind rest)

-- items up to the first lexeme that begins none
pub data Items : List Lexeme → List StageItem → List WrittenItem → Type 0 where
  ends : {xs : List Lexeme} → begins_item (next xs) ≡ false → Items xs [] []
  goes_on : {xs between : List Lexeme} {ss others : List StageItem} {is more : List WrittenItem}
      → Item xs ss is between
      → Items between others more → Items xs (ss ++ others) (is ++ more)
