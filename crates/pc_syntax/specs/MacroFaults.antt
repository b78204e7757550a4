-- The first fault of a model's macros. Items are walked in the text's order, in a macro its name, its
-- parameters, then its body.
use Rattle.std.specs.{Prelude.{ℕ, List, [], ◌∷◌, ◌++◌, Option, Some, None, length, ◌==◌, if◌then◌else◌, option_map}, Option.{option_or}}
use Rattle.pc_common.specs.{declared.fault.FaultKind.TheVariants.{MacroAgain, ParameterAgain, MacroUnknown, MacroArguments}, Names.{same_name}}
use Rattle.pc_syntax.specs.declared.term.{Word.{Word}, Arg.{Arg}}
use Rattle.pc_syntax.specs.Written.{Written, not_, and_, or_, implies_, forall_, exists_, static_, nodes_, edges_, expand_, bind_, MacroAt, WrittenItem, axiom_, macro_, WrittenModel}
use Rattle.pc_syntax.specs.{Observable.{macros_in_order}, Fault.{Fault}}

-- the first macro with this name
abbrev pub macro_with_name : List MacroAt → List ℕ → Option MacroAt
macro_with_name [] name = None
macro_with_name (m ∷ ms) name = if same_name m.name.name name then Some m else macro_with_name ms name

-- the first word with this name
abbrev pub word_with_name : List Word → List ℕ → Option Word
word_with_name [] name = None
word_with_name (w ∷ ws) name = if same_name w.name name then Some w else word_with_name ws name

-- an earlier macro has the name
abbrev pub macro_again : List MacroAt → Word → Option Fault
macro_again earlier name =
    option_map (λ m. (MacroAgain m.name.at name.at, name.at)) (macro_with_name earlier name.name)

-- the first parameter whose name is that of an earlier one
abbrev pub parameters_fault : List Word → List Word → Option Fault
parameters_fault earlier [] = None
parameters_fault earlier (w ∷ ws) =
    option_or
    (option_map (λ e. (ParameterAgain e.at w.at, w.at)) (word_with_name earlier w.name))
    (parameters_fault (earlier ++ w ∷ []) ws)

-- another number of arguments than parameters
abbrev pub count_fault : Word → List Arg → MacroAt → Option Fault
count_fault name args m =
    if length args == length m.parameters
    then None
    else Some (MacroArguments (length args) (length m.parameters), name.at)

-- the fault of an expansion, where these macros may be named
abbrev pub call_fault : List MacroAt → Word → List Arg → Option Fault
call_fault ms name args =
    elim (macro_with_name ms name.name) [ None ↦ Some (MacroUnknown, name.at) | Some m ↦ count_fault name args m ]

-- the first fault of the expansions in a formula, where these macros may be named
abbrev pub body_fault : List MacroAt → Written → Option Fault
body_fault ms (not_ p) = body_fault ms p
body_fault ms (and_ p q) = option_or (body_fault ms p) (body_fault ms q)
body_fault ms (or_ p q) = option_or (body_fault ms p) (body_fault ms q)
body_fault ms (implies_ p q) = option_or (body_fault ms p) (body_fault ms q)
body_fault ms (forall_ at sort name p) = body_fault ms p
body_fault ms (exists_ at sort name p) = body_fault ms p
body_fault ms (static_ pred args) = None
body_fault ms (nodes_ ts) = None
body_fault ms (edges_ ts) = None
body_fault ms (expand_ at name args) = call_fault ms name args
body_fault ms (bind_ at names args p) = body_fault ms p

-- the first fault of a macro, after the earlier ones
abbrev pub macro_fault : List MacroAt → MacroAt → Option Fault
macro_fault earlier m =
    option_or (macro_again earlier m.name) (option_or (parameters_fault [] m.parameters) (body_fault earlier m.body))

-- the first fault of a list of items, where an axiom may name any of `all`, a macro the earlier ones,
-- which are listed latest first
abbrev pub items_fault : List MacroAt → List MacroAt → List WrittenItem → Option Fault
items_fault all earlier [] = None
items_fault all earlier (axiom_ at body ∷ items) = option_or (body_fault all body) (items_fault all earlier items)
items_fault all earlier (macro_ m ∷ items) = option_or (macro_fault earlier m) (items_fault all (m ∷ earlier) items)

-- the first macro fault of a model. Of two macros of one name an axiom before the second names the first
abbrev pub first_macro_fault : WrittenModel → Option Fault
first_macro_fault m = items_fault (macros_in_order m) [] m.items
