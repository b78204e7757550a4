-- Macros in the text's order, of which each may name the earlier ones.
use Rattle.std.specs.Prelude.{◌≡◌, ℕ, suc, List, [], ◌∷◌, ◌++◌, Option, Some, None, length, map, take, reverse, option_map, if◌then◌else◌}
use Rattle.std.specs.{List.{fold, flat_map}, Borrow.{Bor}}
use Rattle.pc_common.specs.{declared.place.Place.{Place}, Names.{same_name}}
use Rattle.pc_syntax.specs.declared.{term.Word.{Word}, formula.Formula.{Formula}, model.Item.{Item}, expanded.Expanded.{Expanded}}
use Rattle.pc_syntax.specs.{Written.{Written, written, written_item, MacroAt, WrittenItem, axiom_, macro_}, Observable.{axiom_of}, Expansion.{expansion_of}}
use Rattle.pc_syntax.specs.{Fault.{Fault}, MacroFaults.{macro_with_name, word_with_name, body_fault, macro_fault}}
use Rattle.macro_expand.specs.declared.macros.Macro.{Macro}

-- the macro that a name calls, with those that its body may name; macros are listed latest first
abbrev pub callee_of : List MacroAt → List ℕ → Option (MacroAt × List MacroAt)
callee_of [] name = None
callee_of (m ∷ ms) name = if same_name m.name.name name then Some (m, ms) else callee_of ms name

-- the first n macros, latest first
abbrev pub before : List MacroAt → ℕ → List MacroAt
before ms n = reverse (take n ms)

-- one more macro, unless an earlier one has its name
abbrev pub with_macro : List MacroAt → MacroAt → List MacroAt
with_macro ms m = elim (macro_with_name ms m.name.name) [ None ↦ ms ++ m ∷ [] | Some first ↦ ms ]

-- of macros of one name the first
abbrev pub first_of_names : List MacroAt → List MacroAt
first_of_names ms = fold with_macro [] ms

-- no macro has the name of an earlier one
abbrev pub AreNew : List MacroAt → Type 0
AreNew [] = Unit {0}
AreNew (m ∷ ms) = (macro_with_name ms m.name.name ≡ None) × AreNew ms

-- the macro of these parts
abbrev pub macro_from : Word → List Word → Formula → MacroAt
macro_from name parameters body = record { name = name; parameters = parameters; body = written body }

abbrev pub macro_at : Macro → MacroAt
macro_at m = macro_from m.name.now m.parameters.now m.body.now

abbrev pub plain_macros : List Macro → List MacroAt
plain_macros ms = map macro_at ms

-- the expansion of a formula that may name the first n macros of a table
abbrev pub expansion_by : List Macro → ℕ → Written → Written
expansion_by table n w = expansion_of (before (plain_macros table) n) w

-- of one that may name all of them
abbrev pub expansion_by_all : List Macro → Written → Written
expansion_by_all table w = expansion_by table (length table) w

-- these are the expansions of the axioms among the items, in order
abbrev pub AreAxiomsExpanded : List Macro → List Item → List Expanded → Type 0
AreAxiomsExpanded table items es =
    map (λ e. written e.body) es ≡ map (expansion_by_all table) (flat_map axiom_of (map written_item items))

-- the entries from the n-th on: each is kept under its own name and with its own number
abbrev pub AreNumbered : ℕ → List (Bor (List ℕ) × Macro) → Type 0
AreNumbered n [] = Unit {0}
AreNumbered n (e ∷ es) = (e.0.now ≡ e.1.name.now.name) × (e.1.number ≡ n) × AreNumbered (suc n) es

-- a name with its place
abbrev pub word_at : Bor (List ℕ) × Place → Word
word_at e = record { name = e.0.now; at = e.1 }

-- no word had this one's name, and it is the last one now
abbrev pub IsNewWord : (old : List Word) → Word → (new : List Word) → Type 0
IsNewWord old word new = (word_with_name old word.name ≡ None) × (new ≡ old ++ word ∷ [])

-- the word that had its name stands here
abbrev pub IsSeenAt : List Word → Word → Place → Type 0
IsSeenAt words word at = option_map (λ w. w.at) (word_with_name words word.name) ≡ Some at

-- the macro fault of an item, where `ms` are the file's macros and the first n are before it
abbrev pub item_fault : List MacroAt → ℕ → WrittenItem → Option Fault
item_fault ms n (axiom_ at body) = body_fault (before ms (length ms)) body
item_fault ms n (macro_ m) = macro_fault (before ms n) m

-- P holds of an axiom's body
abbrev pub OfAxiom : (Written → Type 0) → WrittenItem → Type 0
OfAxiom P (axiom_ at body) = P body
OfAxiom P (macro_ m) = Unit {0}
