-- The expansion of an axiom has no expansion left where the model has no macro fault.
use Rattle.std.proofs.Common.{◌≡◌, ℕ, Bool, true, false, List, [], ◌∷◌, ◌++◌, Option, Some, None, cond, reverse, refl, sym, ap, subst, option_map, if◌then◌else◌, ◌∙◌, append_assoc, append-nil, All}
use Rattle.std.{proofs.lemmas.{List.{reverse-append, reverse-reverse, Elements.{All-nil, All-cons}}, Slice.Eq.{bytes_eq-Decides}}, specs.List.{flat_map}}
use Rattle.std.specs.Option.{option_or}
use Rattle.pc_common.specs.{declared.fault.FaultKind.TheVariants.{MacroAgain, MacroUnknown}, Names.{same_name}}
use Rattle.pc_syntax.specs.declared.term.{Word.{Word}, Arg.{Arg}}
use Rattle.pc_syntax.specs.Written.{Written, not_, and_, or_, implies_, forall_, exists_, static_, nodes_, edges_, expand_, bind_, MacroAt, WrittenItem, axiom_, macro_, WrittenModel}
use Rattle.pc_syntax.specs.{Observable.{axiom_of, macro_of, axioms_of, macros_in_order, macros_of}, Expansion.{parameter_names, expansion_of, IsExpanded}}
use Rattle.pc_syntax.specs.Fault.{Fault}
use Rattle.pc_syntax.specs.MacroFaults.{macro_with_name, macro_again, parameters_fault, count_fault, body_fault, macro_fault, items_fault, first_macro_fault}
use Rattle.pc_syntax.proofs.NoFault.{none_first, none_second}

-- each macro's body names only macros before it
abbrev pub NamesEarlier : List MacroAt → Type 0
NamesEarlier [] = Unit {0}
NamesEarlier (m ∷ ms) = (body_fault ms m.body ≡ None) × NamesEarlier ms

chosen : (b : Bool) (m : MacroAt) (rest : Option MacroAt) (name : Word) (args : List Arg) (v w : Written)
    → IsExpanded v
    → (◌≡◌ {A = Option Fault} (elim rest [ None ↦ Some (MacroUnknown, name.at) | Some x ↦ count_fault name args x ]) None → IsExpanded w)
    → ◌≡◌ {A = Option Fault} (elim (cond b (Some m) rest) [ None ↦ Some (MacroUnknown, name.at) | Some x ↦ count_fault name args x ]) None
    → IsExpanded (cond b v w)
chosen true m rest name args v w here later f = here
chosen false m rest name args v w here later f = later f

pub expansion_expanded : (ms : List MacroAt) → NamesEarlier ms → (w : Written) → body_fault ms w ≡ None
    → IsExpanded (expansion_of ms w)
expansion_expanded ms earlier (not_ p) f = expansion_expanded ms earlier p f
expansion_expanded ms earlier (and_ p q) f = (
  expansion_expanded ms earlier p (none_first (body_fault ms p) (body_fault ms q) f),
  expansion_expanded ms earlier q (none_second (body_fault ms p) (body_fault ms q) f),
)
expansion_expanded ms earlier (or_ p q) f = (
  expansion_expanded ms earlier p (none_first (body_fault ms p) (body_fault ms q) f),
  expansion_expanded ms earlier q (none_second (body_fault ms p) (body_fault ms q) f),
)
expansion_expanded ms earlier (implies_ p q) f = (
  expansion_expanded ms earlier p (none_first (body_fault ms p) (body_fault ms q) f),
  expansion_expanded ms earlier q (none_second (body_fault ms p) (body_fault ms q) f),
)
expansion_expanded ms earlier (forall_ at sort name p) f = expansion_expanded ms earlier p f
expansion_expanded ms earlier (exists_ at sort name p) f = expansion_expanded ms earlier p f
expansion_expanded ms earlier (bind_ at names args p) f = expansion_expanded ms earlier p f
expansion_expanded [] earlier (expand_ at name args) f = absurd (cc)
expansion_expanded (m ∷ ms) earlier (expand_ at name args) f =
    chosen (same_name m.name.name name.name) m (macro_with_name ms name.name) name args
    (bind_ at (parameter_names m) args (expansion_of ms m.body))
    (expansion_of ms (expand_ at name args))
    (expansion_expanded ms earlier.1 m.body earlier.0)
    (λ later. expansion_expanded ms earlier.1 (expand_ at name args) later)
    f
expansion_expanded ms earlier w f = tt

-- the macros of these items, latest first, before the earlier ones
abbrev after : List MacroAt → List WrittenItem → List MacroAt
after earlier [] = earlier
after earlier (axiom_ at body ∷ items) = after earlier items
after earlier (macro_ m ∷ items) = after (m ∷ earlier) items

after-reverse : (earlier : List MacroAt) (items : List WrittenItem)
    → after earlier items ≡ reverse (flat_map macro_of items) ++ earlier
after-reverse earlier [] = refl
after-reverse earlier (axiom_ at body ∷ items) = after-reverse earlier items
after-reverse earlier (macro_ m ∷ items) =
    after-reverse (m ∷ earlier) items
    ∙ sym (append_assoc (reverse (flat_map macro_of items)) (m ∷ []) earlier)
    ∙ ap (λ xs. xs ++ earlier) (sym (reverse-append (m ∷ []) (flat_map macro_of items)))

after_names_earlier : (all earlier : List MacroAt) (items : List WrittenItem) → items_fault all earlier items ≡ None
    → NamesEarlier earlier → NamesEarlier (after earlier items)
after_names_earlier all earlier [] f h = h
after_names_earlier all earlier (axiom_ at body ∷ items) f h =
    after_names_earlier all earlier items (none_second (body_fault all body) (items_fault all earlier items) f) h
after_names_earlier all earlier (macro_ m ∷ items) f h =
    let rest = items_fault all (m ∷ earlier) items in
    let here = none_first (macro_fault earlier m) rest f in
    let body =
    none_second (parameters_fault [] m.parameters) (body_fault earlier m.body)
    (none_second (macro_again earlier m.name) (option_or (parameters_fault [] m.parameters) (body_fault earlier m.body)) here) in
    after_names_earlier all (m ∷ earlier) items (none_second (macro_fault earlier m) rest f) (body, h)

axioms_fine : (all earlier : List MacroAt) (items : List WrittenItem) → items_fault all earlier items ≡ None
    → All (λ w. body_fault all w ≡ None) (flat_map axiom_of items)
axioms_fine all earlier [] f = All-nil (λ w. body_fault all w ≡ None)
axioms_fine all earlier (axiom_ at body ∷ items) f =
    let rest = items_fault all earlier items in
    All-cons (λ w. body_fault all w ≡ None) body (flat_map axiom_of items) (none_first (body_fault all body) rest f)
    (axioms_fine all earlier items (none_second (body_fault all body) rest f))
axioms_fine all earlier (macro_ m ∷ items) f =
    axioms_fine all (m ∷ earlier) items (none_second (macro_fault earlier m) (items_fault all (m ∷ earlier) items) f)

-- no two macros have one name; each macro's body names only macros before it
abbrev pub NewNames : List MacroAt → Type 0
NewNames [] = Unit {0}
NewNames (m ∷ ms) = (macro_with_name ms m.name.name ≡ None) × NewNames ms

none_again : (o : Option MacroAt) (f : MacroAt → Fault) → option_map f o ≡ None → o ≡ None
none_again None f h = refl
none_again (Some m) f h = cc

after_new_names : (all earlier : List MacroAt) (items : List WrittenItem) → items_fault all earlier items ≡ None
    → NewNames earlier → NewNames (after earlier items)
after_new_names all earlier [] f h = h
after_new_names all earlier (axiom_ at body ∷ items) f h =
    after_new_names all earlier items (none_second (body_fault all body) (items_fault all earlier items) f) h
after_new_names all earlier (macro_ m ∷ items) f h =
    let rest = items_fault all (m ∷ earlier) items in
    let here = none_first (macro_fault earlier m) rest f in
    let again =
    none_first (macro_again earlier m.name) (option_or (parameters_fault [] m.parameters) (body_fault earlier m.body)) here in
    after_new_names all (m ∷ earlier) items (none_second (macro_fault earlier m) rest f)
    (none_again (macro_with_name earlier m.name.name) (λ e. (MacroAgain e.name.at m.name.at, m.name.at)) again, h)

called_after : (xs : List MacroAt) (m : MacroAt) (name : List ℕ)
    → macro_with_name (xs ++ m ∷ []) name ≡ option_or (macro_with_name xs name) (if same_name m.name.name name then Some m else None)
called_after [] m name = refl
called_after (x ∷ xs) m name = by (same_name x.name.name name) (called_after xs m name)
  where
    by : (b : Bool)
        → macro_with_name (xs ++ m ∷ []) name ≡ option_or (macro_with_name xs name) (if same_name m.name.name name then Some m else None)
        → cond b (Some x) (macro_with_name (xs ++ m ∷ []) name)
        ≡ option_or (cond b (Some x) (macro_with_name xs name)) (if same_name m.name.name name then Some m else None)
    by true rest = refl
    by false rest = rest

-- where no two macros have one name, a name is found in either order
pub called_reversed : (ms : List MacroAt) (name : List ℕ) → NewNames ms → macro_with_name (reverse ms) name ≡ macro_with_name ms name
called_reversed [] name h = refl
called_reversed (m ∷ ms) name h =
    ap (λ xs. macro_with_name xs name) (reverse-append (m ∷ []) ms)
    ∙ called_after (reverse ms) m name
    ∙ ap (λ o. option_or o (if same_name m.name.name name then Some m else None)) (called_reversed ms name h.1)
    ∙ by (same_name m.name.name name) refl
  where
    by : (b : Bool) → same_name m.name.name name ≡ b
        → option_or (macro_with_name ms name) (cond b (Some m) None) ≡ cond b (Some m) (macro_with_name ms name)
    by true e =
        ap (λ o. option_or o (Some m))
        (ap (λ n. macro_with_name ms n) (sym ((bytes_eq-Decides m.name.name name).0 e)) ∙ h.0)
    by false e = or_none (macro_with_name ms name)
      where
        or_none : (o : Option MacroAt) → option_or o None ≡ o
        or_none None = refl
        or_none (Some x) = refl

module _ (m : WrittenModel) (f : first_macro_fault m ≡ None) where
  pub macros_name_earlier : NamesEarlier (macros_of m)
  macros_name_earlier =
      subst NamesEarlier (after-reverse [] m.items ∙ append-nil (macros_of m))
      (after_names_earlier (macros_in_order m) [] m.items f tt)

  pub macros_new_names : NewNames (macros_of m)
  macros_new_names =
      subst NewNames (after-reverse [] m.items ∙ append-nil (macros_of m))
      (after_new_names (macros_in_order m) [] m.items f tt)

  -- the macro that a name calls is the same, in the text's order and latest first
  pub same_called : (name : List ℕ) → macro_with_name (macros_in_order m) name ≡ macro_with_name (macros_of m) name
  same_called name =
      ap (λ xs. macro_with_name xs name) (sym (reverse-reverse (macros_in_order m)))
      ∙ called_reversed (macros_of m) name macros_new_names

  pub same_body_fault : (w : Written) → body_fault (macros_in_order m) w ≡ body_fault (macros_of m) w
  same_body_fault (not_ p) = same_body_fault p
  same_body_fault (and_ p q) = λ i. option_or (same_body_fault p i) (same_body_fault q i)
  same_body_fault (or_ p q) = λ i. option_or (same_body_fault p i) (same_body_fault q i)
  same_body_fault (implies_ p q) = λ i. option_or (same_body_fault p i) (same_body_fault q i)
  same_body_fault (forall_ at sort name p) = same_body_fault p
  same_body_fault (exists_ at sort name p) = same_body_fault p
  same_body_fault (static_ pred args) = refl
  same_body_fault (nodes_ ts) = refl
  same_body_fault (edges_ ts) = refl
  same_body_fault (expand_ at name args) =
      ap (λ o. elim o [ None ↦ Some (MacroUnknown, name.at) | Some x ↦ count_fault name args x ]) (same_called name.name)
  same_body_fault (bind_ at names args p) = same_body_fault p

  -- in a model without macro faults no axiom has one, and the expansion of each axiom is expanded
  pub axioms_expanded : All (λ w. body_fault (macros_in_order m) w ≡ None) (axioms_of m)
      × ((w : Written) → body_fault (macros_in_order m) w ≡ None → IsExpanded (expansion_of (macros_of m) w))
  axioms_expanded = (
    axioms_fine (macros_in_order m) [] m.items f,
    λ w g. expansion_expanded (macros_of m) macros_name_earlier w (sym (same_body_fault w) ∙ g),
  )
