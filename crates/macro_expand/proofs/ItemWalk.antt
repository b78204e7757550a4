-- The walk over a file's items in the text's order, against the table that has the first macro of each name.
use Rattle.std.proofs.Common.{◌≡◌, ℕ, ◌+◌, ◌<◌, ◌≤◌, Bool, true, false, List, [], ◌∷◌, ◌++◌, length, map, take, drop, get_or, reverse, Option, Some, None, cond, refl, sym, ap, subst, ◌∙◌, append_assoc, append-nil, arith, length-append, option_map}
use Rattle.std.proofs.lemmas.{List.{reverse-append, map-append, take-append-drop, take_at, take_all, drop_more}, Grind.{flat_map-append, fold-append}}
use Rattle.std.specs.{List.{fold, flat_map}, Option.{option_or}}
use Rattle.pc_common.specs.{declared.fault.FaultKind.TheVariants.{MacroAgain, MacroUnknown}, Names.{same_name}}
use Rattle.pc_syntax.specs.declared.model.Item.{Item}
use Rattle.pc_syntax.specs.Written.{Written, not_, and_, or_, implies_, forall_, exists_, expand_, bind_, MacroAt, WrittenItem, axiom_, macro_, written_item}
use Rattle.pc_syntax.specs.{Observable.{macro_of}, Fault.{Fault}}
use Rattle.pc_syntax.specs.MacroFaults.{macro_with_name, macro_again, parameters_fault, count_fault, body_fault, macro_fault, items_fault}
use Rattle.pc_syntax.proofs.{NoFault.{none_first}, ExpandedLaws.{NewNames, called_reversed}}
use Rattle.macro_expand.{specs.Tables.{before, with_macro, first_of_names, AreNew, item_fault}, proofs.{Tables.{macro_called_after, new_more}, Names.{same_is}}}
use Rattle.macro_expand.proofs.Walks.{flat_map_more}

-- a body has the same fault wherever names call the same macros
same_fault : (ms ns : List MacroAt) → ((name : List ℕ) → macro_with_name ms name ≡ macro_with_name ns name) → (w : Written)
    → body_fault ms w ≡ body_fault ns w
same_fault ms ns same (not_ p) = same_fault ms ns same p
same_fault ms ns same (and_ p q) = λ i. option_or (same_fault ms ns same p i) (same_fault ms ns same q i)
same_fault ms ns same (or_ p q) = λ i. option_or (same_fault ms ns same p i) (same_fault ms ns same q i)
same_fault ms ns same (implies_ p q) = λ i. option_or (same_fault ms ns same p i) (same_fault ms ns same q i)
same_fault ms ns same (forall_ at sort name p) = same_fault ms ns same p
same_fault ms ns same (exists_ at sort name p) = same_fault ms ns same p
same_fault ms ns same (expand_ at name args) =
    ap (λ o. elim o [ None ↦ Some (MacroUnknown, name.at) | Some x ↦ count_fault name args x ]) (same name.name)
same_fault ms ns same (bind_ at names args p) = same_fault ms ns same p
same_fault ms ns same w = refl

or_none : {A : Type 0} (o : Option A) → option_or o None ≡ o
or_none None = refl
or_none (Some x) = refl

-- where a name is known already, one more macro of it changes no call
known_called : (ms : List MacroAt) (m : MacroAt) (name : List ℕ) (x : MacroAt) → macro_with_name ms m.name.name ≡ Some x
    → (b : Bool) → same_name m.name.name name ≡ b → macro_with_name ms name ≡ option_or (macro_with_name ms name) (cond b (Some m) None)
known_called ms m name x e true s =
    let h : macro_with_name ms name ≡ Some x = subst (λ w. macro_with_name ms w ≡ Some x) (same_is m.name.name name s) e in
    h ∙ ap (λ o. option_or o (Some m)) (sym h)
known_called ms m name x e false s = sym (or_none (macro_with_name ms name))

-- one more macro is called only by a name that no earlier one has
entered_called : (ms : List MacroAt) (m : MacroAt) (name : List ℕ)
    → macro_with_name (with_macro ms m) name ≡ option_or (macro_with_name ms name) (cond (same_name m.name.name name) (Some m) None)
entered_called ms m name = by (macro_with_name ms m.name.name) refl
  where
    by : (o : Option MacroAt) → macro_with_name ms m.name.name ≡ o
        → macro_with_name (elim o [ None ↦ ms ++ m ∷ [] | Some first ↦ ms ]) name
        ≡ option_or (macro_with_name ms name) (cond (same_name m.name.name name) (Some m) None)
    by None e = macro_called_after ms m name
    by (Some x) e = known_called ms m name x e (same_name m.name.name name) refl

-- of macros of one name the first is called
first_called : (done ms : List MacroAt) (name : List ℕ)
    → macro_with_name (fold with_macro done ms) name ≡ option_or (macro_with_name done name) (macro_with_name ms name)
first_called done [] name = sym (or_none (macro_with_name done name))
first_called done (m ∷ ms) name =
    first_called (with_macro done m) ms name
    ∙ ap (λ o. option_or o (macro_with_name ms name)) (entered_called done m name)
    ∙ by (macro_with_name done name) (same_name m.name.name name)
  where
    by : (o : Option MacroAt) (b : Bool)
        → option_or (option_or o (cond b (Some m) None)) (macro_with_name ms name) ≡ option_or o (cond b (Some m) (macro_with_name ms name))
    by None true = refl
    by None false = refl
    by (Some x) b = refl

-- what is in the table stays at its front
stays_first : (done ms : List MacroAt) → (rest : List MacroAt) × (fold with_macro done ms ≡ done ++ rest)
stays_first done [] = ([], sym (append-nil done))
stays_first done (m ∷ ms) = by (macro_with_name done m.name.name) (λ next. stays_first next ms)
  where
    by : (o : Option MacroAt) → ((next : List MacroAt) → (rest : List MacroAt) × (fold with_macro next ms ≡ next ++ rest))
        → (rest : List MacroAt) × (fold with_macro (elim o [ None ↦ done ++ m ∷ [] | Some first ↦ done ]) ms ≡ done ++ rest)
    by None later =
        let r = later (done ++ m ∷ []) in (m ∷ r.0, r.1 ∙ append_assoc done (m ∷ []) r.0)
    by (Some first) later = later done

entered_fresh : (done : List MacroAt) (m : MacroAt) → AreNew done → AreNew (with_macro done m)
entered_fresh done m fresh = by (macro_with_name done m.name.name) refl
  where
    by : (o : Option MacroAt) → macro_with_name done m.name.name ≡ o → AreNew (elim o [ None ↦ done ++ m ∷ [] | Some first ↦ done ])
    by None e = new_more done m fresh e
    by (Some first) e = fresh

table_fresh : (done ms : List MacroAt) → AreNew done → AreNew (fold with_macro done ms)
table_fresh done [] fresh = fresh
table_fresh done (m ∷ ms) fresh = table_fresh (with_macro done m) ms (entered_fresh done m fresh)

as_new_names : (ms : List MacroAt) → AreNew ms → NewNames ms
as_new_names [] fresh = tt
as_new_names (m ∷ ms) fresh = (fresh.0, as_new_names ms fresh.1)

-- an axiom is judged the same by the table, latest first, and by all macros
axiom_judged : (all : List MacroAt) (body : Written)
    → body_fault (before (first_of_names all) (length (first_of_names all))) body ≡ body_fault all body
axiom_judged all body =
    let table = first_of_names all in
    ap (λ ms. body_fault (reverse ms) body) (take_all (length table) table (omega arith))
    ∙ same_fault (reverse table) all
    (λ name. called_reversed table name (as_new_names table (table_fresh [] all tt)) ∙ first_called [] all name) body

-- one item's fault, before the rest
abbrev one_fault : List MacroAt → List MacroAt → WrittenItem → Option Fault
one_fault all earlier (axiom_ at body) = body_fault all body
one_fault all earlier (macro_ m) = macro_fault earlier m

items_step : (all done : List MacroAt) (w : WrittenItem) (ws : List WrittenItem)
    → items_fault all (reverse done) (w ∷ ws)
    ≡ option_or (one_fault all (reverse done) w) (items_fault all (reverse (done ++ macro_of w)) ws)
items_step all done (axiom_ at body) ws =
    ap (λ ms. option_or (body_fault all body) (items_fault all (reverse ms) ws)) (sym (append-nil done))
items_step all done (macro_ m) ws =
    ap (λ ms. option_or (macro_fault (reverse done) m) (items_fault all ms ws)) (sym (reverse-append done (m ∷ [])))

-- the table begins with macros whose names are new
table_front : (done rest : List MacroAt) → first_of_names done ≡ done → before (first_of_names (done ++ rest)) (length done) ≡ reverse done
table_front done rest kept =
    let later = stays_first done rest in
    ap (λ ms. before ms (length done))
    (fold-append with_macro [] done rest ∙ ap (λ ms. fold with_macro ms rest) kept ∙ later.1)
    ∙ ap reverse (take_at done later.0 (length done) refl)

item_judged : (done rest : List MacroAt) (w : WrittenItem) → first_of_names done ≡ done
    → item_fault (first_of_names (done ++ rest)) (length done) w ≡ one_fault (done ++ rest) (reverse done) w
item_judged done rest (axiom_ at body) kept = axiom_judged (done ++ rest) body
item_judged done rest (macro_ m) kept = ap (λ ms. macro_fault ms m) (table_front done rest kept)

fresh_from : (done : List MacroAt) → first_of_names done ≡ done → AreNew done
fresh_from done kept = subst AreNew kept (table_fresh [] done tt)

not_again : (ms : List MacroAt) (m : MacroAt) → macro_again ms m.name ≡ None → macro_with_name ms m.name.name ≡ None
not_again ms m h = by (macro_with_name ms m.name.name) h
  where
    by : (o : Option MacroAt) → option_map {T = MacroAt} {U = Fault} (λ x. (MacroAgain x.name.at m.name.at, m.name.at)) o ≡ None → o ≡ None
    by None e = refl
    by (Some x) e = cc

-- an item with no fault leaves all names new
kept_after : (all done : List MacroAt) (w : WrittenItem) → first_of_names done ≡ done → one_fault all (reverse done) w ≡ None
    → first_of_names (done ++ macro_of w) ≡ done ++ macro_of w
kept_after all done (axiom_ at body) kept fine = ap first_of_names (append-nil done) ∙ kept ∙ sym (append-nil done)
kept_after all done (macro_ m) kept fine =
    let again =
    none_first (macro_again (reverse done) m.name) (option_or (parameters_fault [] m.parameters) (body_fault (reverse done) m.body)) fine in
    let absent : macro_with_name done m.name.name ≡ None =
    sym (called_reversed done m.name.name (as_new_names done (fresh_from done kept))) ∙ not_again (reverse done) m again in
    fold-append with_macro [] done (m ∷ [])
    ∙ ap (λ ms. with_macro ms m) kept
    ∙ ap (λ o. elim o [ None ↦ done ++ m ∷ [] | Some first ↦ done ]) absent

abbrev pub macros_of_items : List Item → List MacroAt
macros_of_items items = flat_map macro_of (map written_item items)

-- what is known after the first i items
pub record IsWalked (items : List Item) (i earlier : ℕ) : Type 0 where
  pub kept : first_of_names (macros_of_items (take i items)) ≡ macros_of_items (take i items)
  pub counted : earlier ≡ length (macros_of_items (take i items))
  pub few : earlier ≤ i
  pub rest : items_fault (macros_of_items items) [] (map written_item items)
      ≡ items_fault (macros_of_items items) (reverse (macros_of_items (take i items))) (map written_item (drop i items))

split_at : (items : List Item) (i : ℕ) → macros_of_items items ≡ macros_of_items (take i items) ++ macros_of_items (drop i items)
split_at items i =
    ap macros_of_items (sym (take-append-drop i items))
    ∙ ap (flat_map macro_of) (map-append written_item (take i items) (drop i items))
    ∙ flat_map-append macro_of (map written_item (take i items)) (map written_item (drop i items))

one_at_most : (w : WrittenItem) → length (macro_of w) ≤ 1
one_at_most (axiom_ at body) = omega arith
one_at_most (macro_ m) = omega arith

module _ (items : List Item) (i earlier : ℕ) (x : Item) (within : i < length items) (here : x ≡ get_or items i x)
    (walked : IsWalked items i earlier) where
  judged_here : item_fault (first_of_names (macros_of_items items)) earlier (written_item x)
      ≡ one_fault (macros_of_items items) (reverse (macros_of_items (take i items))) (written_item x)
  judged_here =
      let done = macros_of_items (take i items) in
      let later = macros_of_items (drop i items) in
      (λ j. item_fault (first_of_names (split_at items i j)) (walked.counted j) (written_item x))
      ∙ item_judged done later (written_item x) walked.kept
      ∙ ap (λ ms. one_fault ms (reverse done) (written_item x)) (sym (split_at items i))

  more : macros_of_items (take (i + 1) items) ≡ macros_of_items (take i items) ++ macro_of (written_item x)
  more =
      flat_map_more macro_of written_item items i x within
      ∙ ap (λ y. macros_of_items (take i items) ++ macro_of (written_item y)) (sym here)

  -- the next item's fault, as the table tells it, stands before the rest
  pub next_judged : items_fault (macros_of_items items) [] (map written_item items)
      ≡ option_or (item_fault (first_of_names (macros_of_items items)) earlier (written_item x))
      (items_fault (macros_of_items items) (reverse (macros_of_items (take (i + 1) items))) (map written_item (drop (i + 1) items)))
  next_judged =
      let all = macros_of_items items in
      let done = macros_of_items (take i items) in
      let later = map written_item (drop (i + 1) items) in
      walked.rest
      ∙ ap (λ xs. items_fault all (reverse done) (map written_item xs)) (drop_more items i x within)
      ∙ ap (λ y. items_fault all (reverse done) (written_item y ∷ later)) (sym here)
      ∙ items_step all done (written_item x) later
      ∙ (λ j. option_or (sym judged_here j) (items_fault all (reverse (sym more j)) later))

  -- where it has none, the walk goes on
  pub walked_on : (next : ℕ) → item_fault (first_of_names (macros_of_items items)) earlier (written_item x) ≡ None
      → next ≡ earlier + length (macro_of (written_item x)) → IsWalked items (i + 1) next
  walked_on next fine counted = record {
    kept = subst (λ ms. first_of_names ms ≡ ms) (sym more)
        (kept_after (macros_of_items items) (macros_of_items (take i items)) (written_item x) walked.kept (sym judged_here ∙ fine));
    counted = omega (arith, counted, walked.counted, ap length more, length-append (macros_of_items (take i items)) (macro_of (written_item x)));
    few = omega (arith, counted, walked.few, one_at_most (written_item x));
    rest = next_judged
        ∙ ap (λ o. option_or o (items_fault (macros_of_items items) (reverse (macros_of_items (take (i + 1) items)))
        (map written_item (drop (i + 1) items)))) fine;
  }
