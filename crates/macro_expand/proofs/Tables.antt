-- What a look-up by name finds among macros in the text's order, of which each may name the earlier ones.
use Rattle.std.proofs.Common.{◌≡◌, ℕ, zero, suc, ◌+◌, ◌<◌, ◌≤◌, Bool, true, false, List, [], ◌∷◌, ◌++◌, length, map, take, slice_get, Option, Some, None, MatchOption, cond, option_copied, Bor, refl, sym, ap, subst, ◌∙◌, option_map, arith}
use Rattle.std.{proofs.lemmas.List.{reverse-append, map-append}, specs.{Map.{lookup}, Option.{option_or, is_some}}}
use Rattle.indexmap.{specs.IndexMap.{IndexMap, insert_entry}, proofs.CallerLemmas.{insert_entry-new}}
use Rattle.pc_common.specs.Names.{same_name}
use Rattle.pc_syntax.specs.{Written.{MacroAt}, MacroFaults.{macro_with_name}}
use Rattle.macro_expand.specs.{declared.macros.Macro.{Macro}, Tables.{callee_of, before, with_macro, AreNew, macro_at, plain_macros, AreNumbered}}
use Rattle.macro_expand.proofs.Names.{same_is, is_same, same_either}

-- the macros of entries
abbrev pub entry_macros : List (Bor (List ℕ) × Macro) → List MacroAt
entry_macros es = plain_macros (map (λ e. e.1) es)

-- a look-up among macros with one more before all others
abbrev pub or_first : Option (MacroAt × List MacroAt) → MacroAt → List ℕ → Option (MacroAt × List MacroAt)
or_first None m name = cond (same_name m.name.name name) (Some (m, [])) None
or_first (Some p) m name = Some (p.0, p.1 ++ m ∷ [])

pub called_after : (xs : List MacroAt) (m : MacroAt) (name : List ℕ) → callee_of (xs ++ m ∷ []) name ≡ or_first (callee_of xs name) m name
called_after [] m name = refl
called_after (x ∷ xs) m name = by (same_name x.name.name name) (called_after xs m name)
  where
    by : (b : Bool) → callee_of (xs ++ m ∷ []) name ≡ or_first (callee_of xs name) m name
        → cond b (Some (x, xs ++ m ∷ [])) (callee_of (xs ++ m ∷ []) name) ≡ or_first (cond b (Some (x, xs)) (callee_of xs name)) m name
    by true rest = refl
    by false rest = rest

before_more : (m : MacroAt) (ms : List MacroAt) (n : ℕ) → before (m ∷ ms) (suc n) ≡ before ms n ++ m ∷ []
before_more m ms n = reverse-append (m ∷ []) (take n ms)

pub called_first : (m : MacroAt) (ms : List MacroAt) (n : ℕ) (name : List ℕ)
    → callee_of (before (m ∷ ms) (suc n)) name ≡ or_first (callee_of (before ms n) name) m name
called_first m ms n name = ap (λ xs. callee_of xs name) (before_more m ms n) ∙ called_after (before ms n) m name

none_before : (n : ℕ) (name : List ℕ) → callee_of (before [] n) name ≡ None
none_before zero name = refl
none_before (suc n) name = refl

step_none : (m : MacroAt) (ms : List MacroAt) (name : List ℕ) (n : ℕ) → same_name m.name.name name ≡ false
    → callee_of (before ms n) name ≡ None → callee_of (before (m ∷ ms) (suc n)) name ≡ None
step_none m ms name n other none =
    called_first m ms n name ∙ ap (λ o. or_first o m name) none
    ∙ ap (λ b. cond {A = Option (MacroAt × List MacroAt)} b (Some (m, [])) None) other

step_some : (m : MacroAt) (ms : List MacroAt) (name : List ℕ) (n : ℕ) (p : MacroAt × List MacroAt)
    → callee_of (before ms n) name ≡ Some p → callee_of (before (m ∷ ms) (suc n)) name ≡ Some (p.0, p.1 ++ m ∷ [])
step_some m ms name n p some = called_first m ms n name ∙ ap (λ o. or_first o m name) some

-- what no macro is called is not called among the first of them
pub absent_before : (ms : List MacroAt) (n : ℕ) (name : List ℕ) → macro_with_name ms name ≡ None → callee_of (before ms n) name ≡ None
absent_before [] n name h = none_before n name
absent_before (m ∷ ms) zero name h = refl
absent_before (m ∷ ms) (suc n) name h = by (same_name m.name.name name) refl h (λ none. absent_before ms n name none)
  where
    by : (b : Bool) → same_name m.name.name name ≡ b → cond b (Some m) (macro_with_name ms name) ≡ None
        → (macro_with_name ms name ≡ None → callee_of (before ms n) name ≡ None) → callee_of (before (m ∷ ms) (suc n)) name ≡ None
    by true e h rest = cc
    by false e h rest = step_none m ms name n e (rest h)

called_at_once : (m : MacroAt) (ms : List MacroAt) (name : List ℕ) → same_name m.name.name name ≡ true → macro_with_name ms name ≡ None
    → (n : ℕ) → 0 < n → callee_of (before (m ∷ ms) n) name ≡ Some (m, [])
called_at_once m ms name same none zero within = absurd (omega arith)
called_at_once m ms name same none (suc n) within =
    called_first m ms n name ∙ ap (λ o. or_first o m name) (absent_before ms n name none)
    ∙ ap (λ b. cond {A = Option (MacroAt × List MacroAt)} b (Some (m, [])) None) same

not_called_yet : (m : MacroAt) (ms : List MacroAt) (name : List ℕ) (n : ℕ) → n ≤ 0 → callee_of (before (m ∷ ms) n) name ≡ None
not_called_yet m ms name zero le = refl
not_called_yet m ms name (suc n) le = absurd (omega arith)

never_called : (m : MacroAt) (ms : List MacroAt) (name : List ℕ) → same_name m.name.name name ≡ false
    → ((n : ℕ) → callee_of (before ms n) name ≡ None) → (n : ℕ) → callee_of (before (m ∷ ms) n) name ≡ None
never_called m ms name other none zero = refl
never_called m ms name other none (suc n) = step_none m ms name n other (none n)

not_called_before : (m : MacroAt) (ms : List MacroAt) (name : List ℕ) (d : ℕ) → same_name m.name.name name ≡ false
    → ((n : ℕ) → n ≤ d → callee_of (before ms n) name ≡ None) → (n : ℕ) → n ≤ suc d → callee_of (before (m ∷ ms) n) name ≡ None
not_called_before m ms name d other none zero le = refl
not_called_before m ms name d other none (suc n) le = step_none m ms name n other (none n (omega arith))

called_later : (m : MacroAt) (ms : List MacroAt) (name : List ℕ) (d : ℕ) (x : MacroAt)
    → ((n : ℕ) → d < n → callee_of (before ms n) name ≡ Some (x, before ms d))
    → (n : ℕ) → suc d < n → callee_of (before (m ∷ ms) n) name ≡ Some (x, before (m ∷ ms) (suc d))
called_later m ms name d x some zero lt = absurd (omega arith)
called_later m ms name d x some (suc n) lt =
    step_some m ms name n (x, before ms d) (some n (omega arith))
    ∙ ap (λ ys. Some (x, ys)) (sym (before_more m ms d))

-- the macro is the one that the name calls among the first n, if its number is below n
abbrev pub IsCalledFrom : ℕ → List MacroAt → List ℕ → Macro → Type 0
IsCalledFrom first ms name m =
    (d : ℕ) × (m.number ≡ first + d) × (slice_get ms d ≡ Some (macro_at m))
    × ((n : ℕ) → n ≤ d → callee_of (before ms n) name ≡ None)
    × ((n : ℕ) → d < n → callee_of (before ms n) name ≡ Some (macro_at m, before ms d))

-- what a look-up in entries finds
pub looked_up : (first : ℕ) (es : List (Bor (List ℕ) × Macro)) (name : List ℕ) → AreNumbered first es → AreNew (entry_macros es)
    → MatchOption (lookup (λ k. same_name name k.now) es)
    ((n : ℕ) → callee_of (before (entry_macros es) n) name ≡ None)
    (λ m. IsCalledFrom first (entry_macros es) name m)
looked_up first [] name numbered new = λ n. none_before n name
looked_up first (e ∷ es) name numbered new =
    by (same_name name e.0.now) refl (lookup (λ k. same_name name k.now) es) (looked_up (suc first) es name numbered.2 new.1)
  where
    by : (b : Bool) → same_name name e.0.now ≡ b → (o : Option Macro)
        → MatchOption o ((n : ℕ) → callee_of (before (entry_macros es) n) name ≡ None) (λ m. IsCalledFrom (suc first) (entry_macros es) name m)
        → MatchOption (cond b (Some e.1) o) ((n : ℕ) → callee_of (before (macro_at e.1 ∷ entry_macros es) n) name ≡ None)
        (λ m. IsCalledFrom first (macro_at e.1 ∷ entry_macros es) name m)
    by true s o h =
        let same : name ≡ e.1.name.now.name = same_is name e.0.now s ∙ numbered.0 in (
          0,
          omega (arith, numbered.1),
          refl,
          not_called_yet (macro_at e.1) (entry_macros es) name,
          called_at_once (macro_at e.1) (entry_macros es) name (is_same e.1.name.now.name name (sym same))
              (subst (λ w. macro_with_name (entry_macros es) w ≡ None) (sym same) new.0),
        )
    by false s None h =
        never_called (macro_at e.1) (entry_macros es) name
        (ap (λ w. same_name w name) (sym numbered.0) ∙ same_either e.0.now name ∙ s) h
    by false s (Some m) h =
        let d = h.0 in (
          suc d,
          omega (arith, h.1),
          h.2,
          not_called_before (macro_at e.1) (entry_macros es) name d
              (ap (λ w. same_name w name) (sym numbered.0) ∙ same_either e.0.now name ∙ s) h.3,
          called_later (macro_at e.1) (entry_macros es) name d (macro_at m) h.4,
        )

-- the same, of the first macro of the name
pub looked_up_first : (first : ℕ) (es : List (Bor (List ℕ) × Macro)) (name : List ℕ) → AreNumbered first es
    → option_map macro_at (lookup (λ k. same_name name k.now) es) ≡ macro_with_name (entry_macros es) name
looked_up_first first [] name numbered = refl
looked_up_first first (e ∷ es) name numbered =
    by (same_name name e.0.now) (looked_up_first (suc first) es name numbered.2)
    ∙ ap (λ b. cond b (Some (macro_at e.1)) (macro_with_name (entry_macros es) name))
    (same_either name e.0.now ∙ ap (λ w. same_name w name) numbered.0)
  where
    by : (b : Bool) → option_map macro_at (lookup (λ k. same_name name k.now) es) ≡ macro_with_name (entry_macros es) name
        → option_map macro_at (cond b (Some e.1) (lookup (λ k. same_name name k.now) es))
        ≡ cond b (Some (macro_at e.1)) (macro_with_name (entry_macros es) name)
    by true rest = refl
    by false rest = rest

numbered_more : (first : ℕ) (es : List (Bor (List ℕ) × Macro)) (k : Bor (List ℕ)) (m : Macro) → AreNumbered first es
    → k.now ≡ m.name.now.name → m.number ≡ first + length es → AreNumbered first (es ++ (k, m) ∷ [])
numbered_more first [] k m numbered key number = (key, omega (arith, number), tt)
numbered_more first (e ∷ es) k m numbered key number =
    (numbered.0, numbered.1, numbered_more (suc first) es k m numbered.2 key (omega (arith, number)))

pub macro_called_after : (ms : List MacroAt) (m : MacroAt) (name : List ℕ)
    → macro_with_name (ms ++ m ∷ []) name ≡ option_or (macro_with_name ms name) (cond (same_name m.name.name name) (Some m) None)
macro_called_after [] m name = refl
macro_called_after (x ∷ ms) m name = by (same_name x.name.name name) (macro_called_after ms m name)
  where
    by : (b : Bool)
        → macro_with_name (ms ++ m ∷ []) name ≡ option_or (macro_with_name ms name) (cond (same_name m.name.name name) (Some m) None)
        → cond b (Some x) (macro_with_name (ms ++ m ∷ []) name)
        ≡ option_or (cond b (Some x) (macro_with_name ms name)) (cond (same_name m.name.name name) (Some m) None)
    by true rest = refl
    by false rest = rest

pub new_more : (ms : List MacroAt) (m : MacroAt) → AreNew ms → macro_with_name ms m.name.name ≡ None → AreNew (ms ++ m ∷ [])
new_more [] m new none = (refl, tt)
new_more (x ∷ ms) m new none = by (same_name x.name.name m.name.name) refl none (λ h. new_more ms m new.1 h)
  where
    by : (b : Bool) → same_name x.name.name m.name.name ≡ b → cond b (Some x) (macro_with_name ms m.name.name) ≡ None
        → (macro_with_name ms m.name.name ≡ None → AreNew (ms ++ m ∷ [])) → AreNew (x ∷ (ms ++ m ∷ []))
    by true e h rest = cc
    by false e h rest = (
      macro_called_after ms m x.name.name
          ∙ ap (λ o. option_or o (cond (same_name m.name.name x.name.name) (Some m) None)) new.0
          ∙ ap (λ b. cond {A = Option MacroAt} b (Some m) None) (same_either m.name.name x.name.name ∙ e),
      rest h,
    )

-- one more entry, for a name that has none
module _ {S : Type 0} (table : IndexMap (Bor (List ℕ)) Macro S) (new : List (Bor (List ℕ) × Macro)) (k : Bor (List ℕ)) (m : Macro)
    (absent : lookup (λ x. same_name k.now x.now) table.entries ≡ None)
    (put : new ≡ insert_entry (λ x y. same_name x.now y.now) table.entries k m)
    (numbered : AreNumbered 0 table.entries) (key : k.now ≡ m.name.now.name) where
  entry_more : new ≡ table.entries ++ (k, m) ∷ []
  entry_more = put ∙ insert_entry-new (λ x y. same_name x.now y.now) table k m absent

  none_of_name : macro_with_name (entry_macros table.entries) m.name.now.name ≡ None
  none_of_name =
      subst (λ w. macro_with_name (entry_macros table.entries) w ≡ None) key
      (sym (looked_up_first 0 table.entries k.now numbered) ∙ ap (option_map macro_at) absent)

  listed_more : entry_macros new ≡ entry_macros table.entries ++ macro_at m ∷ []
  listed_more =
      ap entry_macros entry_more
      ∙ ap plain_macros (map-append (λ e. e.1) table.entries ((k, m) ∷ []))
      ∙ map-append macro_at (map (λ e. e.1) table.entries) (m ∷ [])

  pub still_table : AreNew (entry_macros table.entries) → m.number ≡ length table.entries → AreNumbered 0 new × AreNew (entry_macros new)
  still_table fresh number = (
    subst (AreNumbered 0) (sym entry_more) (numbered_more 0 table.entries k m numbered key (omega (arith, number))),
    subst AreNew (sym listed_more) (new_more (entry_macros table.entries) (macro_at m) fresh none_of_name),
  )

  pub entered_new : entry_macros new ≡ with_macro (entry_macros table.entries) (macro_at m)
  entered_new =
      listed_more
      ∙ sym (ap (λ o. elim o [ None ↦ entry_macros table.entries ++ macro_at m ∷ [] | Some first ↦ entry_macros table.entries ]) none_of_name)

-- a macro whose name is there changes nothing
pub entered_old : (ms : List MacroAt) (m : MacroAt) → is_some (macro_with_name ms m.name.name) ≡ true → ms ≡ with_macro ms m
entered_old ms m h = by (macro_with_name ms m.name.name) h
  where
    by : (o : Option MacroAt) → is_some o ≡ true → ms ≡ elim o [ None ↦ ms ++ m ∷ [] | Some first ↦ ms ]
    by None h = cc
    by (Some first) h = refl

called_is : (ms : List MacroAt) (name : List ℕ) (m : Macro) (n : ℕ) → IsCalledFrom 0 ms name m → m.number < n
    → (slice_get ms m.number ≡ Some (macro_at m)) × (callee_of (before ms n) name ≡ Some (macro_at m, before ms m.number))
called_is ms name m n h lt =
    let same : h.0 ≡ m.number = omega (arith, h.1) in (
      subst (λ d. slice_get ms d ≡ Some (macro_at m)) same h.2,
      h.4 n (omega (arith, h.1)) ∙ ap (λ d. Some (macro_at m, before ms d)) same,
    )

module _ (es : List (Bor (List ℕ) × Macro)) (name : List ℕ) (numbered : AreNumbered 0 es) (fresh : AreNew (entry_macros es))
    (o : Option (Bor Macro)) (value : option_copied o ≡ lookup (λ k. same_name name k.now) es) where
  found : MatchOption (option_copied o) ((n : ℕ) → callee_of (before (entry_macros es) n) name ≡ None) (λ m. IsCalledFrom 0 (entry_macros es) name m)
  found =
      subst (λ p. MatchOption p ((n : ℕ) → callee_of (before (entry_macros es) n) name ≡ None) (λ m. IsCalledFrom 0 (entry_macros es) name m))
      (sym value) (looked_up 0 es name numbered fresh)

  pub found_below : (m : Bor Macro) (n : ℕ) → o ≡ Some m → m.now.number < n
      → (slice_get (entry_macros es) m.now.number ≡ Some (macro_at m.now))
      × (callee_of (before (entry_macros es) n) name ≡ Some (macro_at m.now, before (entry_macros es) m.now.number))
  found_below m n e lt =
      called_is (entry_macros es) name m.now n
      (subst (λ p. MatchOption (option_copied p) ((k : ℕ) → callee_of (before (entry_macros es) k) name ≡ None)
      (λ x. IsCalledFrom 0 (entry_macros es) name x)) e found)
      lt

  pub found_above : (m : Bor Macro) (n : ℕ) → o ≡ Some m → n ≤ m.now.number → callee_of (before (entry_macros es) n) name ≡ None
  found_above m n e le =
      let h : IsCalledFrom 0 (entry_macros es) name m.now =
      subst (λ p. MatchOption (option_copied p) ((k : ℕ) → callee_of (before (entry_macros es) k) name ≡ None)
      (λ x. IsCalledFrom 0 (entry_macros es) name x)) e found in
      h.3 n (omega (arith, h.1))

  pub found_none : (n : ℕ) → o ≡ None → callee_of (before (entry_macros es) n) name ≡ None
  found_none n e =
      subst (λ p. MatchOption (option_copied p) ((k : ℕ) → callee_of (before (entry_macros es) k) name ≡ None)
      (λ x. IsCalledFrom 0 (entry_macros es) name x)) e found
      n

pub some_first : (es : List (Bor (List ℕ) × Macro)) (name : List ℕ) → AreNumbered 0 es
    → is_some (lookup (λ k. same_name name k.now) es) ≡ true → is_some (macro_with_name (entry_macros es) name) ≡ true
some_first es name numbered h =
    ap is_some (sym (looked_up_first 0 es name numbered)) ∙ mapped (lookup (λ k. same_name name k.now) es) h
  where
    mapped : (o : Option Macro) → is_some o ≡ true → is_some (option_map macro_at o) ≡ true
    mapped None h = cc
    mapped (Some m) h = refl
