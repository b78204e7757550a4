-- The first fault of a query, as an end.
use Rattle.std.{proofs.Common.{◌≡◌, ℕ, List, [], ◌++◌, ◌∷◌, Option, Some, None, length, map, refl, sym, ◌∙◌, ap, subst, arith}, specs.Option.{option_or}}
use Rattle.std.specs.Prelude.{MatchOption}
use Rattle.pc_common.specs.declared.fault.Which.{Which, TheVariants.{Query}}
use Rattle.pc_syntax.specs.{declared.expanded.Expanded.{Expanded}, Written.{Written, written, not_, WrittenModel}, Observable.{axioms_of, macros_of}}
use Rattle.pc_syntax.specs.{Expansion.{expansion_of}, Fault.{Fault}, MacroFaults.{first_macro_fault}, Sizes.{first_size_fault}}
use Rattle.uspec_lexer.specs.{Fault.{IsLexicalRefusal}, declared.fault.LexFault.{LexFault, TheVariants.{Lexical as a_lexical_fault, Memory as no_memory}}}
use Rattle.uspec_lexer.specs.{Token.{Token}, Spells.{Spells}}
use Rattle.uspec_parser.specs.{Marks.{IsMarkedFormula}, Answers.{terminals, IsParseRefusal}, declared.fault.ParseFault.{ParseFault}}
use Rattle.uspec_parser.specs.declared.fault.ParseFault.TheVariants.{Syntax as a_syntax_fault, Depth as a_depth_fault, Memory as no_memory_to_parse}
use Rattle.macro_expand.specs.Faults.{IsExpandable, AreExpansions}
use Rattle.scope_check.specs.QueryFaults.{filed, query_fault, IsFiledOr}
use Rattle.pc_front.specs.{declared.model_front.FrontEnd.{FrontEnd}, Ends.{end_of, lexical_end}}
use Rattle.ask_command.specs.Queries.{FormulaOf, with_axiom, with_denial, first_query_fault, lexical, syntax, depth, of_tree, IsQueryEnd}
use Rattle.ask_command.{specs.Denials.{moved_end, parse_end, IsFirstQueryEnd}, proofs.WithAxiom.{axioms_more}}

-- a fault of the bytes
pub lexical_ends : (m : WrittenModel) (bytes : List ℕ) (fault : LexFault) → IsLexicalRefusal bytes fault
    → IsQueryEnd m bytes (moved_end Query (lexical_end fault))
lexical_ends m bytes (a_lexical_fault place) is = lexical is
lexical_ends m bytes no_memory is = tt

-- a fault of the tokens
pub parse_ends : (m : WrittenModel) (bytes : List ℕ) (ts : List Token) (fault : ParseFault) → Spells bytes ts
    → IsParseRefusal IsMarkedFormula (terminals ts) fault → IsQueryEnd m bytes (parse_end bytes ts fault)
parse_ends m bytes ts (a_syntax_fault k) spelled is = syntax spelled is refl
parse_ends m bytes ts (a_depth_fault k) spelled is = depth spelled is refl
parse_ends m bytes ts no_memory_to_parse spelled is = tt

or_some : {A : Type 0} (a b : Option A) (x : A) → a ≡ Some x → option_or a b ≡ Some x
or_some None b x h = cc
or_some (Some y) b x h = h

or_none : {A : Type 0} (a b : Option A) → a ≡ None → option_or a b ≡ b
or_none None b h = refl
or_none (Some x) b h = cc

-- the first fault of a formula beside a model, as an end
pub query_end : (m : WrittenModel) (f : Written) (bytes : List ℕ) → FormulaOf bytes f → (file : Which) (o : Option Fault)
    → IsFiledOr (first_query_fault m f) file o → IsQueryEnd m bytes (moved_end file (end_of o))
query_end m f bytes of file None is = tt
query_end m f bytes of file (Some (kind, at)) is = of_tree of is

pub first_end : (m : WrittenModel) (f : Written) (bytes : List ℕ) → FormulaOf bytes f → (e : FrontEnd) → IsFirstQueryEnd m f e → IsQueryEnd m bytes e
first_end m f bytes of e (file, o, is, end) = subst (IsQueryEnd m bytes) (sym end) (query_end m f bytes of file o is)

module _ (m : WrittenModel) (f : Written) where
  sizes : Option Fault
  sizes = option_or (first_macro_fault (with_denial m f)) (first_size_fault (with_denial m f))

  -- a fault of macros or of sizes is the first
  pub macro_first : (o : Option Fault)
      → MatchOption o (Unit {0}) (λ told. option_or (first_macro_fault (with_denial m f)) (first_size_fault (with_denial m f)) ≡ Some told)
      → IsFiledOr (first_query_fault m f) Query o
  unfolding sizes
  macro_first None is = refl
  macro_first (Some fault) is =
      or_some (filed Query sizes) (query_fault m.stages (macros_of m) [] (not_ f)) (Query, fault) (ap (filed Query) is)

  -- a fault of names is, where there is none of macros and of sizes
  pub name_first : IsExpandable (with_denial m f) → (file : Which) (o : Option Fault)
      → IsFiledOr (query_fault m.stages (macros_of m) [] (not_ f)) file o → IsFiledOr (first_query_fault m f) file o
  unfolding sizes
  name_first expandable file None is = is
  name_first expandable file (Some fault) is =
      let none : sizes ≡ None = or_none (first_macro_fault (with_denial m f)) (first_size_fault (with_denial m f)) expandable.0 ∙ expandable.1 in
      or_none (filed Query sizes) (query_fault m.stages (macros_of m) [] (not_ f)) (ap (filed Query) none) ∙ is

-- no fault of macros, sizes and names is none
pub no_fault_asked : (m : WrittenModel) (f : Written) → IsExpandable (with_denial m f) → query_fault m.stages (macros_of m) [] (not_ f) ≡ None
    → first_query_fault m f ≡ None
no_fault_asked m f expandable names =
    let sizes = option_or (first_macro_fault (with_denial m f)) (first_size_fault (with_denial m f)) in
    let none : sizes ≡ None = or_none (first_macro_fault (with_denial m f)) (first_size_fault (with_denial m f)) expandable.0 ∙ expandable.1 in
    or_none (filed Query sizes) (query_fault m.stages (macros_of m) [] (not_ f)) (ap (filed Query) none) ∙ names

-- the last members of two lists that are equal
no_end : {A : Type 0} (xs : List A) (x : A) → xs ++ x ∷ [] ≡ [] → ⊥
no_end [] x e = cc
no_end (y ∷ xs) x e = cc

last_of : {A : Type 0} → A → List A → A
last_of d [] = d
last_of d (x ∷ xs) = last_of x xs

last_is : {A : Type 0} (d : A) (xs : List A) (x : A) → last_of d (xs ++ x ∷ []) ≡ x
unfolding last_of
last_is d [] x = refl
last_is d (y ∷ xs) x = last_is y xs x

same_last : {A : Type 0} (xs ys : List A) (x y : A) → xs ++ x ∷ [] ≡ ys ++ y ∷ [] → x ≡ y
same_last xs ys x y e = sym (last_is x xs x) ∙ ap (last_of x) e ∙ last_is x ys y

map_end : {A B : Type 0} (g : A → B) (xs : List A) (x : A) → map g (xs ++ x ∷ []) ≡ map g xs ++ g x ∷ []
map_end g [] x = refl
map_end g (y ∷ xs) x = ap (λ zs. g y ∷ zs) (map_end g xs x)

-- the last of a model's expanded axioms is that of its last axiom
pub last_expanded : (n m : WrittenModel) (w : Written) (es rest : List Expanded) (last : Expanded) → n ≡ with_axiom m w → AreExpansions n es
    → es ≡ rest ++ last ∷ [] → written last.body ≡ expansion_of (macros_of n) w
last_expanded n m w es rest last is expansions ends =
    let body = λ (e : Expanded). written e.body in
    let axioms : axioms_of n ≡ axioms_of m ++ w ∷ [] = ap axioms_of is ∙ axioms_more m w in
    same_last (map body rest) (map (expansion_of (macros_of n)) (axioms_of m)) (written last.body) (expansion_of (macros_of n) w)
    (sym (map_end body rest last) ∙ ap (map body) (sym ends) ∙ expansions ∙ ap (map (expansion_of (macros_of n))) axioms
    ∙ map_end (expansion_of (macros_of n)) (axioms_of m) w)

-- a model with a last axiom has expanded axioms
pub some_expanded : (n m : WrittenModel) (w : Written) (es : List Expanded) → n ≡ with_axiom m w → AreExpansions n es → es ≡ [] → ⊥
some_expanded n m w es is expansions none =
    let body = λ (e : Expanded). written e.body in
    let axioms : axioms_of n ≡ axioms_of m ++ w ∷ [] = ap axioms_of is ∙ axioms_more m w in
    no_end (map (expansion_of (macros_of n)) (axioms_of m)) (expansion_of (macros_of n) w)
    (sym (map_end (expansion_of (macros_of n)) (axioms_of m) w) ∙ ap (map (expansion_of (macros_of n))) (sym axioms) ∙ sym expansions ∙ ap (map body) none)

-- so its expanded axioms are not none of them
pub popped_none : (n m : WrittenModel) (w : Written) (es : List Expanded) → n ≡ with_axiom m w → AreExpansions n es → length es ≡ 0 → ⊥
popped_none n m w [] is expansions none = some_expanded n m w [] is expansions refl
popped_none n m w (e ∷ es) is expansions none = absurd (omega arith)
