-- What lists of symbols yield: whole texts, and viable prefixes, which begin one.
use Rattle.std.proofs.Common.{◌≡◌, Bool, false, List, [], ◌∷◌, ◌++◌, subst}
use Rattle.ll_grammar.specs.Rules.{Rules, Yields, Begins, Yields.{done, class as r_class, ends as r_ends, begins as r_begins}}
use Rattle.ll_grammar.specs.{Rules.Begins.{nothing, class as b_class, ends as b_ends, begins as b_begins}, Predictable.{HasTexts}, LawsOfTables.{yields-append}}
use Rattle.ll_grammar.specs.declared.grammar.Symbol.{Symbol, TheVariants.{Terminal as a_terminal, Nonterminal as a_nonterminal}}

-- each list of symbols reads some text
pub some_text : {C N : Type 0} (g : Rules C N) → HasTexts g → (symbols : List (Symbol C N))
    → (cs : List C) × (marks : List Bool) × Yields g symbols cs marks
some_text g texts [] = ([], [], done)
some_text g texts (a_terminal c ∷ rest) =
    let (cs, marks, reads) = some_text g texts rest in (c ∷ cs, false ∷ marks, r_class reads)
some_text g texts (a_nonterminal n ∷ rest) =
    let (cs, marks, front) = texts n in
    let (ds, others, behind) = some_text g texts rest in
    (cs ++ ds, marks ++ others, yields-append front behind)

-- what begins a text begins by cases
pub begins_of_yields : {C N : Type 0} {g : Rules C N} {symbols : List (Symbol C N)} {cs : List C} {marks : List Bool}
    → Yields g symbols cs marks → (front rest : List C) → cs ≡ front ++ rest → Begins g symbols front
begins_of_yields done [] rest e = nothing
begins_of_yields done (d ∷ front) rest e = absurd (cc)
begins_of_yields (r_class reads) [] rest e = nothing
begins_of_yields {C} {N} {g} (r_class {c = c} {rest = behind} reads) (d ∷ front) rest e =
    let head : c ≡ d = cc in
    subst (λ (x : C). Begins g (a_terminal c ∷ behind) (x ∷ front)) head (b_class (begins_of_yields reads front rest (cc)))
begins_of_yields (r_ends h reads) front rest e = b_ends h (begins_of_yields reads front rest e)
begins_of_yields (r_begins body h reads) [] rest e = nothing
begins_of_yields {C} {N} {g} (r_begins {n = n} {c = c} {rest = behind} body h reads) (d ∷ front) rest e =
    let head : c ≡ d = cc in
    subst (λ (x : C). Begins g (a_nonterminal n ∷ behind) (x ∷ front)) head (b_begins body h (begins_of_yields reads front rest (cc)))

-- what begins by cases begins some text, where each part has one
pub yields_of_begins : {C N : Type 0} {g : Rules C N} {symbols : List (Symbol C N)} {cs : List C}
    → HasTexts g → Begins g symbols cs → (rest : List C) × (marks : List Bool) × Yields g symbols (cs ++ rest) marks
yields_of_begins {g = g} texts (nothing {symbols = symbols}) = some_text g texts symbols
yields_of_begins texts (b_class prefix) =
    let (rest, marks, reads) = yields_of_begins texts prefix in (rest, false ∷ marks, r_class reads)
yields_of_begins texts (b_ends h prefix) =
    let (rest, marks, reads) = yields_of_begins texts prefix in (rest, marks, r_ends h reads)
yields_of_begins {g = g} texts (b_begins {n = n} {c = c} body h prefix) =
    let (rest, marks, reads) = yields_of_begins texts prefix in (rest, g.deep n c ∷ marks, r_begins body h reads)
