-- The table reads exactly the terminals of the listings.
use Rattle.std.proofs.Common.{◌≡◌, ℕ, Bool, true, false, List, [], ◌∷◌, ◌++◌, Some, IsTrue, MatchOption, map, codes, refl, sym, ap, subst, ◌∙◌, append_assoc}
use Rattle.std.proofs.lemmas.List.{append-nil, map-append}
use Rattle.ll_grammar.specs.{Rules.{Derives}, Texts.{IsText}, declared.grammar.Symbol.{Symbol}}
use Rattle.ll_grammar.specs.declared.grammar.Symbol.TheVariants.{Terminal as a_terminal, Nonterminal as a_nonterminal}
use Rattle.ll_grammar.proofs.DerivesLaws.{Each, meaning, derives-begin, derives-end, Each.{none, class, part}}
use Rattle.uspec_lexer.specs.{Token.{Token}, Vocabulary.{expected_terminal}, Expected.{Expected, a_word, placed_word, a_number, a_symbol, Is, Spell}}
use Rattle.uspec_lexer.proofs.Spelling.{spell-append, map-head, map-part}
use Rattle.uspec_lexer.proofs.Words.{is_word, is_placed_word, is_symbol, is_placed_symbol, is_number, is_named, word_is_name, terminals-of_tokens}
use Rattle.x86_litmus.specs.Listing.{Named, Location, bare, bracketed, Stated, Block, no_values, values, Action, fence, store, load, Cell, empty, instruction, Row, Equation, of_register, of_location, Condition, Listing}
use Rattle.x86_litmus.specs.Syntax.{a_name, spelled_location, spelled_stated, spelled_values, spelled_block, spelled_columns, spelled_action, spelled_cell, spelled_cells, spelled_row, spelled_equation, spelled_equations, spelled_conjunction, spelled_asked, spelled_denial, spelled_rows, spelled_listing, IsListing}
use Rattle.x86_litmus.specs.Terminals.{word_terminal, symbol_terminal, vocabulary, terminal_of, is_name}
use Rattle.x86_litmus.specs.{Phrases.{number_and, bracketed_and, register_and, production, is_nullable, deep, rules}, declared.terminal.Terminal.{Terminal}}
use Rattle.x86_litmus.specs.declared.terminal.Terminal.TheVariants.{Mov, Mfence, Exists, Name, Number, OpenBrace, CloseBrace, Semicolon, Bar, OpenBracket, CloseBracket, Comma, Dollar, Colon, Equals, Open, Close, Tilde, And}
use Rattle.x86_litmus.specs.declared.phrase.Phrase.{Phrase}
use Rattle.x86_litmus.specs.declared.phrase.Phrase.TheVariants.{Listing as ListingPart, Values, MoreValues, Columns, MoreColumns, Rows, Cells, MoreCells, Move, Asked, Equations, MoreEquations, AnyName}
use Rattle.x86_litmus.proofs.Words.{sorted}

-- From the table to the grammar: tokens of these terminals spell a listing.

abbrev named_of : Token → Named
named_of t = record { word = t.piece; at = t.at }

-- what a phrase's tokens spell
abbrev Spelled : Phrase → List Token → Type 0
Spelled ListingPart ts = IsListing ts
Spelled Values ts = (b : Block) × Spell (spelled_block b) ts
Spelled MoreValues ts = (ss : List Stated) × (last : Bool) × Spell (spelled_values ss last) ts
Spelled Columns ts = (n : Named) × (ns : List Named) × Spell (a_name n ∷ spelled_columns ns) ts
Spelled MoreColumns ts = (ns : List Named) × Spell (spelled_columns ns) ts
Spelled Rows ts = (rs : List Row) × (c : Condition) × Spell (spelled_rows rs c) ts
Spelled Cells ts = (r : Row) × (rs : List Row) × (c : Condition) × Spell (spelled_row r ++ spelled_rows rs c) ts
Spelled MoreCells ts =
    (cs : List Cell) × (end : ℕ) × (rs : List Row) × (c : Condition) × Spell (spelled_cells cs end ++ spelled_rows rs c) ts
Spelled Move ts = (a : Action) × ((m : Token) → Is (placed_word (codes "MOV") m.at) m → Spell (spelled_action m.at a) (m ∷ ts))
Spelled Asked ts = (b : Bool) × (e : Equation) × (es : List Equation) × Spell (spelled_asked b e es) ts
Spelled Equations ts = (e : Equation) × (es : List Equation) × Spell (spelled_conjunction e es) ts
Spelled MoreEquations ts = (es : List Equation) × Spell (spelled_equations es) ts
Spelled AnyName ts = (n : Named) × Spell (a_name n ∷ []) ts

abbrev Means : Phrase → List Terminal → List Bool → Type 0
Means n cs marks = (ts : List Token) → map terminal_of ts ≡ cs → Spelled n ts

means-end : (n : Phrase) → IsTrue (is_nullable n) → Means n [] []
means-end MoreEquations h [] e = ([], tt)
means-end n h ts e = absurd (cc)

abbrev IsRule : Phrase → Terminal → List (Symbol Terminal Phrase) → Type 0
IsRule n c body = (cs : List Terminal) (marks : List Bool) → Each Means body cs marks → Means n (c ∷ cs) (false ∷ marks)

-- what a token of a name's terminal is
is_name_at : (t : Token) (c : Terminal) → is_name c ≡ true → c ≡ terminal_of t → Is (a_name (named_of t)) t
is_name_at t c h same = (is_named sorted t c h (sym same), refl, refl)

-- what stands after a token of the front
behind_first : (t : Token) (ts : List Token) (c : Terminal) (cs : List Terminal) → map terminal_of (t ∷ ts) ≡ c ∷ (cs ++ []) → map terminal_of ts ≡ cs
behind_first t ts c cs e = let rest : map terminal_of ts ≡ cs ++ [] = cc in rest ∙ append-nil cs

-- "=" NUMBER, and whatever stands after it
number_of : (ts : List Token) (cs : List Terminal) → map terminal_of ts ≡ Equals ∷ Number ∷ cs
    → (v : ℕ) × (rest : List Token) × (map terminal_of rest ≡ cs)
    × ((es : List Expected) → Spell es rest → Spell (a_symbol (codes "=") ∷ a_number v ∷ es) ts)
number_of (q ∷ d ∷ rest) cs e =
    let (v, is_v) = is_number sorted d cc in
    let equals : Is (a_symbol (codes "=")) q = is_symbol sorted q Equals refl (λ h. cc) cc in
    (v, rest, cc, λ es s. (equals, (is_v, s)))
number_of (q ∷ []) cs e = absurd (cc)
number_of [] cs e = absurd (cc)

-- NAME "]" "=" NUMBER, and whatever stands after it
bracketed_of : (xs : List Terminal) → ((us : List Token) → map terminal_of us ≡ xs → Spelled AnyName us) → (ts : List Token) (cs : List Terminal)
    → map terminal_of ts ≡ xs ++ (CloseBracket ∷ Equals ∷ Number ∷ cs)
    → (n : Named) × (v : ℕ) × (rest : List Token) × (map terminal_of rest ≡ cs)
    × ((es : List Expected) → Spell es rest → Spell (a_name n ∷ a_symbol (codes "]") ∷ a_symbol (codes "=") ∷ a_number v ∷ es) ts)
bracketed_of xs any ts cs e =
    let (us, vs, same, here, production) = map-part terminal_of ts xs (CloseBracket ∷ Equals ∷ Number ∷ cs) e in
    let (n, s) = any us here in
    let (z, zs, at, is_z, left) = map-head terminal_of vs CloseBracket (Equals ∷ Number ∷ cs) production in
    let (v, rest, more, spells) = number_of zs cs left in
    let closes : Is (a_symbol (codes "]")) z = is_symbol sorted z CloseBracket refl (λ h. cc) is_z in (
      n,
      v,
      rest,
      more,
      λ es r. (let tail : List Expected = a_symbol (codes "]") ∷ a_symbol (codes "=") ∷ a_number v ∷ es in
          let inner : Spell tail (z ∷ zs) = (closes, spells es r) in
          let behind_ : Spell tail vs = subst (Spell tail) (sym at) inner in
          subst (Spell (a_name n ∷ tail)) (sym same) (spell-append (a_name n ∷ []) tail us vs s behind_)),
    )

-- ":" NAME "=" NUMBER, and whatever stands after it
register_of : (xs : List Terminal) → ((us : List Token) → map terminal_of us ≡ xs → Spelled AnyName us) → (ts : List Token) (cs : List Terminal)
    → map terminal_of ts ≡ Colon ∷ (xs ++ (Equals ∷ Number ∷ cs))
    → (n : Named) × (v : ℕ) × (rest : List Token) × (map terminal_of rest ≡ cs)
    × ((es : List Expected) → Spell es rest → Spell (a_symbol (codes ":") ∷ a_name n ∷ a_symbol (codes "=") ∷ a_number v ∷ es) ts)
register_of xs any (c ∷ ts) cs e =
    let (us, vs, same, here, production) = map-part terminal_of ts xs (Equals ∷ Number ∷ cs) cc in
    let (n, s) = any us here in
    let (v, rest, more, spells) = number_of vs cs production in
    let colon : Is (a_symbol (codes ":")) c = is_symbol sorted c Colon refl (λ h. cc) cc in (
      n,
      v,
      rest,
      more,
      λ es r. (let tail : List Expected = a_symbol (codes "=") ∷ a_number v ∷ es in
          (colon, subst (Spell (a_name n ∷ tail)) (sym same) (spell-append (a_name n ∷ []) tail us vs s (spells es r)))),
    )
register_of xs any [] cs e = absurd (cc)

-- the block
block_ends : IsRule Values CloseBrace []
block_ends _ _ none (t ∷ []) e = (no_values, (is_symbol sorted t CloseBrace refl (λ h. cc) cc, tt))
block_ends _ _ none (t ∷ u ∷ ts) e = absurd (cc)
block_ends _ _ none [] e = absurd (cc)

block_named : (c : Terminal) → is_name c ≡ true → IsRule Values c (number_and MoreValues)
block_named c h _ _ (class (class (part {cs = cs} more none))) (n ∷ ts) e =
    let (v, rest, left, spells) = number_of ts (cs ++ []) cc in
    let (ss, last, s) = more rest (left ∙ append-nil cs) in
    let named : Is (a_name (named_of n)) n = is_name_at n c h cc in
    (values (record { location = bare (named_of n); value = v }) ss last, (named, spells (spelled_values ss last) s))
block_named c h _ _ (class (class (part more none))) [] e = absurd (cc)

block_bracketed : IsRule Values OpenBracket (bracketed_and MoreValues)
block_bracketed _ _ (part {cs = xs} {ds = ys} any (class (class (class (part {cs = cs} more none))))) (o ∷ ts) e =
    let (n, v, rest, left, spells) = bracketed_of xs any ts (cs ++ []) cc in
    let (ss, last, s) = more rest (left ∙ append-nil cs) in
    let opens : Is (a_symbol (codes "[")) o = is_symbol sorted o OpenBracket refl (λ h. cc) cc in
    (values (record { location = bracketed n; value = v }) ss last, (opens, spells (spelled_values ss last) s))
block_bracketed _ _ (part any (class (class (class (part more none))))) [] e = absurd (cc)

values_end : IsRule MoreValues CloseBrace []
values_end _ _ none (t ∷ []) e = ([], false, (is_symbol sorted t CloseBrace refl (λ h. cc) cc, tt))
values_end _ _ none (t ∷ u ∷ ts) e = absurd (cc)
values_end _ _ none [] e = absurd (cc)

values_more : IsRule MoreValues Semicolon (a_nonterminal Values ∷ [])
values_more _ _ (part {cs = cs} inside none) (t ∷ ts) e =
    let semicolon : Is (a_symbol (codes ";")) t = is_symbol sorted t Semicolon refl (λ h. cc) cc in
    by semicolon (inside ts (behind_first t ts Semicolon cs e))
  where
    by : Is (a_symbol (codes ";")) t → (b : Block) × Spell (spelled_block b) ts → Spelled MoreValues (t ∷ ts)
    by semicolon (no_values, s) = ([], true, (semicolon, s))
    by semicolon (values x ss last, s) = (x ∷ ss, last, (semicolon, s))
values_more _ _ (part inside none) [] e = absurd (cc)

-- the head
columns_named : (c : Terminal) → is_name c ≡ true → IsRule Columns c (a_nonterminal MoreColumns ∷ [])
columns_named c h _ _ (part {cs = cs} more none) (n ∷ ts) e =
    let (ns, s) = more ts (behind_first n ts c cs e) in
    (named_of n, ns, (is_name_at n c h cc, s))
columns_named c h _ _ (part more none) [] e = absurd (cc)

columns_more : IsRule MoreColumns Bar (a_nonterminal Columns ∷ [])
columns_more _ _ (part {cs = cs} more none) (t ∷ ts) e =
    let (n, ns, s) = more ts (behind_first t ts Bar cs e) in
    (n ∷ ns, (is_symbol sorted t Bar refl (λ h. cc) cc, s))
columns_more _ _ (part more none) [] e = absurd (cc)

columns_end : IsRule MoreColumns Semicolon []
columns_end _ _ none (t ∷ []) e = ([], (is_symbol sorted t Semicolon refl (λ h. cc) cc, tt))
columns_end _ _ none (t ∷ u ∷ ts) e = absurd (cc)
columns_end _ _ none [] e = absurd (cc)

-- after MOV
store_move : IsRule Move OpenBracket (a_nonterminal AnyName ∷ a_terminal CloseBracket ∷ a_terminal Comma ∷ a_terminal Dollar ∷ a_terminal Number ∷ [])
store_move _ _ (part {cs = xs} any (class (class (class (class none))))) (o ∷ ts) e =
    let (us, vs, same, here, production) = map-part terminal_of ts xs (CloseBracket ∷ Comma ∷ Dollar ∷ Number ∷ []) cc in
    let (n, s) = any us here in
    by n (is_symbol sorted o OpenBracket refl (λ h. cc) cc) us vs (sym same) s production
  where
    by : (n : Named) → Is (a_symbol (codes "[")) o → (us vs : List Token) → us ++ vs ≡ ts → Spell (a_name n ∷ []) us
        → map terminal_of vs ≡ CloseBracket ∷ Comma ∷ Dollar ∷ Number ∷ [] → Spelled Move (o ∷ ts)
    by n opens us (z ∷ c ∷ d ∷ v ∷ []) same s f =
        let (value, is_value) = is_number sorted v cc in
        let closes : Is (a_symbol (codes "]")) z = is_symbol sorted z CloseBracket refl (λ h. cc) cc in
        let comma : Is (a_symbol (codes ",")) c = is_symbol sorted c Comma refl (λ h. cc) cc in
        let dollar : Is (a_symbol (codes "$")) d = is_symbol sorted d Dollar refl (λ h. cc) cc in
        let tail : List Expected = a_symbol (codes "]") ∷ a_symbol (codes ",") ∷ a_symbol (codes "$") ∷ a_number value ∷ [] in
        let spells : Spell (a_name n ∷ tail) ts = subst (Spell (a_name n ∷ tail)) same
        (spell-append (a_name n ∷ []) tail us (z ∷ c ∷ d ∷ v ∷ []) s (closes, (comma, (dollar, (is_value, tt))))) in
        (store n value, λ m moves. (moves, (opens, spells)))
    by n opens us vs same s f = absurd (cc)
store_move _ _ (part any (class (class (class (class none))))) [] e = absurd (cc)

load_move : (c : Terminal) → is_name c ≡ true → IsRule Move c (a_terminal Comma ∷ a_terminal OpenBracket ∷ a_nonterminal AnyName ∷ a_terminal CloseBracket ∷ [])
load_move c h _ _ (class (class (part {cs = xs} any (class none)))) (r ∷ k ∷ o ∷ ts) e =
    let (us, vs, same, here, production) = map-part terminal_of ts xs (CloseBracket ∷ []) cc in
    let (n, s) = any us here in
    by n (is_name_at r c h cc) (is_symbol sorted k Comma refl (λ h. cc) cc) (is_symbol sorted o OpenBracket refl (λ h. cc) cc) us vs (sym same) s production
  where
    by : (n : Named) → Is (a_name (named_of r)) r → Is (a_symbol (codes ",")) k → Is (a_symbol (codes "[")) o → (us vs : List Token)
        → us ++ vs ≡ ts → Spell (a_name n ∷ []) us → map terminal_of vs ≡ CloseBracket ∷ [] → Spelled Move (r ∷ k ∷ o ∷ ts)
    by n named comma opens us (z ∷ []) same s f =
        let closes : Is (a_symbol (codes "]")) z = is_symbol sorted z CloseBracket refl (λ h. cc) cc in
        let tail : List Expected = a_symbol (codes "]") ∷ [] in
        let spells : Spell (a_name n ∷ tail) ts = subst (Spell (a_name n ∷ tail)) same
        (spell-append (a_name n ∷ []) tail us (z ∷ []) s (closes, tt)) in
        (load (named_of r) n, λ m moves. (moves, (named, (comma, (opens, spells)))))
    by n named comma opens us vs same s f = absurd (cc)
load_move c h _ _ (class (class (part any (class none)))) ts e = absurd (cc)

-- a cell, and what stands after it
cells_move : IsRule Cells Mov (a_nonterminal Move ∷ a_nonterminal MoreCells ∷ [])
cells_move _ _ (part {cs = xs} move (part {cs = cs} more none)) (m ∷ ts) e =
    let (us, vs, same, here, production) = map-part terminal_of ts xs (cs ++ []) cc in
    let (a, spells) = move us here in
    let (cells, end, rs, c, s) = more vs (production ∙ append-nil cs) in
    let moves : Is (placed_word (codes "MOV") m.at) m = is_placed_word sorted m Mov refl (λ h. cc) cc in
    let front : List Expected = spelled_action m.at a in
    let all : m ∷ (us ++ vs) ≡ m ∷ ts = ap (λ (xs : List Token). m ∷ xs) (sym same) in (
      record { first = instruction m.at a; others = cells; end = end },
      rs,
      c,
      subst (λ (es : List Expected). Spell es (m ∷ ts)) (sym (append_assoc front (spelled_cells cells end) (spelled_rows rs c)))
          (subst (Spell (front ++ (spelled_cells cells end ++ spelled_rows rs c))) all
          (spell-append front (spelled_cells cells end ++ spelled_rows rs c) (m ∷ us) vs (spells m moves) s)),
    )
cells_move _ _ (part move (part more none)) [] e = absurd (cc)

cells_fence : IsRule Cells Mfence (a_nonterminal MoreCells ∷ [])
cells_fence _ _ (part {cs = cs} more none) (m ∷ ts) e =
    let (cells, end, rs, c, s) = more ts (behind_first m ts Mfence cs e) in
    (record { first = instruction m.at fence; others = cells; end = end }, rs, c, (is_placed_word sorted m Mfence refl (λ h. cc) cc, s))
cells_fence _ _ (part more none) [] e = absurd (cc)

cells_bar : IsRule Cells Bar (a_nonterminal Cells ∷ [])
cells_bar _ _ (part {cs = cs} more none) (t ∷ ts) e =
    let (r, rs, c, s) = more ts (behind_first t ts Bar cs e) in
    (record { first = empty; others = r.first ∷ r.others; end = r.end }, rs, c, (is_symbol sorted t Bar refl (λ h. cc) cc, s))
cells_bar _ _ (part more none) [] e = absurd (cc)

cells_end : IsRule Cells Semicolon (a_nonterminal Rows ∷ [])
cells_end _ _ (part {cs = cs} more none) (t ∷ ts) e =
    let (rs, c, s) = more ts (behind_first t ts Semicolon cs e) in
    (record { first = empty; others = []; end = t.at }, rs, c, (is_placed_symbol sorted t Semicolon refl (λ h. cc) cc, s))
cells_end _ _ (part more none) [] e = absurd (cc)

more_bar : IsRule MoreCells Bar (a_nonterminal Cells ∷ [])
more_bar _ _ (part {cs = cs} more none) (t ∷ ts) e =
    let (r, rs, c, s) = more ts (behind_first t ts Bar cs e) in
    (r.first ∷ r.others, r.end, rs, c, (is_symbol sorted t Bar refl (λ h. cc) cc, s))
more_bar _ _ (part more none) [] e = absurd (cc)

more_end : IsRule MoreCells Semicolon (a_nonterminal Rows ∷ [])
more_end _ _ (part {cs = cs} more none) (t ∷ ts) e =
    let (rs, c, s) = more ts (behind_first t ts Semicolon cs e) in
    ([], t.at, rs, c, (is_placed_symbol sorted t Semicolon refl (λ h. cc) cc, s))
more_end _ _ (part more none) [] e = absurd (cc)

-- a line begins as a cell does
row_of : (body : List (Symbol Terminal Phrase)) (c : Terminal) → IsRule Cells c body → IsRule Rows c body
row_of body k cells cs marks each ts e = let (r, rs, c, s) = cells cs marks each ts e in (r ∷ rs, c, s)

denied_condition : IsRule Rows Tilde (a_terminal Exists ∷ a_nonterminal Asked ∷ [])
denied_condition _ _ (class (part {cs = cs} asked none)) (t ∷ x ∷ ts) e =
    let (b, q, qs, s) = asked ts (let rest : map terminal_of ts ≡ cs ++ [] = cc in rest ∙ append-nil cs) in
    let tilde : Is (a_symbol (codes "~")) t = is_symbol sorted t Tilde refl (λ h. cc) cc in
    let exists_ : Is (a_word (codes "exists")) x = is_word sorted x Exists refl (λ h. cc) cc in
    ([], record { denied = true; in_brackets = b; first = q; others = qs }, (tilde, (exists_, s)))
denied_condition _ _ (class (part asked none)) (t ∷ []) e = absurd (cc)
denied_condition _ _ (class (part asked none)) [] e = absurd (cc)

plain_condition : IsRule Rows Exists (a_nonterminal Asked ∷ [])
plain_condition _ _ (part {cs = cs} asked none) (x ∷ ts) e =
    let (b, q, qs, s) = asked ts (behind_first x ts Exists cs e) in
    ([], record { denied = false; in_brackets = b; first = q; others = qs }, (is_word sorted x Exists refl (λ h. cc) cc, s))
plain_condition _ _ (part asked none) [] e = absurd (cc)

-- equations
equation_register : IsRule Equations Number (register_and MoreEquations)
equation_register _ _ (class (part {cs = xs} {ds = ys} any (class (class (part {cs = cs} more none))))) (t ∷ ts) e =
    let (n, v, rest, left, spells) = register_of xs any ts (cs ++ []) cc in
    let (es, s) = more rest (left ∙ append-nil cs) in
    let (thread, is_thread) = is_number sorted t cc in
    (of_register thread t.at n v, es, ((is_thread, refl), spells (spelled_equations es) s))
equation_register _ _ (class (part any (class (class (part more none))))) [] e = absurd (cc)

equation_bracketed : IsRule Equations OpenBracket (bracketed_and MoreEquations)
equation_bracketed _ _ (part {cs = xs} {ds = ys} any (class (class (class (part {cs = cs} more none))))) (o ∷ ts) e =
    let (n, v, rest, left, spells) = bracketed_of xs any ts (cs ++ []) cc in
    let (es, s) = more rest (left ∙ append-nil cs) in
    let opens : Is (a_symbol (codes "[")) o = is_symbol sorted o OpenBracket refl (λ h. cc) cc in
    (of_location (record { location = bracketed n; value = v }), es, (opens, spells (spelled_equations es) s))
equation_bracketed _ _ (part any (class (class (class (part more none))))) [] e = absurd (cc)

equation_named : (c : Terminal) → is_name c ≡ true → IsRule Equations c (number_and MoreEquations)
equation_named c h _ _ (class (class (part {cs = cs} more none))) (n ∷ ts) e =
    let (v, rest, left, spells) = number_of ts (cs ++ []) cc in
    let (es, s) = more rest (left ∙ append-nil cs) in
    let named : Is (a_name (named_of n)) n = is_name_at n c h cc in
    (of_location (record { location = bare (named_of n); value = v }), es, (named, spells (spelled_equations es) s))
equation_named c h _ _ (class (class (part more none))) [] e = absurd (cc)

-- after exists stand equations, in brackets or not
asked_of : (body : List (Symbol Terminal Phrase)) (c : Terminal) → IsRule Equations c body → IsRule Asked c body
asked_of body k equations cs marks each ts e = let (q, qs, s) = equations cs marks each ts e in (false, q, qs, s)

asked_brackets : IsRule Asked Open (a_nonterminal Equations ∷ a_terminal Close ∷ [])
asked_brackets _ _ (part {cs = xs} equations (class none)) (o ∷ ts) e =
    let (us, vs, same, here, production) = map-part terminal_of ts xs (Close ∷ []) cc in
    let (q, qs, s) = equations us here in
    by q qs (is_symbol sorted o Open refl (λ h. cc) cc) us vs (sym same) s production
  where
    by : (q : Equation) (qs : List Equation) → Is (a_symbol (codes "(")) o → (us vs : List Token) → us ++ vs ≡ ts
        → Spell (spelled_conjunction q qs) us → map terminal_of vs ≡ Close ∷ [] → Spelled Asked (o ∷ ts)
    by q qs opens us (z ∷ []) same s f =
        let closes : Is (a_symbol (codes ")")) z = is_symbol sorted z Close refl (λ h. cc) cc in (
          true,
          q,
          qs,
          (
            opens,
            subst (Spell (spelled_conjunction q qs ++ a_symbol (codes ")") ∷ [])) same
                (spell-append (spelled_conjunction q qs) (a_symbol (codes ")") ∷ []) us (z ∷ []) s (closes, tt)),
          ),
        )
    by q qs opens us vs same s f = absurd (cc)
asked_brackets _ _ (part equations (class none)) [] e = absurd (cc)

equations_more : IsRule MoreEquations And (a_nonterminal Equations ∷ [])
equations_more _ _ (part {cs = cs} more none) (t ∷ ts) e =
    let (q, qs, s) = more ts (behind_first t ts And cs e) in
    (q ∷ qs, (is_symbol sorted t And refl (λ h. cc) cc, s))
equations_more _ _ (part more none) [] e = absurd (cc)

any_name : (c : Terminal) → is_name c ≡ true → IsRule AnyName c []
any_name c h _ _ none (t ∷ []) e = (named_of t, (is_name_at t c h cc, tt))
any_name c h _ _ none (t ∷ u ∷ ts) e = absurd (cc)
any_name c h _ _ none [] e = absurd (cc)

listing_rule : IsRule ListingPart OpenBrace (a_nonterminal Values ∷ a_nonterminal Columns ∷ a_nonterminal Rows ∷ [])
listing_rule _ _ (part {cs = xs} {ds = ys} block (part {cs = zs} {ds = ws} columns (part {cs = cs} rows none))) (o ∷ ts) e =
    let (us, vs, same, here, production) = map-part terminal_of ts xs (zs ++ (cs ++ [])) cc in
    let (vs1, vs2, same1, here1, behind1) = map-part terminal_of vs zs (cs ++ []) production in
    let (b, s) = block us here in
    let (n, ns, s1) = columns vs1 here1 in
    let (rs, c, s2) = rows vs2 (behind1 ∙ append-nil cs) in
    let all : us ++ (vs1 ++ vs2) ≡ ts = cc in
    let opens : Is (a_symbol (codes "{")) o = is_symbol sorted o OpenBrace refl (λ h. cc) cc in
    let head : List Expected = a_name n ∷ spelled_columns ns in (
      record { block = b; first_column = n; columns = ns; rows = rs; condition = c },
      (
        opens,
        subst (Spell (spelled_block b ++ (head ++ spelled_rows rs c))) all
            (spell-append (spelled_block b) (head ++ spelled_rows rs c) us (vs1 ++ vs2) s
            (spell-append head (spelled_rows rs c) vs1 vs2 s1 s2)),
      ),
    )
listing_rule _ _ (part block (part columns (part rows none))) [] e = absurd (cc)

rule : (n : Phrase) (c : Terminal) → MatchOption (production n c) (Unit {0})
    (λ body. (cs : List Terminal) (marks : List Bool) → Each Means body cs marks → Means n (c ∷ cs) (rules.deep n c ∷ marks))
rule ListingPart OpenBrace = listing_rule
rule ListingPart _ = tt
rule Values CloseBrace = block_ends
rule Values OpenBracket = block_bracketed
rule Values Mov = block_named Mov refl
rule Values Mfence = block_named Mfence refl
rule Values Exists = block_named Exists refl
rule Values Name = block_named Name refl
rule Values _ = tt
rule MoreValues CloseBrace = values_end
rule MoreValues Semicolon = values_more
rule MoreValues _ = tt
rule Columns Mov = columns_named Mov refl
rule Columns Mfence = columns_named Mfence refl
rule Columns Exists = columns_named Exists refl
rule Columns Name = columns_named Name refl
rule Columns _ = tt
rule MoreColumns Bar = columns_more
rule MoreColumns Semicolon = columns_end
rule MoreColumns _ = tt
rule Rows Tilde = denied_condition
rule Rows Exists = plain_condition
rule Rows Mov = row_of _ Mov cells_move
rule Rows Mfence = row_of _ Mfence cells_fence
rule Rows Bar = row_of _ Bar cells_bar
rule Rows Semicolon = row_of _ Semicolon cells_end
rule Rows _ = tt
rule Cells Mov = cells_move
rule Cells Mfence = cells_fence
rule Cells Bar = cells_bar
rule Cells Semicolon = cells_end
rule Cells _ = tt
rule MoreCells Bar = more_bar
rule MoreCells Semicolon = more_end
rule MoreCells _ = tt
rule Move OpenBracket = store_move
rule Move Mov = load_move Mov refl
rule Move Mfence = load_move Mfence refl
rule Move Exists = load_move Exists refl
rule Move Name = load_move Name refl
rule Move _ = tt
rule Asked Open = asked_brackets
rule Asked Number = asked_of _ Number equation_register
rule Asked OpenBracket = asked_of _ OpenBracket equation_bracketed
rule Asked Mov = asked_of _ Mov (equation_named Mov refl)
rule Asked Mfence = asked_of _ Mfence (equation_named Mfence refl)
rule Asked Exists = asked_of _ Exists (equation_named Exists refl)
rule Asked Name = asked_of _ Name (equation_named Name refl)
rule Asked _ = tt
rule Equations Number = equation_register
rule Equations OpenBracket = equation_bracketed
rule Equations Mov = equation_named Mov refl
rule Equations Mfence = equation_named Mfence refl
rule Equations Exists = equation_named Exists refl
rule Equations Name = equation_named Name refl
rule Equations _ = tt
rule MoreEquations And = equations_more
rule MoreEquations _ = tt
rule AnyName Mov = any_name Mov refl
rule AnyName Mfence = any_name Mfence refl
rule AnyName Exists = any_name Exists refl
rule AnyName Name = any_name Name refl
rule AnyName _ = tt

-- tokens whose terminals the table reads are a listing
pub listing_of_derives : (ts : List Token) → IsText (Derives rules ListingPart) (map terminal_of ts) → IsListing ts
listing_of_derives ts (marks, reads) =
    meaning rules Means (record { empty = means-end; rule = rule }) ListingPart (map terminal_of ts) marks reads ts refl

-- From the grammar to the table: the terminals of a listing are read.

-- the terminal of what is expected
abbrev terminal : Expected → Terminal
terminal e = expected_terminal vocabulary e

abbrev Reads : Phrase → List Terminal → Type 0
Reads n cs = IsText (Derives rules n) cs

begin : (n : Phrase) (c : Terminal) (body : List (Symbol Terminal Phrase)) → production n c ≡ Some body
    → {cs : List Terminal} {marks : List Bool} → Each (Derives rules) body cs marks → (ds : List Terminal) → ds ≡ c ∷ cs → Reads n ds
begin n c body e {marks = marks} each ds same = (deep n c ∷ marks, derives-begin n c body e each same refl)

-- a token, and after it one part
lead : (n : Phrase) (c : Terminal) (m : Phrase) → production n c ≡ Some (a_nonterminal m ∷ []) → (cs : List Terminal) → Reads m cs → Reads n (c ∷ cs)
lead n c m e cs (_, d) =
    begin n c (a_nonterminal m ∷ []) e (part d none) (c ∷ cs) (ap (λ (ds : List Terminal). c ∷ ds) (sym (append-nil cs)))

abbrev TakesNames : Phrase → List (Symbol Terminal Phrase) → Type 0
TakesNames n body = (c : Terminal) → is_name c ≡ true → production n c ≡ Some body

names_by : (n : Phrase) (body : List (Symbol Terminal Phrase)) → production n Mov ≡ Some body → production n Mfence ≡ Some body
    → production n Exists ≡ Some body → production n Name ≡ Some body → TakesNames n body
names_by n body mov mfence exists_ name Mov h = mov
names_by n body mov mfence exists_ name Mfence h = mfence
names_by n body mov mfence exists_ name Exists h = exists_
names_by n body mov mfence exists_ name Name h = name
names_by n body mov mfence exists_ name c h = absurd (cc)

values_names : TakesNames Values (number_and MoreValues)
values_names = names_by Values (number_and MoreValues) refl refl refl refl

columns_names : TakesNames Columns (a_nonterminal MoreColumns ∷ [])
columns_names = names_by Columns (a_nonterminal MoreColumns ∷ []) refl refl refl refl

move_names : TakesNames Move (a_terminal Comma ∷ a_terminal OpenBracket ∷ a_nonterminal AnyName ∷ a_terminal CloseBracket ∷ [])
move_names = names_by Move (a_terminal Comma ∷ a_terminal OpenBracket ∷ a_nonterminal AnyName ∷ a_terminal CloseBracket ∷ []) refl refl refl refl

asked_names : TakesNames Asked (number_and MoreEquations)
asked_names = names_by Asked (number_and MoreEquations) refl refl refl refl

equations_names : TakesNames Equations (number_and MoreEquations)
equations_names = names_by Equations (number_and MoreEquations) refl refl refl refl

any_names : TakesNames AnyName []
any_names = names_by AnyName [] refl refl refl refl

read_any : (w : List ℕ) → Reads AnyName (word_terminal w ∷ [])
read_any w = begin AnyName (word_terminal w) [] (any_names (word_terminal w) (word_is_name sorted w)) none (word_terminal w ∷ []) refl

-- loc "=" NUMBER, and what stands after it
read_stated : (n m : Phrase) → production n OpenBracket ≡ Some (bracketed_and m) → TakesNames n (number_and m) → (s : Stated)
    → (es : List Expected) → Reads m (map terminal es) → Reads n (map terminal (spelled_stated s ++ es))
unfolding symbol_terminal
read_stated n m bracket names s es (_, q) = by s.location
  where
    by : (l : Location) → Reads n (map terminal ((spelled_location l ++ (a_symbol (codes "=") ∷ a_number s.value ∷ [])) ++ es))
    by (bare x) =
        begin n (word_terminal x.word) (number_and m) (names (word_terminal x.word) (word_is_name sorted x.word)) (class (class (part q none)))
        (word_terminal x.word ∷ Equals ∷ Number ∷ map terminal es)
        (ap (λ (cs : List Terminal). word_terminal x.word ∷ Equals ∷ Number ∷ cs) (sym (append-nil (map terminal es))))
    by (bracketed x) =
        let (_, a) = read_any x.word in
        begin n OpenBracket (bracketed_and m) bracket (part a (class (class (class (part q none)))))
        (OpenBracket ∷ word_terminal x.word ∷ CloseBracket ∷ Equals ∷ Number ∷ map terminal es)
        (ap (λ (cs : List Terminal). OpenBracket ∷ word_terminal x.word ∷ CloseBracket ∷ Equals ∷ Number ∷ cs) (sym (append-nil (map terminal es))))

read_values : (ss : List Stated) (last : Bool) → Reads MoreValues (map terminal (spelled_values ss last))
unfolding symbol_terminal
read_values [] false = begin MoreValues CloseBrace [] refl none (CloseBrace ∷ []) refl
read_values [] true = lead MoreValues Semicolon Values refl (CloseBrace ∷ []) (begin Values CloseBrace [] refl none (CloseBrace ∷ []) refl)
read_values (s ∷ ss) last =
    lead MoreValues Semicolon Values refl (map terminal (spelled_stated s ++ spelled_values ss last))
    (read_stated Values MoreValues refl values_names s (spelled_values ss last) (read_values ss last))

read_block : (b : Block) → Reads Values (map terminal (spelled_block b))
unfolding symbol_terminal
read_block no_values = begin Values CloseBrace [] refl none (CloseBrace ∷ []) refl
read_block (values s ss last) = read_stated Values MoreValues refl values_names s (spelled_values ss last) (read_values ss last)

read_columns_of : (n : Named) (es : List Expected) → Reads MoreColumns (map terminal es) → Reads Columns (word_terminal n.word ∷ map terminal es)
read_columns_of n es q = lead Columns (word_terminal n.word) MoreColumns (columns_names (word_terminal n.word) (word_is_name sorted n.word)) (map terminal es) q

read_columns : (ns : List Named) → Reads MoreColumns (map terminal (spelled_columns ns))
unfolding symbol_terminal
read_columns [] = begin MoreColumns Semicolon [] refl none (Semicolon ∷ []) refl
read_columns (n ∷ ns) =
    lead MoreColumns Bar Columns refl (word_terminal n.word ∷ map terminal (spelled_columns ns)) (read_columns_of n (spelled_columns ns) (read_columns ns))

read_store : (location : Named) → Reads Move (OpenBracket ∷ word_terminal location.word ∷ CloseBracket ∷ Comma ∷ Dollar ∷ Number ∷ [])
read_store location =
    let (_, a) = read_any location.word in
    begin Move OpenBracket (a_nonterminal AnyName ∷ a_terminal CloseBracket ∷ a_terminal Comma ∷ a_terminal Dollar ∷ a_terminal Number ∷ []) refl
    (part a (class (class (class (class none)))))
    (OpenBracket ∷ word_terminal location.word ∷ CloseBracket ∷ Comma ∷ Dollar ∷ Number ∷ []) refl

read_load : (register location : Named) → Reads Move (word_terminal register.word ∷ Comma ∷ OpenBracket ∷ word_terminal location.word ∷ CloseBracket ∷ [])
read_load register location =
    let (_, a) = read_any location.word in
    begin Move (word_terminal register.word) (a_terminal Comma ∷ a_terminal OpenBracket ∷ a_nonterminal AnyName ∷ a_terminal CloseBracket ∷ [])
    (move_names (word_terminal register.word) (word_is_name sorted register.word)) (class (class (part a (class none))))
    (word_terminal register.word ∷ Comma ∷ OpenBracket ∷ word_terminal location.word ∷ CloseBracket ∷ []) refl

-- MOV, what it moves, and what stands after it
read_move : (n : Phrase) → production n Mov ≡ Some (a_nonterminal Move ∷ a_nonterminal MoreCells ∷ []) → (cs ds : List Terminal)
    → Reads Move cs → Reads MoreCells ds
    → Reads n (Mov ∷ (cs ++ ds))
read_move n moves cs ds (_, a) (_, q) =
    begin n Mov (a_nonterminal Move ∷ a_nonterminal MoreCells ∷ []) moves (part a (part q none)) (Mov ∷ (cs ++ ds))
    (ap (λ (es : List Terminal). Mov ∷ (cs ++ es)) (sym (append-nil ds)))

-- a cell and what stands after it, where that is read after an instruction and where the cell is empty
read_cell : (n : Phrase) → production n Mov ≡ Some (a_nonterminal Move ∷ a_nonterminal MoreCells ∷ [])
    → production n Mfence ≡ Some (a_nonterminal MoreCells ∷ [])
    → (c : Cell) (es : List Expected) → Reads MoreCells (map terminal es) → Reads n (map terminal es)
    → Reads n (map terminal (spelled_cell c ++ es))
unfolding word_terminal symbol_terminal
read_cell n moves fences empty es more plain = plain
read_cell n moves fences (instruction at fence) es more plain = lead n Mfence MoreCells fences (map terminal es) more
read_cell n moves fences (instruction at (store location value)) es more plain =
    read_move n moves (OpenBracket ∷ word_terminal location.word ∷ CloseBracket ∷ Comma ∷ Dollar ∷ Number ∷ []) (map terminal es) (read_store location) more
read_cell n moves fences (instruction at (load register location)) es more plain =
    read_move n moves (word_terminal register.word ∷ Comma ∷ OpenBracket ∷ word_terminal location.word ∷ CloseBracket ∷ []) (map terminal es)
    (read_load register location) more

read_cells : (n : Phrase) → production n Bar ≡ Some (a_nonterminal Cells ∷ []) → production n Semicolon ≡ Some (a_nonterminal Rows ∷ [])
    → (cs : List Cell) (end : ℕ)
    → (es : List Expected) → Reads Rows (map terminal es) → Reads n (map terminal (spelled_cells cs end ++ es))
unfolding symbol_terminal
read_cells n bar ends [] end es q = lead n Semicolon Rows ends (map terminal es) q
read_cells n bar ends (c ∷ cs) end es q =
    lead n Bar Cells bar (map terminal ((spelled_cell c ++ spelled_cells cs end) ++ es))
    (subst (λ (fs : List Expected). Reads Cells (map terminal fs)) (sym (append_assoc (spelled_cell c) (spelled_cells cs end) es))
    (read_cell Cells refl refl c (spelled_cells cs end ++ es) (read_cells MoreCells refl refl cs end es q) (read_cells Cells refl refl cs end es q)))

read_row : (r : Row) (es : List Expected) → Reads Rows (map terminal es) → Reads Rows (map terminal (spelled_row r ++ es))
read_row r es q =
    subst (λ (fs : List Expected). Reads Rows (map terminal fs)) (sym (append_assoc (spelled_cell r.first) (spelled_cells r.others r.end) es))
    (read_cell Rows refl refl r.first (spelled_cells r.others r.end ++ es)
    (read_cells MoreCells refl refl r.others r.end es q) (read_cells Rows refl refl r.others r.end es q))

-- an equation, and what stands after it
read_equation : (n : Phrase) → production n Number ≡ Some (register_and MoreEquations) → production n OpenBracket ≡ Some (bracketed_and MoreEquations)
    → TakesNames n (number_and MoreEquations) → (e : Equation) (es : List Expected) → Reads MoreEquations (map terminal es)
    → Reads n (map terminal (spelled_equation e ++ es))
unfolding symbol_terminal
read_equation n number bracket names (of_register thread at register value) es (_, q) =
    let (_, a) = read_any register.word in
    begin n Number (register_and MoreEquations) number (class (part a (class (class (part q none)))))
    (Number ∷ Colon ∷ word_terminal register.word ∷ Equals ∷ Number ∷ map terminal es)
    (ap (λ (cs : List Terminal). Number ∷ Colon ∷ word_terminal register.word ∷ Equals ∷ Number ∷ cs) (sym (append-nil (map terminal es))))
read_equation n number bracket names (of_location s) es q = read_stated n MoreEquations bracket names s es q

read_equations : (es : List Equation) → Reads MoreEquations (map terminal (spelled_equations es))
unfolding symbol_terminal
read_equations [] = ([], derives-end MoreEquations refl)
read_equations (e ∷ es) =
    lead MoreEquations And Equations refl (map terminal (spelled_equation e ++ spelled_equations es))
    (read_equation Equations refl refl equations_names e (spelled_equations es) (read_equations es))

read_asked : (b : Bool) (e : Equation) (es : List Equation) → Reads Asked (map terminal (spelled_asked b e es))
unfolding symbol_terminal
read_asked false e es = read_equation Asked refl refl asked_names e (spelled_equations es) (read_equations es)
read_asked true e es =
    let (_, q) = read_equation Equations refl refl equations_names e (spelled_equations es) (read_equations es) in
    begin Asked Open (a_nonterminal Equations ∷ a_terminal Close ∷ []) refl (part q (class none))
    (map terminal (spelled_asked true e es))
    (ap (λ (cs : List Terminal). Open ∷ cs) (map-append terminal (spelled_conjunction e es) (a_symbol (codes ")") ∷ [])))

read_condition : (denied in_brackets : Bool) (e : Equation) (es : List Equation)
    → Reads Rows (map terminal (spelled_denial denied ++ (a_word (codes "exists") ∷ spelled_asked in_brackets e es)))
unfolding word_terminal symbol_terminal
read_condition false b e es = lead Rows Exists Asked refl (map terminal (spelled_asked b e es)) (read_asked b e es)
read_condition true b e es =
    let (_, q) = read_asked b e es in
    begin Rows Tilde (a_terminal Exists ∷ a_nonterminal Asked ∷ []) refl (class (part q none)) (Tilde ∷ Exists ∷ map terminal (spelled_asked b e es))
    (ap (λ (cs : List Terminal). Tilde ∷ Exists ∷ cs) (sym (append-nil (map terminal (spelled_asked b e es)))))

read_rows : (rs : List Row) (c : Condition) → Reads Rows (map terminal (spelled_rows rs c))
read_rows [] c = read_condition c.denied c.in_brackets c.first c.others
read_rows (r ∷ rs) c = read_row r (spelled_rows rs c) (read_rows rs c)

read_listing : (l : Listing) → Reads ListingPart (map terminal (spelled_listing l))
unfolding symbol_terminal
read_listing l =
    let (_, b) = read_block l.block in
    let (_, h) = read_columns_of l.first_column (spelled_columns l.columns) (read_columns l.columns) in
    let (_, q) = read_rows l.rows l.condition in
    begin ListingPart OpenBrace (a_nonterminal Values ∷ a_nonterminal Columns ∷ a_nonterminal Rows ∷ []) refl (part b (part h (part q none)))
    (map terminal (spelled_listing l)) (ap (λ (cs : List Terminal). OpenBrace ∷ cs) (simp (map-append, append-nil)))

-- the terminals of a listing are read
pub derives_of_listing : (ts : List Token) → IsListing ts → IsText (Derives rules ListingPart) (map terminal_of ts)
derives_of_listing ts (l, s) =
    subst (Reads ListingPart) (sym (terminals-of_tokens vocabulary (spelled_listing l) ts s)) (read_listing l)
