-- What is read of a listing's tokens is what its parts say.
use Rattle.std.proofs.Common.{◌≡◌, ℕ, ◌+◌, Bool, true, false, List, [], ◌∷◌, ◌++◌, map, codes, refl, sym, ap, subst, ◌∙◌, append_assoc}
use Rattle.std.proofs.lemmas.List.{append-nil}
use Rattle.uspec_lexer.specs.Token.{Token, Kind}
use Rattle.uspec_lexer.specs.Expected.{Expected, a_word, placed_word, a_number, placed_number, a_text, a_symbol, placed_symbol, Is, Spell}
use Rattle.x86_litmus.specs.Listing.{Named, Location, bare, bracketed, Stated, Block, no_values, values, fence, store, load, Cell, empty, instruction, Row, Equation, of_register, of_location, Condition, Listing}
use Rattle.x86_litmus.specs.Syntax.{a_name, spelled_location, spelled_stated, spelled_values, spelled_block, spelled_columns, spelled_cell, spelled_cells, spelled_row, spelled_equation, spelled_equations, spelled_conjunction, spelled_asked, spelled_denial, spelled_rows, IsListingOf}
use Rattle.x86_litmus.specs.Items.{Item, initial, column, instructed, denied, final, name_of, initial_of, items_of_block, items_of_cell, items_of_cells, items_of_row, item_of_equation, items_of_denial, items_of_rows, items_of}
use Rattle.x86_litmus.specs.Spots.{Spot, block, valued, head, row, moving, storing, stored, loading, asking, thread, register, behind, Step, goes, after_name, after_number, after_symbol, after_kind, after, with_item, items_from}
use Rattle.x86_litmus.specs.Reading.{items_in}

-- what is said after a step
abbrev told : Step → List Token → List Item
told s ts = with_item s.item (items_from s.next ts)

-- after the first tokens stand others, and what is read is this
record IsBehind (s : Spot) (ts : List Token) (es : List Expected) (next : Spot) (said : List Item) : Type 0 where
  pub rest : List Token
  pub spell : Spell es rest
  pub reads : items_from s ts ≡ said ++ items_from next rest

-- one token
record Takes (s : Spot) (ts : List Token) (es : List Expected) (step : ℕ → Step) : Type 0 where
  pub at : ℕ
  pub rest : List Token
  pub spell : Spell es rest
  pub reads : items_from s ts ≡ told (step at) rest

-- the step at what is expected; `at` is where a token stands whose place is not expected
abbrev step_of : Spot → Expected → ℕ → Step
step_of s (a_word w) at = after_name s (record { word = w; at = at })
step_of s (placed_word w place) at = after_name s (record { word = w; at = place })
step_of s (a_number v) at = after_number s v at
step_of s (placed_number v place) at = after_number s v place
step_of s a_text at = goes s
step_of s (a_symbol w) at = after_symbol s w at
step_of s (placed_symbol w place) at = after_symbol s w place

step_is : (s : Spot) (e : Expected) (t : Token) → Is e t → after s t ≡ step_of s e t.at
step_is s (a_word w) t h =
    ap (λ (k : Kind). after_kind s k t.piece t.at) h.0 ∙ ap (λ (p : List ℕ). after_name s (record { word = p; at = t.at })) h.1
step_is s (placed_word w place) t h =
    ap (λ (k : Kind). after_kind s k t.piece t.at) h.0 ∙ (λ i. after_name s (record { word = h.1 i; at = h.2 i }))
step_is s (a_number v) t h = ap (λ (k : Kind). after_kind s k t.piece t.at) h
step_is s (placed_number v place) t h =
    ap (λ (k : Kind). after_kind s k t.piece t.at) h.0 ∙ ap (λ (a : ℕ). after_number s v a) h.1
step_is s a_text t h = ap (λ (k : Kind). after_kind s k t.piece t.at) h
step_is s (a_symbol w) t h =
    ap (λ (k : Kind). after_kind s k t.piece t.at) h.0 ∙ ap (λ (p : List ℕ). after_symbol s p t.at) h.1
step_is s (placed_symbol w place) t h =
    ap (λ (k : Kind). after_kind s k t.piece t.at) h.0 ∙ (λ i. after_symbol s (h.1 i) (h.2 i))

takes : (s : Spot) (e : Expected) (es : List Expected) (ts : List Token) → Spell (e ∷ es) ts → Takes s ts es (step_of s e)
takes s e es [] h = absurd h
takes s e es (t ∷ ts) h = record {
  at = t.at;
  rest = ts;
  spell = h.1;
  reads = ap (λ (x : Step). told x ts) (step_is s e t h.0);
}

subst_spell : (es fs : List Expected) (ts : List Token) → es ≡ fs → Spell es ts → Spell fs ts
subst_spell es fs ts e = subst (λ (xs : List Expected). Spell xs ts) e

-- a value of a location, of the block and of the condition
block_stated : (s : Stated) (es : List Expected) (ts : List Token) → Spell (spelled_stated s ++ es) ts
    → IsBehind block ts es block (initial_of s ∷ [])
block_stated s es ts h = by s.location h
  where
    by : (l : Location) → Spell ((spelled_location l ++ (a_symbol (codes "=") ∷ a_number s.value ∷ [])) ++ es) ts
        → IsBehind block ts es block (initial (name_of l) s.value ∷ [])
    by (bare x) h =
        let a = takes block (a_name x) (a_symbol (codes "=") ∷ a_number s.value ∷ es) ts h in
        let b = takes (valued x) (a_symbol (codes "=")) (a_number s.value ∷ es) a.rest a.spell in
        let c = takes (valued x) (a_number s.value) es b.rest b.spell in
        record { rest = c.rest; spell = c.spell; reads = a.reads ∙ b.reads ∙ c.reads }
    by (bracketed x) h =
        let o = takes block (a_symbol (codes "[")) (a_name x ∷ a_symbol (codes "]") ∷ a_symbol (codes "=") ∷ a_number s.value ∷ es) ts h in
        let a = takes block (a_name x) (a_symbol (codes "]") ∷ a_symbol (codes "=") ∷ a_number s.value ∷ es) o.rest o.spell in
        let z = takes (valued x) (a_symbol (codes "]")) (a_symbol (codes "=") ∷ a_number s.value ∷ es) a.rest a.spell in
        let b = takes (valued x) (a_symbol (codes "=")) (a_number s.value ∷ es) z.rest z.spell in
        let c = takes (valued x) (a_number s.value) es b.rest b.spell in
        record { rest = c.rest; spell = c.spell; reads = o.reads ∙ a.reads ∙ z.reads ∙ b.reads ∙ c.reads }

asked_stated : (s : Stated) (es : List Expected) (ts : List Token) → Spell (spelled_stated s ++ es) ts
    → IsBehind asking ts es asking (final (name_of s.location) s.value ∷ [])
asked_stated s es ts h = by s.location h
  where
    by : (l : Location) → Spell ((spelled_location l ++ (a_symbol (codes "=") ∷ a_number s.value ∷ [])) ++ es) ts
        → IsBehind asking ts es asking (final (name_of l) s.value ∷ [])
    by (bare x) h =
        let a = takes asking (a_name x) (a_symbol (codes "=") ∷ a_number s.value ∷ es) ts h in
        let b = takes (behind x) (a_symbol (codes "=")) (a_number s.value ∷ es) a.rest a.spell in
        let c = takes (behind x) (a_number s.value) es b.rest b.spell in
        record { rest = c.rest; spell = c.spell; reads = a.reads ∙ b.reads ∙ c.reads }
    by (bracketed x) h =
        let o = takes asking (a_symbol (codes "[")) (a_name x ∷ a_symbol (codes "]") ∷ a_symbol (codes "=") ∷ a_number s.value ∷ es) ts h in
        let a = takes asking (a_name x) (a_symbol (codes "]") ∷ a_symbol (codes "=") ∷ a_number s.value ∷ es) o.rest o.spell in
        let z = takes (behind x) (a_symbol (codes "]")) (a_symbol (codes "=") ∷ a_number s.value ∷ es) a.rest a.spell in
        let b = takes (behind x) (a_symbol (codes "=")) (a_number s.value ∷ es) z.rest z.spell in
        let c = takes (behind x) (a_number s.value) es b.rest b.spell in
        record { rest = c.rest; spell = c.spell; reads = o.reads ∙ a.reads ∙ z.reads ∙ b.reads ∙ c.reads }

-- the values of the block and its brace
read_values : (ss : List Stated) (last : Bool) (es : List Expected) (ts : List Token) → Spell (spelled_values ss last ++ es) ts
    → IsBehind block ts es head (map initial_of ss)
read_values [] false es ts h =
    let a = takes block (a_symbol (codes "}")) es ts h in record { rest = a.rest; spell = a.spell; reads = a.reads }
read_values [] true es ts h =
    let s = takes block (a_symbol (codes ";")) (a_symbol (codes "}") ∷ es) ts h in
    let a = takes block (a_symbol (codes "}")) es s.rest s.spell in
    record { rest = a.rest; spell = a.spell; reads = s.reads ∙ a.reads }
read_values (x ∷ ss) last es ts h =
    let s = takes block (a_symbol (codes ";")) ((spelled_stated x ++ spelled_values ss last) ++ es) ts h in
    let parts = subst_spell _ _ s.rest (append_assoc (spelled_stated x) (spelled_values ss last) es) s.spell in
    let a = block_stated x (spelled_values ss last ++ es) s.rest parts in
    let b = read_values ss last es a.rest a.spell in
    record { rest = b.rest; spell = b.spell; reads = s.reads ∙ a.reads ∙ ap (λ (is : List Item). initial_of x ∷ is) b.reads }

read_block : (b : Block) (es : List Expected) (ts : List Token) → Spell (spelled_block b ++ es) ts → IsBehind block ts es head (items_of_block b)
read_block no_values es ts h =
    let a = takes block (a_symbol (codes "}")) es ts h in record { rest = a.rest; spell = a.spell; reads = a.reads }
read_block (values x ss last) es ts h =
    let a = block_stated x (spelled_values ss last ++ es) ts (subst_spell _ _ ts (append_assoc (spelled_stated x) (spelled_values ss last) es) h) in
    let b = read_values ss last es a.rest a.spell in
    record { rest = b.rest; spell = b.spell; reads = a.reads ∙ ap (λ (is : List Item). initial_of x ∷ is) b.reads }

-- the head
read_columns : (ns : List Named) (es : List Expected) (ts : List Token) → Spell (spelled_columns ns ++ es) ts
    → IsBehind head ts es (row 0) (map column ns)
read_columns [] es ts h =
    let a = takes head (a_symbol (codes ";")) es ts h in record { rest = a.rest; spell = a.spell; reads = a.reads }
read_columns (n ∷ ns) es ts h =
    let b = takes head (a_symbol (codes "|")) (a_name n ∷ (spelled_columns ns ++ es)) ts h in
    let a = takes head (a_name n) (spelled_columns ns ++ es) b.rest b.spell in
    let c = read_columns ns es a.rest a.spell in
    record { rest = c.rest; spell = c.spell; reads = b.reads ∙ a.reads ∙ ap (λ (is : List Item). column n ∷ is) c.reads }

-- a cell
read_cell : (k : ℕ) (c : Cell) (es : List Expected) (ts : List Token) → Spell (spelled_cell c ++ es) ts
    → IsBehind (row k) ts es (row k) (items_of_cell k c)
read_cell k empty es ts h = record { rest = ts; spell = h; reads = refl }
read_cell k (instruction at fence) es ts h =
    let a = takes (row k) (placed_word (codes "MFENCE") at) es ts h in
    record { rest = a.rest; spell = a.spell; reads = a.reads }
read_cell k (instruction at (store x v)) es ts h =
    let e4 : List Expected = a_symbol (codes "$") ∷ a_number v ∷ es in
    let e3 : List Expected = a_symbol (codes ",") ∷ e4 in
    let e2 : List Expected = a_symbol (codes "]") ∷ e3 in
    let m = takes (row k) (placed_word (codes "MOV") at) (a_symbol (codes "[") ∷ a_name x ∷ e2) ts h in
    let o = takes (moving k at) (a_symbol (codes "[")) (a_name x ∷ e2) m.rest m.spell in
    let a = takes (storing k at) (a_name x) e2 o.rest o.spell in
    let z = takes (stored k at x) (a_symbol (codes "]")) e3 a.rest a.spell in
    let y = takes (stored k at x) (a_symbol (codes ",")) e4 z.rest z.spell in
    let d = takes (stored k at x) (a_symbol (codes "$")) (a_number v ∷ es) y.rest y.spell in
    let n = takes (stored k at x) (a_number v) es d.rest d.spell in
    record { rest = n.rest; spell = n.spell; reads = m.reads ∙ o.reads ∙ a.reads ∙ z.reads ∙ y.reads ∙ d.reads ∙ n.reads }
read_cell k (instruction at (load r x)) es ts h =
    let e3 : List Expected = a_symbol (codes "]") ∷ es in
    let e2 : List Expected = a_symbol (codes "[") ∷ a_name x ∷ e3 in
    let m = takes (row k) (placed_word (codes "MOV") at) (a_name r ∷ a_symbol (codes ",") ∷ e2) ts h in
    let g = takes (moving k at) (a_name r) (a_symbol (codes ",") ∷ e2) m.rest m.spell in
    let y = takes (loading k at r) (a_symbol (codes ",")) e2 g.rest g.spell in
    let o = takes (loading k at r) (a_symbol (codes "[")) (a_name x ∷ e3) y.rest y.spell in
    let a = takes (loading k at r) (a_name x) e3 o.rest o.spell in
    let z = takes (row k) (a_symbol (codes "]")) es a.rest a.spell in
    record {
      rest = z.rest;
      spell = z.spell;
      reads = m.reads ∙ g.reads ∙ y.reads ∙ o.reads ∙ a.reads ∙ ap (λ (is : List Item). instructed k at (load r x) ∷ is) z.reads;
    }

read_cells : (k : ℕ) (cs : List Cell) (end : ℕ) (es : List Expected) (ts : List Token) → Spell (spelled_cells cs end ++ es) ts
    → IsBehind (row k) ts es (row 0) (items_of_cells k cs end)
read_cells k [] end es ts h =
    let a = takes (row k) (placed_symbol (codes ";") end) es ts h in record { rest = a.rest; spell = a.spell; reads = a.reads }
read_cells k (c ∷ cs) end es ts h =
    let b = takes (row k) (a_symbol (codes "|")) ((spelled_cell c ++ spelled_cells cs end) ++ es) ts h in
    let a = read_cell (k + 1) c (spelled_cells cs end ++ es) b.rest
    (subst_spell _ _ b.rest (append_assoc (spelled_cell c) (spelled_cells cs end) es) b.spell) in
    let d = read_cells (k + 1) cs end es a.rest a.spell in
    record {
      rest = d.rest;
      spell = d.spell;
      reads = b.reads ∙ a.reads ∙ ap (λ (is : List Item). items_of_cell (k + 1) c ++ is) d.reads
          ∙ sym (append_assoc (items_of_cell (k + 1) c) (items_of_cells (k + 1) cs end) (items_from (row 0) d.rest));
    }

read_row : (r : Row) (es : List Expected) (ts : List Token) → Spell (spelled_row r ++ es) ts → IsBehind (row 0) ts es (row 0) (items_of_row r)
read_row r es ts h =
    let a = read_cell 0 r.first (spelled_cells r.others r.end ++ es) ts
    (subst_spell _ _ ts (append_assoc (spelled_cell r.first) (spelled_cells r.others r.end) es) h) in
    let d = read_cells 0 r.others r.end es a.rest a.spell in
    record {
      rest = d.rest;
      spell = d.spell;
      reads = a.reads ∙ ap (λ (is : List Item). items_of_cell 0 r.first ++ is) d.reads
          ∙ sym (append_assoc (items_of_cell 0 r.first) (items_of_cells 0 r.others r.end) (items_from (row 0) d.rest));
    }

-- the condition
read_equation : (e : Equation) (es : List Expected) (ts : List Token) → Spell (spelled_equation e ++ es) ts
    → IsBehind asking ts es asking (item_of_equation e ∷ [])
read_equation (of_location s) es ts h = asked_stated s es ts h
read_equation (of_register t at r v) es ts h =
    let e2 : List Expected = a_symbol (codes "=") ∷ a_number v ∷ es in
    let a = takes asking (placed_number t at) (a_symbol (codes ":") ∷ a_name r ∷ e2) ts h in
    let b = takes (thread t at) (a_symbol (codes ":")) (a_name r ∷ e2) a.rest a.spell in
    let c = takes (thread t at) (a_name r) e2 b.rest b.spell in
    let d = takes (register t at r) (a_symbol (codes "=")) (a_number v ∷ es) c.rest c.spell in
    let f = takes (register t at r) (a_number v) es d.rest d.spell in
    record { rest = f.rest; spell = f.spell; reads = a.reads ∙ b.reads ∙ c.reads ∙ d.reads ∙ f.reads }

read_equations : (qs : List Equation) (es : List Expected) (ts : List Token) → Spell (spelled_equations qs ++ es) ts
    → IsBehind asking ts es asking (map item_of_equation qs)
read_equations [] es ts h = record { rest = ts; spell = h; reads = refl }
read_equations (q ∷ qs) es ts h =
    let a = takes asking (a_symbol (codes "/\\")) ((spelled_equation q ++ spelled_equations qs) ++ es) ts h in
    let b = read_equation q (spelled_equations qs ++ es) a.rest
    (subst_spell _ _ a.rest (append_assoc (spelled_equation q) (spelled_equations qs) es) a.spell) in
    let c = read_equations qs es b.rest b.spell in
    record { rest = c.rest; spell = c.spell; reads = a.reads ∙ b.reads ∙ ap (λ (is : List Item). item_of_equation q ∷ is) c.reads }

read_conjunction : (q : Equation) (qs : List Equation) (es : List Expected) (ts : List Token) → Spell (spelled_conjunction q qs ++ es) ts
    → IsBehind asking ts es asking (item_of_equation q ∷ map item_of_equation qs)
read_conjunction q qs es ts h =
    let b = read_equation q (spelled_equations qs ++ es) ts (subst_spell _ _ ts (append_assoc (spelled_equation q) (spelled_equations qs) es) h) in
    let c = read_equations qs es b.rest b.spell in
    record { rest = c.rest; spell = c.spell; reads = b.reads ∙ ap (λ (is : List Item). item_of_equation q ∷ is) c.reads }

nothing_behind : (s : Spot) (ts : List Token) → Spell [] ts → items_from s ts ≡ []
nothing_behind s [] h = refl
nothing_behind s (t ∷ ts) h = absurd h

whole : (s next : Spot) (ts : List Token) (said : List Item) → IsBehind s ts [] next said → items_from s ts ≡ said
whole s next ts said b =
    b.reads ∙ ap (λ (is : List Item). said ++ is) (nothing_behind next b.rest b.spell) ∙ append-nil said

read_asked : (b : Bool) (q : Equation) (qs : List Equation) (ts : List Token) → Spell (spelled_asked b q qs) ts
    → items_from asking ts ≡ item_of_equation q ∷ map item_of_equation qs
read_asked false q qs ts h =
    whole asking asking ts (item_of_equation q ∷ map item_of_equation qs)
    (read_conjunction q qs [] ts (subst_spell _ _ ts (sym (append-nil (spelled_conjunction q qs))) h))
read_asked true q qs ts h =
    let o = takes asking (a_symbol (codes "(")) (spelled_conjunction q qs ++ a_symbol (codes ")") ∷ []) ts h in
    let c = read_conjunction q qs (a_symbol (codes ")") ∷ []) o.rest o.spell in
    let z = takes asking (a_symbol (codes ")")) [] c.rest c.spell in
    let said : List Item = item_of_equation q ∷ map item_of_equation qs in
    o.reads ∙ c.reads ∙ ap (λ (is : List Item). said ++ is) (z.reads ∙ nothing_behind asking z.rest z.spell) ∙ append-nil said

read_condition : (d b : Bool) (q : Equation) (qs : List Equation) (ts : List Token)
    → Spell (spelled_denial d ++ (a_word (codes "exists") ∷ spelled_asked b q qs)) ts
    → items_from (row 0) ts ≡ items_of_denial d ++ (item_of_equation q ∷ map item_of_equation qs)
read_condition false b q qs ts h =
    let x = takes (row 0) (a_word (codes "exists")) (spelled_asked b q qs) ts h in x.reads ∙ read_asked b q qs x.rest x.spell
read_condition true b q qs ts h =
    let t = takes (row 0) (a_symbol (codes "~")) (a_word (codes "exists") ∷ spelled_asked b q qs) ts h in
    let x = takes (row 0) (a_word (codes "exists")) (spelled_asked b q qs) t.rest t.spell in
    t.reads ∙ ap (λ (is : List Item). denied ∷ is) (x.reads ∙ read_asked b q qs x.rest x.spell)

read_rows : (rs : List Row) (c : Condition) (ts : List Token) → Spell (spelled_rows rs c) ts → items_from (row 0) ts ≡ items_of_rows rs c
read_rows [] c ts h = read_condition c.denied c.in_brackets c.first c.others ts h
read_rows (r ∷ rs) c ts h =
    let a = read_row r (spelled_rows rs c) ts h in
    a.reads ∙ ap (λ (is : List Item). items_of_row r ++ is) (read_rows rs c a.rest a.spell)

-- the tokens of a listing say what its parts say
pub read_listing : (l : Listing) (ts : List Token) → IsListingOf l ts → items_in ts ≡ items_of l
read_listing l ts h =
    let head_ : List Expected = a_name l.first_column ∷ (spelled_columns l.columns ++ spelled_rows l.rows l.condition) in
    let o = takes block (a_symbol (codes "{")) (spelled_block l.block ++ head_) ts h in
    let b = read_block l.block head_ o.rest o.spell in
    let n = takes head (a_name l.first_column) (spelled_columns l.columns ++ spelled_rows l.rows l.condition) b.rest b.spell in
    let c = read_columns l.columns (spelled_rows l.rows l.condition) n.rest n.spell in
    o.reads ∙ b.reads
    ∙ ap (λ (is : List Item). items_of_block l.block ++ is)
    (n.reads ∙ ap (λ (is : List Item). column l.first_column ∷ is)
    (c.reads ∙ ap (λ (is : List Item). map column l.columns ++ is) (read_rows l.rows l.condition c.rest c.spell)))
