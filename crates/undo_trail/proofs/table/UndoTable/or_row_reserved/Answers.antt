use Rattle.std.proofs.{Common.{◌≡◌, ◌∙◌, ◌-◌, List, ℕ, length, subst, vec_len, vec_capacity}, lemmas.List.{with_items_is}}
use Rattle.undo_trail.{specs.{BitTable.{Extends}, Trail.{table_of}}, proofs.BitWords.{rows_apart, has_joined}}
use Rattle.undo_trail.proofs.table.UndoTable.or_row_reserved.Goals as goal

pub or_into-requires-clause-apart : goal.or_into-requires-clause-apart
or_into-requires-clause-apart c = rows_apart c.args.src c.args.dst c.self.inside.words

pub returns-clause-row : goal.returns-clause-row
returns-clause-row c =
    let u = c.or_into.new.table in
    let size : length u ≡ c.self.inside.table.len = c.or_into.auto.table ∙ c.deref_mut.ensures.len in
    rw (← c.self.view_is, with_items_is c.self.inside.table u size, ← c.deref_mut.ensures.value)
    (λ q d qh dh. has_joined c.deref_mut.result.now u c.self.inside.words c.args.dst c.args.src c.or_into.ensures.joined c.or_into.ensures.others q d dh)

pub returns-clause-trail : goal.returns-clause-trail
returns-clause-trail c =
    let s = c.self.inside in let u = c.or_into.new.table in
    let size : length u ≡ s.table.len = c.or_into.auto.table ∙ c.deref_mut.ensures.len in
    let room = vec_capacity s.trail - vec_len s.trail in
    let left = vec_capacity c.or_into.new.trail - vec_len c.or_into.new.trail in
    let P : List ℕ → Type 0 = λ t. Extends (table_of s.rows s.words room s.trail.items t) (table_of s.rows s.words left c.or_into.new.trail.items u) s.words in
    rw (← c.self.view_is, with_items_is s.table u size) (subst P c.deref_mut.ensures.value (c.or_into.ensures.grows.extends s.rows s.words room left))
