-- Laws of tables that only gain tables.
use Rattle.std.proofs.{Common.{◌≡◌, ℕ, ◌+◌, ◌≤◌, [], length, take, get_or, refl, sym, ◌∙◌, ap, arith, take-take}, lemmas.List.{get_or-take, get_or_at}}
use Rattle.undo_trail.specs.BitTable.{BitTable, tables, Extends}

pub extends_then : (a b c : BitTable) (m n : ℕ) → Extends a b m → Extends b c n → Extends a c (m + n)
extends_then a b c m n e f = record {
  same_rows = f.same_rows ∙ e.same_rows;
  same_words = f.same_words ∙ e.same_words;
  same_tables =
      (let low = e.at_least in
      sym (take-take (length a.past + 1) (length b.past + 1) (tables c) (omega arith)) ∙ ap (take (length a.past + 1)) f.same_tables ∙ e.same_tables);
  at_least = (let x = e.at_least in let y = f.at_least in omega arith);
  at_most = (let x = e.at_most in let y = f.at_most in omega arith);
}

pub extends_more : (a b : BitTable) (m n : ℕ) → m ≤ n → Extends a b m → Extends a b n
extends_more a b m n h e = record {
  same_rows = e.same_rows;
  same_words = e.same_words;
  same_tables = e.same_tables;
  at_least = e.at_least;
  at_most = (let x = e.at_most in omega arith);
}

-- the last table is the present one
pub table_last : (v : BitTable) → get_or (tables v) (length v.past) [] ≡ v.now
table_last v = get_or_at v.past v.now [] [] (length v.past) refl

-- a table that was there stays
pub table_kept : (a b : BitTable) (n k : ℕ) → Extends a b n → k ≤ length a.past → get_or (tables b) k [] ≡ get_or (tables a) k []
table_kept a b n k e h =
    sym (get_or-take (length a.past + 1) (tables b) k [] (omega arith)) ∙ ap (λ ts. get_or ts k []) e.same_tables
