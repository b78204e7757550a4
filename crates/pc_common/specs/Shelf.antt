-- What is left of the file that a shelf has started.
use Rattle.std.specs.{Prelude.{ℕ, List, [], drop}, Option.{option_map_or}}
use Rattle.pc_common.specs.{Held.{bytes_at}, declared.shelf.Shelf.{Shelf}}

abbrev pub left_of : Shelf → List ℕ
left_of shelf = option_map_or (λ s. drop s.at (bytes_at shelf.held s.file)) shelf.started []
