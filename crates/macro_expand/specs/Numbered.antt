-- When a model has a long name, and a model whose names are all short ones.
use Rattle.std.specs.{Prelude.{◌≡◌, ℕ, Bool, List, length, nat_lt, All}, List.{list_any}}
use Rattle.pc_syntax.specs.{Written.{WrittenModel}, Renaming.{IsRenamed}}
use Rattle.macro_expand.specs.ModelNames.{names_of_model}

-- it has more than 32 bytes
abbrev pub is_long : List ℕ → Bool
is_long name = nat_lt 32 (length name)

abbrev pub has_long_name : WrittenModel → Bool
has_long_name m = list_any is_long (names_of_model m)

-- n is m with other names, and the new name of each name that m writes has eight bytes
pub record IsNumbered (m n : WrittenModel) : Type 0 where
  pub renamed : IsRenamed m n
  pub short : All (λ name. length (renamed.to name) ≡ 8) (names_of_model m)
