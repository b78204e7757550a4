-- Whether a dependency of a kind goes from one micro-op to another, by their places in test order.
use Rattle.std.specs.{Prelude.{ℕ, Bool, List, ◌==◌, ◌&&◌}, List.{list_any}}
use Rattle.pc_common.specs.{Case.{Dependency}, Names.{same_name}}

-- d says that a dependency of this kind goes from i to j
abbrev pub says : Dependency → List ℕ → ℕ → ℕ → Bool
says d kind i j = same_name d.kind kind && (d.source == i) && (d.target == j)

-- one of these dependencies says so
abbrev pub depends_by : List Dependency → List ℕ → ℕ → ℕ → Bool
depends_by ds kind i j = list_any (λ d. says d kind i j) ds
