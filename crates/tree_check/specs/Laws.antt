-- Laws of the steps of a refutation, of either version.
use Rattle.std.specs.Prelude.{◌≡◌, ◌↔◌, List, ◌++◌}
use Rattle.pc_common.specs.{World.{Node}, Steps.{Step}}
use Rattle.pc_ground.specs.{declared.version.Version.{Version}, Tree.{Tree}, Refutes.{Branch, Runs}}

-- a first part of the steps leads to some branches, and the rest leads from there on
abbrev pub RunsAreJoined : Type 0
RunsAreJoined =
    (v : Version) (t : Tree Node) (xs ys : List (Step Node)) (a c : List Branch)
    → Runs v t (xs ++ ys) a c ↔ ((b : List Branch) × Runs v t xs a b × Runs v t ys b c)

-- the steps lead to one list of branches
abbrev pub OneListIsLeft : Type 0
OneListIsLeft =
    (v : Version) (t : Tree Node) (ss : List (Step Node)) (a b c : List Branch)
    → Runs v t ss a b → Runs v t ss a c → b ≡ c
