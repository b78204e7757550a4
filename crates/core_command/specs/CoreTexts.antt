-- The text of a core, by the texts of the certificates in it.
use Rattle.std.specs.{Prelude.{ℕ, List, [], ◌∷◌, ◌++◌, codes, length}, List.{flat_map}, Fmt.{decimal}}

-- a word and a number
abbrev pub numbered_line : List ℕ → ℕ → List ℕ
numbered_line word n = word ++ (decimal n ++ codes "\n")

abbrev pub axiom_line : ℕ → List ℕ
axiom_line n = numbered_line (codes "axiom ") n

abbrev pub core_line : ℕ → List ℕ
core_line n = numbered_line (codes "core ") n

abbrev pub without_line : ℕ → List ℕ
without_line n = numbered_line (codes "without ") n

-- two lists side by side
abbrev pub pairs : {X Y : Type 0} → List X → List Y → List (X × Y)
pairs [] ys = []
pairs (x ∷ xs) [] = []
pairs (x ∷ xs) (y ∷ ys) = (x, y) ∷ pairs xs ys

-- the number of an axiom, and the certificate of a graph without it
abbrev pub without_text : ℕ × List ℕ → List ℕ
without_text p = without_line p.0 ++ p.1

-- with the certificate of a graph
abbrev pub no_core_text : List ℕ → List ℕ
no_core_text graph = codes "core none\n" ++ (graph ++ codes "end\n")

-- with the numbers of the axioms, the certificate of their refutation, and for each of them the one of a graph without it
abbrev pub core_text : List ℕ → List ℕ → List (List ℕ) → List ℕ
core_text numbers tree graphs =
    core_line (length numbers) ++ (flat_map axiom_line numbers ++ (codes "refutation\n" ++ (tree
    ++ (flat_map without_text (pairs numbers graphs) ++ codes "end\n"))))
