-- The ring: a model of one stage, and a test in which each core reads what the next one writes.
use Rattle.std.specs.{Prelude.{ℕ, ◌+◌, ◌*◌, ◌%◌, List, ◌++◌, codes}, List.{flat_map, range_with_len}, Fmt.{decimal}}

-- the stage, and the axiom that a core's micro-ops keep program order
abbrev pub program_order : List ℕ
program_order =
    codes "StageName 0 \"S\".\n"
    ++ codes "Axiom \"PO\": forall microops \"i\", forall microops \"j\",\n"
    ++ codes "  ProgramOrder i j => AddEdge ((i, S), (j, S), \"po\").\n"

-- the axiom that a read gets its value from one write, and each other write is before that write or after the read
abbrev pub read_from : List ℕ
read_from =
    codes "Axiom \"RF\": forall microops \"i\", IsAnyRead i => exists microop \"w\",\n"
    ++ codes "  IsAnyWrite w /\\ SamePhysicalAddress w i /\\ SameData w i\n"
    ++ codes "  /\\ AddEdge ((w, S), (i, S), \"rf\") /\\ forall microops \"v\",\n"
    ++ codes "  IsAnyWrite v /\\ SamePhysicalAddress v i /\\ ~SameMicroop v w =>\n"
    ++ codes "  AddEdge ((v, S), (w, S), \"co\") \\/ AddEdge ((i, S), (v, S), \"fr\").\n"

-- the model's text
abbrev pub ring_model : List ℕ
ring_model = program_order ++ read_from

-- the line of micro-op g.0 on a core's thread of the same number: an access of the one address, with its value
abbrev pub op_line : ℕ → ℕ → List ℕ → ℕ → List ℕ
op_line g core access value =
    codes "Microop " ++ decimal g ++ codes " " ++ decimal core ++ codes " " ++ decimal core ++ codes " 0 ("
    ++ access ++ codes " (VA 0 0) (PA 0 0) (Data " ++ decimal value ++ codes ")).\n"

-- core c of n writes c + 1, and then reads what the next core writes; the next of the last one is the first
abbrev pub core_lines : ℕ → ℕ → List ℕ
core_lines n c = op_line (2 * c) c (codes "Write") (c + 1) ++ op_line (2 * c + 1) c (codes "Read") ((c + 1) % n + 1)

-- the text of the test of n cores, whose outcome is forbidden
abbrev pub ring_test : ℕ → List ℕ
ring_test n = codes "Litmus \"ring\".\n" ++ flat_map (core_lines n) (range_with_len 0 n) ++ codes "Forbidden.\n"
