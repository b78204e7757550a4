-- The lines of a certificate, over plain nodes, and the text of each.
use Rattle.std.specs.{Prelude.{ℕ, Bool, true, false, List, [], ◌∷◌, ◌++◌, Option, Some, None, codes, slice_get, ◌==◌, if◌then◌else◌}, List.{flat_map}}
use Rattle.std.specs.Fmt.{decimal}
use Rattle.pc_common.specs.{Case.{MicroOp, Expectation, permitted, forbidden, unstated}, World.{Node}}
use Rattle.pc_common.specs.Steps.{Leaf, cycle, path, absent, false_step, Step, split, close}

pub data Verdict : Type 0 where
  observable : Verdict
  unobservable : Verdict

pub data Line : Type 0 where
  verdict : Verdict → Line
  -- how the verdict compares with what the test states
  second : Verdict → Expectation → Line
  -- the splits of the text may be signed
  version_two : Line
  node : Node → Line
  edge : Node → Node → Line
  step : Step Node → Line
  end : Line

-- a stage: its number and its name
abbrev pub StageName : Type 0
StageName = ℕ × List ℕ

-- what the text of a node is read off: the test's micro-ops and the model's stages
pub record Names : Type 0 where
  pub ops : List MicroOp
  pub stages : List StageName

-- g.n of the micro-op at this place in test order
abbrev pub op_text : Option MicroOp → List ℕ
op_text None = []
op_text (Some o) = decimal o.g ++ codes "." ++ decimal o.n

-- the name of the first stage with this number
abbrev pub stage_name : List StageName → ℕ → List ℕ
stage_name [] k = []
stage_name (s ∷ ss) k = if s.0 == k then s.1 else stage_name ss k

-- g.n@core:Stage
abbrev pub node_text : Names → Node → List ℕ
node_text names a =
    op_text (slice_get names.ops a.op) ++ codes "@" ++ decimal a.core ++ codes ":" ++ stage_name names.stages a.stage

abbrev pub verdict_text : Verdict → List ℕ
verdict_text observable = codes "observable"
verdict_text unobservable = codes "unobservable"

-- forbidden and observable is a bug; permitted and unobservable is stricter than needed
abbrev pub second_text : Verdict → Expectation → List ℕ
second_text observable permitted = codes "test permitted: ok"
second_text observable forbidden = codes "test forbidden: BUG"
second_text observable unstated = codes "test unstated"
second_text unobservable permitted = codes "test permitted: stricter"
second_text unobservable forbidden = codes "test forbidden: ok"
second_text unobservable unstated = codes "test unstated"

-- each node's text after a space
abbrev pub nodes_text : Names → List Node → List ℕ
nodes_text names nodes = flat_map (λ a. codes " " ++ node_text names a) nodes

-- a position that is meant negated has the sign `~`
abbrev pub sign_text : Bool → List ℕ
sign_text true = codes "~"
sign_text false = []

abbrev pub leaf_words : Names → Leaf Node → List ℕ
leaf_words names (cycle nodes) = codes "cycle" ++ nodes_text names nodes
leaf_words names (path nodes) = codes "path" ++ nodes_text names nodes
leaf_words names (absent a) = codes "absent" ++ nodes_text names (a ∷ [])
leaf_words names false_step = codes "false"

abbrev pub step_words : Names → Step Node → List ℕ
step_words names (split negated p) = codes "split " ++ sign_text negated ++ decimal p
step_words names (close l) = leaf_words names l

abbrev pub line_words : Names → Line → List ℕ
line_words names (verdict v) = verdict_text v
line_words names (second v e) = second_text v e
line_words names version_two = codes "version 2"
line_words names (node a) = codes "node" ++ nodes_text names (a ∷ [])
line_words names (edge a b) = codes "edge" ++ nodes_text names (a ∷ b ∷ [])
line_words names (step s) = step_words names s
line_words names end = codes "end"

-- a line ends with LF
abbrev pub line_text : Names → Line → List ℕ
line_text names line = line_words names line ++ codes "\n"

abbrev pub lines_text : Names → List Line → List ℕ
lines_text names lines = flat_map (line_text names) lines
