use Rattle.std.{proofs.Common.{map}, specs.Prelude.{◌↔◌}}
use Rattle.pc_ground.specs.Keys.{key_node}
use Rattle.tree_check.proofs.Closes.{cycle_closes, path_closes, absent_closes, false_closes}
use Rattle.tree_check.proofs.closing.closes.Goals as goal

through : {A B C : Type 0} → A ↔ B → B ↔ C → A ↔ C
through f g = (λ a. g.0 (f.0 a), λ c. f.1 (g.1 c))

pub returns-in-Cycle : goal.returns-in-Cycle
returns-in-Cycle c = λ t ps flat has. rw c.in-Cycle.is (through c.is_cycle.ensures (cycle_closes t c.args.facts.now ps has (map key_node c.in-Cycle.nodes.now)))

pub returns-in-Path : goal.returns-in-Path
returns-in-Path c = λ t ps flat has. rw c.in-Path.is (through c.is_path.ensures (path_closes t c.args.facts.now ps has (map key_node c.in-Path.nodes.now)))

pub returns-in-Absent : goal.returns-in-Absent
returns-in-Absent c = λ t ps flat has. rw c.in-Absent.is (through c.is_absent.ensures (absent_closes t c.args.facts.now ps has (key_node c.in-Absent.node)))

pub returns-in-False : goal.returns-in-False
returns-in-False c = λ t ps flat has. rw c.in-False.is (through (c.is_false.ensures t flat) (false_closes t _))
