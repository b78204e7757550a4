use Rattle.std.proofs.Common.{List, map, ap, subst, sym}
use Rattle.pc_common.specs.Steps.{cycle, path, absent}
use Rattle.pc_ground.specs.{Keys.{key_node}, declared.node_key.NodeKey.{NodeKey}}
use Rattle.refutation.specs.Steps.{plain_step}
use Rattle.lifter.{specs.KnownFacts.{IsCycleKnown, IsPathKnown}, proofs.LeftBranches.{kept_closed}}
use Rattle.lifter.proofs.StepsAhead.{next_same, can_split, split_taken, can_cycle, can_path, can_absent, never_false, leaf_waits, leaf_taken}
use Rattle.lifter.proofs.following.take_step.Goals as goal

pub split_or-requires-clause-good : goal.split_or-requires-clause-good
split_or-requires-clause-good c =
    let a = next_same (ap plain_step c.in-Split.is) c.requires.ahead in
    (a.0, (can_split c.args.case.now c.args.tree.now a.0 c.args.state.now c.in-Split.negated c.in-Split.position a.1 a.2).0)

pub split_or-requires-clause-known : goal.split_or-requires-clause-known
split_or-requires-clause-known c =
    let a = next_same (ap plain_step c.in-Split.is) c.requires.ahead in
    (can_split c.args.case.now c.args.tree.now a.0 c.args.state.now c.in-Split.negated c.in-Split.position a.1 a.2).1

pub returns-in_ok-split_or-in-Split-clause-ahead : goal.returns-in_ok-split_or-in-Split-clause-ahead
returns-in_ok-split_or-in-Split-clause-ahead c =
    split_taken c.args.case.now c.args.tree.now c.args.state.now c.split_or.new.state (plain_step c.args.step.now) c.in-Split.negated c.in-Split.position
    (ap plain_step c.in-Split.is) c.in_ok-split_or-in-Split.ensures.split

pub add_cycle-requires : goal.add_cycle-requires
add_cycle-requires c =
    let s = c.args.state.now in
    let a = next_same (ap plain_step c.in-Cycle.is) c.requires.ahead in
    let K : List NodeKey → Type 0 = λ ns. IsCycleKnown s.known (map key_node ns) in
    subst K (sym c.as_slice.ensures.value) (can_cycle c.args.case.now c.args.tree.now a.0 s (map key_node c.in-Cycle.nodes) a.1 a.2)

pub go_on-requires : goal.go_on-requires
go_on-requires c =
    let case = c.args.case.now in let s = c.args.state.now in let mid = c.add_cycle.new.state in
    record {
      kept = kept_closed case s mid c.in_ok-add_cycle-in-Cycle.ensures c.requires.kept;
      left = leaf_waits case c.args.tree.now s mid (cycle (map key_node c.in-Cycle.nodes)) c.in_ok-add_cycle-in-Cycle.ensures
          (next_same (ap plain_step c.in-Cycle.is) c.requires.ahead);
    }

pub returns-in_ok-add_cycle-in-Cycle-clause-ahead : goal.returns-in_ok-add_cycle-in-Cycle-clause-ahead
returns-in_ok-add_cycle-in-Cycle-clause-ahead c =
    leaf_taken c.args.case.now c.args.tree.now c.args.state.now c.add_cycle.new.state c.go_on.new.state (plain_step c.args.step.now)
    (cycle (map key_node c.in-Cycle.nodes)) c.go_on.result (ap plain_step c.in-Cycle.is) c.in_ok-add_cycle-in-Cycle.ensures c.go_on.ensures.at

pub add_path-requires : goal.add_path-requires
add_path-requires c =
    let s = c.args.state.now in
    let a = next_same (ap plain_step c.in-Path.is) c.requires.ahead in
    let K : List NodeKey → Type 0 = λ ns. IsPathKnown s.known (map key_node ns) in
    subst K (sym c.as_slice-in-Path.ensures.value) (can_path c.args.case.now c.args.tree.now a.0 s (map key_node c.in-Path.nodes) a.1 a.2)

pub go_on-requires-in-Path : goal.go_on-requires-in-Path
go_on-requires-in-Path c =
    let case = c.args.case.now in let s = c.args.state.now in let mid = c.add_path.new.state in
    record {
      kept = kept_closed case s mid c.in_ok-add_path-in-Path.ensures c.requires.kept;
      left = leaf_waits case c.args.tree.now s mid (path (map key_node c.in-Path.nodes)) c.in_ok-add_path-in-Path.ensures
          (next_same (ap plain_step c.in-Path.is) c.requires.ahead);
    }

pub returns-in_ok-add_path-in-Path-clause-ahead : goal.returns-in_ok-add_path-in-Path-clause-ahead
returns-in_ok-add_path-in-Path-clause-ahead c =
    leaf_taken c.args.case.now c.args.tree.now c.args.state.now c.add_path.new.state c.go_on-in-Path.new.state (plain_step c.args.step.now)
    (path (map key_node c.in-Path.nodes)) c.go_on-in-Path.result (ap plain_step c.in-Path.is) c.in_ok-add_path-in-Path.ensures c.go_on-in-Path.ensures.at

pub add_absent-requires : goal.add_absent-requires
add_absent-requires c =
    let s = c.args.state.now in
    let a = next_same (ap plain_step c.in-Absent.is) c.requires.ahead in
    let h = can_absent c.args.case.now c.args.tree.now a.0 s (key_node c.in-Absent.node) a.1 a.2 in
    record { denied = h.0; asserted = h.1 }

pub go_on-requires-in-Absent : goal.go_on-requires-in-Absent
go_on-requires-in-Absent c =
    let case = c.args.case.now in let s = c.args.state.now in let mid = c.add_absent.new.state in
    record {
      kept = kept_closed case s mid c.in_ok-add_absent-in-Absent.ensures c.requires.kept;
      left = leaf_waits case c.args.tree.now s mid (absent (key_node c.in-Absent.node)) c.in_ok-add_absent-in-Absent.ensures
          (next_same (ap plain_step c.in-Absent.is) c.requires.ahead);
    }

pub returns-in_ok-add_absent-in-Absent-clause-ahead : goal.returns-in_ok-add_absent-in-Absent-clause-ahead
returns-in_ok-add_absent-in-Absent-clause-ahead c =
    leaf_taken c.args.case.now c.args.tree.now c.args.state.now c.add_absent.new.state c.go_on-in-Absent.new.state (plain_step c.args.step.now)
    (absent (key_node c.in-Absent.node)) c.go_on-in-Absent.result (ap plain_step c.in-Absent.is) c.in_ok-add_absent-in-Absent.ensures
    c.go_on-in-Absent.ensures.at

pub unreachable-requires : goal.unreachable-requires
unreachable-requires c =
    let a = next_same (ap plain_step c.in-False.is) c.requires.ahead in
    never_false c.args.case.now c.args.tree.now a.0 c.args.state.now a.1 a.2
