use Rattle.std.{proofs.Common.{[], ◌∙◌, ap, subst, List, ℕ}, specs.Option.{option_map_or}}
use Rattle.pc_ground.specs.Words.{words}
use Rattle.refutation.proofs.NodeWalk.{SoFar, walk_next, walk_went, walk_still, walk_foreign, walk_done, none_left}
use Rattle.refutation.proofs.nodes.read_nodes.Goals as goal

pub loop-left-preserved-then-foreign : goal.loop-left-preserved-then-foreign
loop-left-preserved-then-foreign c =
    let P : List (List ℕ) → Type 0 = λ vs. SoFar c.args.names.now (words c.args.text.now) vs c.loop-left.foreign c.loop-left.row.nodes in
    record {
      so_far = walk_went c.loop-left.foreign c.in_ok-own.own c.if-foreign.true
          (walk_next c.args.names.now (words c.args.text.now) c.first_word.result.0.now (option_map_or (λ r. words r.now) c.first_word.result.1 [])
          c.loop-left.foreign c.in_ok-own.own c.loop-left.row.nodes c.read_node.new.row.nodes
          (subst P (ap (λ o. option_map_or (λ r. words r.now) o []) c.in-Some.is ∙ c.first_word.ensures.words) c.loop-left.invariant.so_far)
          c.in_ok-own.ensures.read);
      spare = c.read_node.ensures.spare ∙ c.loop-left.invariant.spare;
    }

pub loop-left-preserved : goal.loop-left-preserved
loop-left-preserved c =
    let P : List (List ℕ) → Type 0 = λ vs. SoFar c.args.names.now (words c.args.text.now) vs c.loop-left.foreign c.loop-left.row.nodes in
    record {
      so_far = walk_still c.loop-left.foreign c.in_ok-own.own c.if-foreign.false
          (walk_next c.args.names.now (words c.args.text.now) c.first_word.result.0.now (option_map_or (λ r. words r.now) c.first_word.result.1 [])
          c.loop-left.foreign c.in_ok-own.own c.loop-left.row.nodes c.read_node.new.row.nodes
          (subst P (ap (λ o. option_map_or (λ r. words r.now) o []) c.in-Some.is ∙ c.first_word.ensures.words) c.loop-left.invariant.so_far)
          c.in_ok-own.ensures.read);
      spare = c.read_node.ensures.spare ∙ c.loop-left.invariant.spare;
    }

pub returns-then-foreign-2-clause-read : goal.returns-then-foreign-2-clause-read
returns-then-foreign-2-clause-read c =
    walk_foreign c.args.names.now (words c.args.text.now) c.loop-left.row.nodes
    (rw (none_left (λ r. words r.now) c.loop-left.left c.in_default.not-Some, c.if-foreign-2.true) at c.loop-left.invariant.so_far)

pub returns-else-foreign-2-clause-read : goal.returns-else-foreign-2-clause-read
returns-else-foreign-2-clause-read c =
    walk_done c.args.names.now (words c.args.text.now) c.loop-left.row.nodes
    (rw (none_left (λ r. words r.now) c.loop-left.left c.in_default.not-Some, c.if-foreign-2.false) at c.loop-left.invariant.so_far)
