use Rattle.std.proofs.Common.{List, map, get_or, ap, ◌∙◌}
use Rattle.pc_case.specs.Plain.{micro_op}
use Rattle.x86_litmus.{specs.{Said.{Asked}, Cases.{op_of}, Plain.{plain_instruction, plain_asked, plain_said}}, proofs.Loops.{nobody, push_then, push_else}}
use Rattle.x86_litmus.proofs.case_of.push_thread.Goals.{then-instruction-thread+in_ok-op_of+in_ok-push, else-instruction-thread}
use Rattle.x86_litmus.proofs.case_of.push_thread.Goals as goal

pub loop-instruction-preserved : goal.loop-instruction-preserved
loop-instruction-preserved c = λ before start.
    let words = c.args.locations.now in
    let asked : List Asked = (plain_said c.args.said.now).asked in
    let xs = c.deref-instruction-items.result.now in
    let ys = c.args.said.now.instructions.items in
    let k = c.loop-instruction.instruction-index in
    let so_far = c.loop-instruction.invariant before start in
    elim c.if-instruction-thread.branch [
      | then-instruction-thread+in_ok-op_of+in_ok-push w ↦ ap (map micro_op) w.ops-is
          ∙ push_then words asked before xs ys c.deref-instruction-items.ensures.value k c.args.thread c.loop-instruction-test.true
          w.if-instruction-thread.true c.loop-instruction.ops w.push.new.self w.in_ok-op_of.field-0 w.len-g.result w.in_ok-push.ensures
          (w.in_ok-op_of.ensures ∙ ap (λ is. op_of words (map plain_asked is) w.len-g.result (plain_instruction (get_or xs k nobody)))
          w.deref.ensures.value) w.len-g.ensures.value so_far
      | else-instruction-thread w ↦ ap (map micro_op) w.ops-is
          ∙ push_else words asked before xs ys c.deref-instruction-items.ensures.value k c.args.thread c.loop-instruction-test.true
          w.if-instruction-thread.false (map micro_op c.loop-instruction.ops) so_far
    ]
