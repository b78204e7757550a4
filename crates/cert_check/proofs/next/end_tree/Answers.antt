use Rattle.std.{proofs.Common.{refl}, specs.Prelude.{codes}}
use Rattle.pc_common.proofs.Bools.{clash}
use Rattle.cert_check.{specs.Subjects.{question_of_subject}, proofs.{Advances.{tree_end_stuck, tree_ended}, Judged.{after_header}}}
use Rattle.cert_check.proofs.next.end_tree.Goals as goal

pub returns-then-not-is_closed : goal.returns-then-not-is_closed
returns-then-not-is_closed c = λ s lines so_far can.
    let q = question_of_subject s in
    tree_end_stuck q c.args.tree.now lines (codes "end") so_far refl
    (λ none. clash ((c.is_closed.ensures so_far.version q.tree so_far.opens so_far.stands).1 none) c.if-not-is_closed.true)

pub returns : goal.returns
returns c = λ s lines so_far.
    let q = question_of_subject s in (
      after_header s so_far.lines_are,
      tree_ended q c.args.tree.now lines (codes "end") so_far refl
          ((c.is_closed.ensures so_far.version q.tree so_far.opens so_far.stands).0 c.if-not-is_closed.false),
    )
