use Rattle.std.proofs.Common.{◌++◌, ◌∷◌, [], sym, vec_len, vec_capacity}
use Rattle.undo_trail.proofs.{Grows.{change, grows_one}, OnResults.{pushed}}
use Rattle.undo_trail.proofs.trail.put.Goals as goal

pub returns-clause-grows : goal.returns-clause-grows
returns-clause-grows c =
    let trail = c.args.trail.now in
    let items = pushed c.push.result (vec_len trail) (vec_capacity trail) (trail.items ++ change c.args.table.now c.args.place ∷ [])
    trail.items c.push.new.self.items
    c.requires.room c.push.ensures.full c.push.ensures.items in
    rw items (grows_one trail.items c.args.table.now c.args.place c.args.word c.requires.inside (λ e. c.if-old-word.false (sym e)))
