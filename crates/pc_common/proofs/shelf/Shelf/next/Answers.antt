use Rattle.std.{proofs.Common.{arith, ◌≡◌, ◌∙◌, ap, sym, drop, [], Option}, specs.Option.{option_map_or}}
use Rattle.pc_common.{specs.{Held.{bytes_at}, Shelf.{left_of}, declared.shelf.Started.{Started}}, proofs.Moves.{moved}}
use Rattle.pc_common.proofs.shelf.Shelf.next.Goals as goal

pub returns-in-Some-clause-bytes : goal.returns-in-Some-clause-bytes
returns-in-Some-clause-bytes c =
    let held = c.args.self.now.held in
    let left : left_of c.args.self.now ≡ c.rest-left.result.now =
    ap (λ (o : Option Started). option_map_or (λ s. drop s.at (bytes_at held s.file)) o []) c.in-Some.is
    ∙ sym c.rest-left.ensures.value in
    left ∙ moved (bytes_at held c.in-Some.started.file) c.args.buf.now c.copy_from_slice.new.self c.rest-left.result.now
    c.in-Some.started.at c.min-n.result c.rest-left.ensures.value (omega arith) c.copy_from_slice.ensures.after
