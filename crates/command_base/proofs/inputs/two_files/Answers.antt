use Rattle.std.{proofs.Common.{ap, Err, inl, inr, arith, ◌≡◌}, specs.Prelude.{IsTrue}}
use Rattle.pc_common.specs.declared.fault.Which.TheVariants.{Model, Test}
use Rattle.command_base.{specs.Inputs.{plain_inputs}, proofs.InputsRead.{unread_ends, read_of, large_of, reads_then, rose_later}}
use Rattle.command_base.proofs.inputs.two_files.Goals as goal

model_test : Model ≡ Test → ⊥
model_test e = cc

pub returns-in-Err : goal.returns-in-Err
returns-in-Err g c =
    let first = c.in-Err.ensures in
    unread_ends (g.met.F.Files.failing_modelled c.args.files.now) first.keeps (plain_inputs c.args.inputs) Model tt
    c.in-Err.end c.unread_ending.result c.unread_ending.ensures
    (λ e. first.cause (ap (λ x. Err x) e))
    (λ calm e. inl ((first.sure calm).0 (ap (λ x. Err x) e)))
    (λ told e. large_of ((g.F.Files.view c.args.files.now).holds) c.args.inputs.model.now (first.too_large (ap (λ x. Err x) e) told))
    (λ told e. absurd (model_test e))

pub returns-in-Err-read_all : goal.returns-in-Err-read_all
returns-in-Err-read_all g c =
    let first = c.in-Ok.ensures in
    let second = c.in-Err-read_all.ensures in
    let failing_modelled = g.met.F.Files.failing_modelled c.args.files.now in
    let read = λ (told : IsTrue (g.F.Files.view c.args.files.now).modelled).
    read_of ((g.F.Files.view c.args.files.now).holds) c.args.inputs.model.now c.in-Ok.bytes.items (first.whole told) (let h = first.within in omega arith) in
    unread_ends failing_modelled (reads_then first.keeps second.keeps) (plain_inputs c.args.inputs) Test tt c.in-Err-read_all.end
    c.unread_ending-in-Err-read_all.result c.unread_ending-in-Err-read_all.ensures
    (λ e. rose_later first.keeps.count (second.cause (ap (λ x. Err x) e)))
    (λ calm e. inr (
      (c.in-Ok.bytes.items, read (failing_modelled calm)),
      rw first.keeps.same_held at ((second.sure (rw first.keeps.same_failing calm)).0 (ap (λ x. Err x) e)),
    ))
    (λ told e. large_of ((g.F.Files.view c.args.files.now).holds) c.args.inputs.test.now
    (rw first.keeps.same_held at (second.too_large (ap (λ x. Err x) e) (rw first.keeps.same_modelled told))))
    (λ told e. (c.in-Ok.bytes.items, read told))

pub returns : goal.returns
returns g c =
    let first = c.in-Ok.ensures in
    let second = c.in-Ok-read_all.ensures in
    let holds = (g.F.Files.view c.args.files.now).holds in
    record {
      keeps = reads_then first.keeps second.keeps;
      model_short = (let h = first.within in omega arith);
      second_short = (let h = second.within in omega arith);
      read = λ told. (
        read_of holds c.args.inputs.model.now c.in-Ok.bytes.items (first.whole told) (let h = first.within in omega arith),
        read_of holds c.args.inputs.test.now c.in-Ok-read_all.bytes.items
            (rw first.keeps.same_held at (second.whole (rw first.keeps.same_modelled told))) (let h = second.within in omega arith),
      );
    }
