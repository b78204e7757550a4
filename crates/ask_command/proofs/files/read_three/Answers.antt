use Rattle.std.{proofs.{Common.{ap, Err, arith}, lemmas.Result.{MatchResult-weaker}}, specs.Prelude.{IsTrue}}
use Rattle.command_base.{specs.Inputs.{plain_inputs}, proofs.InputsRead.{read_of, large_of, reads_then, rose_later}}
use Rattle.ask_command.{specs.AskFiles.{AreRead}, proofs.ThreeFiles.{two_end, query_end, bytes_end, inquiry_read}}
use Rattle.ask_command.proofs.files.read_three.Goals as goal

pub returns-in-Err : goal.returns-in-Err
returns-in-Err g c =
    two_end (g.met.F.Files.failing_modelled c.args.files.now) c.in-Err.ensures.keeps (plain_inputs c.args.inputs)
    c.args.query.now c.in-Err.ending c.in-Err.ensures

pub returns-in-Err-read_all : goal.returns-in-Err-read_all
returns-in-Err-read_all g c =
    let two = c.in-Ok.ensures in
    let third = c.in-Err-read_all.ensures in
    let holds = (g.F.Files.view c.args.files.now).holds in
    query_end (g.met.F.Files.failing_modelled c.args.files.now) (reads_then two.keeps third.keeps) (plain_inputs c.args.inputs) c.args.query.now
    c.in-Err-read_all.end c.unread_ending.result c.unread_ending.ensures
    (λ e. rose_later two.keeps.count (third.cause (ap (λ x. Err x) e)))
    (λ calm e. rw two.keeps.same_held at ((third.sure (rw two.keeps.same_failing calm)).0 (ap (λ x. Err x) e)))
    (λ told e. large_of holds c.args.query.now (rw two.keeps.same_held at (third.too_large (ap (λ x. Err x) e) (rw two.keeps.same_modelled told))))
    (λ told. ((c.in-Ok.both.0.items, (two.read told).0), (c.in-Ok.both.1.items, (two.read told).1)))

pub returns : goal.returns
returns g c =
    let two = c.in-Ok.ensures in
    let third = c.in-Ok-read_all.ensures in
    let keeps = reads_then two.keeps third.keeps in
    let failing_modelled = g.met.F.Files.failing_modelled c.args.files.now in
    let i = plain_inputs c.args.inputs in
    let holds = (g.F.Files.view c.args.files.now).holds in
    let mb = c.in-Ok.both.0.items in
    let tb = c.in-Ok.both.1.items in
    let qb = c.in-Ok-read_all.bytes.items in
    let read : IsTrue (g.F.Files.view c.args.files.now).modelled → AreRead holds i c.args.query.now mb tb qb = λ told. record {
      model = (two.read told).0;
      test = (two.read told).1;
      third =
          read_of holds c.args.query.now qb (rw two.keeps.same_held at (third.whole (rw two.keeps.same_modelled told))) (let h = third.within in omega arith);
    } in
    MatchResult-weaker c.inquiry_of.result
    (rw (c.deref.ensures.value, c.deref-2.ensures.value, c.deref-3.ensures.value) at c.inquiry_of.ensures)
    (inquiry_read failing_modelled keeps i c.args.query.now mb tb qb read)
    (bytes_end failing_modelled keeps i c.args.query.now mb tb qb read)
