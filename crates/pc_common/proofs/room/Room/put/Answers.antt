use Rattle.std.proofs.{Common.{rules, arith, refl, inl, inr, ap, ◌∙◌, ◌≡◌, ◌≤◌, [], ◌+◌}, lemmas.Bool.{cases_lt}}
use Rattle.pc_common.{specs.{Writes.{success}, Room.{Puts}}, proofs.Rooms.{puts_then, puts_nothing, puts_behind, puts_text, puts_cut, next_bytes}}
use Rattle.pc_common.proofs.room.Room.put.Goals as goal

pub returns-in_err-make_space-clause-puts : goal.returns-in_err-make_space-clause-puts
returns-in_err-make_space-clause-puts g c =
    let most : c.loop-at.self.waiting.used ≤ 4096 = c.loop-at.self.waiting.within in
    let full : c.loop-at.self.waiting.used ≡ 4096 = elim (cases_lt c.loop-at.self.waiting.used 4096) [
      | inl less ↦ (let ok = (c.in_err-make_space.ensures.kept less).0 in cc)
      | inr past ↦ omega arith
    ] in
    puts_cut c.from_residual.result c.args.piece.now c.loop-at.at c.loop-at-test.true refl c.from_residual.ensures.0
    c.loop-at.invariant.puts (c.in_err-make_space.ensures.full full)

pub loop-at-preserved : goal.loop-at-preserved
loop-at-preserved g c =
    let most : c.loop-at.self.waiting.used ≤ 4096 = c.loop-at.self.waiting.within in
    let ok = c.in_ok-make_space.ensures in
    let keeps : Puts g.K.Sink.view c.loop-at.self c.make_space.new.self success [] = elim (cases_lt c.loop-at.self.waiting.used 4096) [
      | inl less ↦ puts_nothing g.K.Sink.view _ _ (ok.kept less).1
      | inr past ↦ (ok.full (omega arith)).puts
    ] in
    let behind = puts_behind g.K.Sink.view c.make_space.new.self c.put-at.new.self _ c.put-at.ensures.bytes in record {
      within = search rules;
      puts = puts_text _ (next_bytes c.args.piece.now c.loop-at.at c.put-at.result) (puts_then refl c.loop-at.invariant.puts (puts_then refl keeps behind));
      fits = λ fits.
          let before = c.loop-at.invariant.fits fits in
          let same = (ok.kept (omega (arith, before.0))).1 in (
            c.put-at.ensures.used ∙ ap (λ room. room.waiting.used + c.put-at.result) same ∙ omega (arith, before.0),
            ap (λ room. room.out.now) same ∙ before.1,
          );
    }
