use Rattle.std.proofs.{Common.{rules, arith, ◌≡◌, ◌++◌, ◌∙◌, sym, ap, append_assoc, length-append, length, take, ℕ}, lemmas.List.{length-take, length-take-le}}
use Rattle.pc_common.proofs.Moves.{read_on}
use Rattle.pc_common.proofs.reading.read_rest.Goals as goal

-- what was read before, and the first bytes of the buffer
pub returns-then-n-limit-clause-stops : goal.returns-then-n-limit-clause-stops
returns-then-n-limit-clause-stops g c = λ _ told.
    let before = c.loop-bytes.bytes.items in
    let now = take c.in_ok-n.n c.read.new.buf in
    let moved : length now ≡ c.in_ok-n.n = length-take-le c.in_ok-n.n c.read.new.buf (search rules) in
    let bytes = c.in_ok-n.ensures.bytes (search rules) in (
      before ++ now,
      omega (arith, length-append before now, c.in_ok-n.ensures.within, length-take {A = ℕ}),
      c.loop-bytes.invariant.bytes told ∙ ap (λ xs. before ++ xs) bytes
          ∙ sym (append_assoc before now (g.F.Files.view c.read.new.self).left),
    )

-- past the limit was read
pub returns-then-n-limit-clause-too_large : goal.returns-then-n-limit-clause-too_large
returns-then-n-limit-clause-too_large g c = λ e told.
    let stops = returns-then-n-limit-clause-stops g c e told in
    omega (arith, length-append stops.0 (g.F.Files.view c.read.new.self).left, ap length stops.2, stops.1)

pub loop-bytes-preserved : goal.loop-bytes-preserved
loop-bytes-preserved g c = record {
  within = search rules;
  room = search rules;
  started = search rules;
  same_modelled = search rules;
  same_held = search rules;
  same_failing = search rules;
  count = search rules;
  bytes = λ told. read_on (g.F.Files.view c.args.files.now).left c.loop-bytes.bytes.items (g.F.Files.view c.loop-bytes.files).left
      c.read.new.buf _ (g.F.Files.view c.read.new.self).left c.extend_from_slice.new.self.items c.in_ok-n.n
      (c.loop-bytes.invariant.bytes told) (c.in_ok-n.ensures.bytes (search rules)) (search rules) c.in_ok-extend_from_slice.ensures.items;
}
