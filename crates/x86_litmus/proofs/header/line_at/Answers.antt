use Rattle.std.proofs.{Common.{◌≡◌, ◌+◌, ◌-◌, ◌≤◌, ◌∷◌, not, length, take, drop, sym, ap, ◌∙◌, arith}, lemmas.List.{take_all, length-take-le, length-drop}}
use Rattle.std.specs.List.{prefix_len}
use Rattle.x86_litmus.{specs.{Header.{is_line_end}, Lines.{lines_from}}, proofs.HeaderLines.{line_from}}
use Rattle.x86_litmus.proofs.header.line_at.Goals as goal

pub returns-clause-line : goal.returns-clause-line
returns-clause-line c =
    let bytes = c.args.bytes.now in
    let at = c.args.at in
    let n = c.count.result in
    let whole : take (length bytes - at) (drop at bytes) ≡ drop at bytes = take_all (length bytes - at) (drop at bytes) (omega (arith, length-drop at bytes)) in
    let short : n ≤ length (drop at bytes) = omega (arith, c.count.ensures.within, ap length whole) in
    let size : length (take n (take (length bytes - at) (drop at bytes))) ≡ n = ap (λ xs. length (take n xs)) whole ∙ length-take-le n (drop at bytes) short in
    line_from bytes at n c.requires (c.count.ensures.count ∙ ap (prefix_len (λ c. not (is_line_end c))) whole)
    ∙ ap (λ xs. take n xs ∷ lines_from bytes (at + n + 1)) (sym whole)
    ∙ ap (λ k. take n (take (length bytes - at) (drop at bytes)) ∷ lines_from bytes (at + k + 1)) (sym size)
