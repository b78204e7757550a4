use Rattle.std.{proofs.Common.{◌++◌, ◌≡◌, List, ℕ, map, sym, subst}, specs.{Prelude.{OnOk, codes}, Fmt.{decimal}}}
use Rattle.lifted_facts.specs.Lifted.{close, cycle, path}
use Rattle.lifter.specs.{declared.line.Line.{Line}, WrittenSteps.{plain_line}}
use Rattle.lift_command.{specs.WrittenLines.{line_of, spaced_words}, proofs.PutLines.{put_then, put_as, cycle_line, path_line}}
use Rattle.lift_command.proofs.lines.put_step.Goals as goal

pub returns-in-Cycle : goal.returns-in-Cycle
returns-in-Cycle c =
    let ops = c.args.case.now.ops in
    let old = c.args.text.now.items in
    let r = c.put_many.result in
    let new = c.put_many.new.text.items in
    let k = c.in-Cycle.first in
    let ks = c.in-Cycle.more in
    let P : List ℕ → Type 0 = λ ns. OnOk r (new ≡ old ++ (codes "cycle" ++ ((codes " " ++ decimal k) ++ spaced_words (map decimal ns)))) in
    let L : Line → Type 0 = λ l. OnOk r (new ≡ old ++ line_of ops (plain_line l)) in
    subst L (sym c.in-Cycle.is)
    (put_as r old new (codes "cycle" ++ ((codes " " ++ decimal k) ++ spaced_words (map decimal ks))) (line_of ops (close (cycle k ks))) (cycle_line ops k ks)
    (subst P c.as_slice.ensures.value c.put_many.ensures))

pub returns-in_ok-put_many-in-Path : goal.returns-in_ok-put_many-in-Path
returns-in_ok-put_many-in-Path c =
    let ops = c.args.case.now.ops in
    let old = c.args.text.now.items in
    let mid = c.put_many-in-Path.new.text.items in
    let r = c.put_number.result in
    let new = c.put_number.new.text.items in
    let k = c.in-Path.first in
    let ks = c.in-Path.more in
    let denial = c.in-Path.denial in
    let P : List ℕ → Type 0 = λ ns. mid ≡ old ++ (codes "path" ++ ((codes " " ++ decimal k) ++ spaced_words (map decimal ns))) in
    let L : Line → Type 0 = λ l. OnOk r (new ≡ old ++ line_of ops (plain_line l)) in
    let front = codes "path" ++ ((codes " " ++ decimal k) ++ spaced_words (map decimal ks)) in
    let last = codes " " ++ decimal denial in
    subst L (sym c.in-Path.is)
    (put_as r old new (front ++ last) (line_of ops (close (path k ks denial))) (path_line ops k ks denial)
    (put_then r old mid new front last (subst P c.as_slice-in-Path.ensures.value c.in_ok-put_many-in-Path.ensures) c.put_number.ensures))
