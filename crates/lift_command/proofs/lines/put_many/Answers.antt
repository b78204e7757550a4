use Rattle.std.{proofs.Common.{◌++◌, map, append_assoc}, specs.{Prelude.{codes}, Fmt.{decimal}}}
use Rattle.lift_command.{specs.WrittenLines.{spaced_words}, proofs.PutLines.{put_then, put_as}}
use Rattle.lift_command.proofs.lines.put_many.Goals as goal

pub returns : goal.returns
returns c =
    let first = codes " " ++ decimal c.args.first in
    let more = spaced_words (map decimal c.args.more.now) in
    put_as c.put_numbers.result c.args.text.now.items c.put_numbers.new.text.items ((c.args.keyword.now ++ first) ++ more)
    (c.args.keyword.now ++ (first ++ more))
    (append_assoc c.args.keyword.now first more)
    (put_then c.put_numbers.result c.args.text.now.items c.put_one.new.text.items c.put_numbers.new.text.items
    (c.args.keyword.now ++ first) more c.in_ok-put_one.ensures c.put_numbers.ensures)
