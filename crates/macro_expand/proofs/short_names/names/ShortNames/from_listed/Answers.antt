use Rattle.std.proofs.{Common.{map, arith}, lemmas.List.Elements.{All-weaker}}
use Rattle.macro_expand.{specs.Numbers.{name_bytes}, proofs.{ListingLaws.{short_among}, ShortNames.{keeps_apart, numbers_more, many_of}}}
use Rattle.macro_expand.proofs.short_names.names.ShortNames.from_listed.Goals as goal

pub loop-number-preserved : goal.loop-number-preserved
loop-number-preserved c =
    rw c.in_ok-push.ensures
    (numbers_more c.loop-number.shorts c.loop-number.number c.in_ok-number_name.field-0 c.loop-number.invariant.0 c.loop-number.invariant.1
    c.in_ok-number_name.ensures)

pub returns-clause-apart : goal.returns-clause-apart
returns-clause-apart c =
    let keys = c.in_ok-names.names.keys in
    keeps_apart (map name_bytes keys) (omega (arith, c.len-number-end.ensures.len, c.len-number-end.ensures.small, many_of keys))

pub returns-clause-short : goal.returns-clause-short
returns-clause-short c =
    let names = map name_bytes c.in_ok-names.names.keys in
    All-weaker _ _ (short_among names) c.args.listed.now c.in_ok-names.ensures
