use Rattle.std.proofs.Common.{◌+◌, arith}
use Rattle.pc_ground.proofs.FlatRows.{part_within, size_pos}
use Rattle.lifter.proofs.PartRows.{skip_is}
use Rattle.lifter.proofs.rows.right_of.Goals as goal

pub overflow_add-left : goal.overflow_add-left
overflow_add-left c =
    let within = part_within c.args.tree.now (c.args.at + 1) c.requires.0 c.requires.1 in
    omega (arith, within, c.len.ensures.bound)

pub row-requires : goal.row-requires
row-requires c =
    let within = part_within c.args.tree.now (c.args.at + 1) c.requires.0 c.requires.1 in
    let some = size_pos c.requires.0 in
    omega (arith, within, some)

pub overflow_add-result : goal.overflow_add-result
overflow_add-result c =
    let within = part_within c.args.tree.now (c.args.at + 1) c.requires.0 c.requires.1 in
    let skip = skip_is c.args.tree.now (c.args.at + 1) c.row.result c.requires.0 c.row.ensures.row c.requires.1 in
    omega (arith, within, skip, c.len.ensures.bound)

pub returns : goal.returns
returns c = λ a part. let skip = skip_is c.args.tree.now (c.args.at + 1) c.row.result a c.row.ensures.row part in omega (arith, skip)
