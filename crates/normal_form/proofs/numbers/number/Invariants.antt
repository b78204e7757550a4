use Rattle.std.{proofs.Common.{◌≡◌, [], drop}, specs.List.{flat_map}}
use Rattle.normal_form.specs.RowNodes.{numbering_after, nodes_of_row}
use Rattle.normal_form.proofs.numbers.number.Given as goal

-- what is left to see completes the numbering
abbrev pub invariant-loop-k : goal.invariant-loop-k
invariant-loop-k l = numbering_after l.numbering (flat_map nodes_of_row (drop l.k l.tree)) ≡ numbering_after [] (flat_map nodes_of_row l.tree)
