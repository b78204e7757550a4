use Rattle.std.proofs.Common.{subst, sym}
use Rattle.pc_syntax.specs.Written.{Written}
use Rattle.uspec_parser.{specs.Operands.{IsSplit}, proofs.Split.{grouped_split, split_grouped}}
use Rattle.uspec_parser.proofs.laws.split_of_operands.Goals as goal

pub returns : goal.returns
returns c = λ l w. (λ s. split_grouped s, λ e. subst (λ (v : Written). IsSplit l v) (sym e) (grouped_split l))
