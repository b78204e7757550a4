use Rattle.std.proofs.Common.{[], ◌∷◌, ◌++◌, sym, ◌∙◌}
use Rattle.pc_syntax.specs.Predicates.{takes_of}
use Rattle.macro_expand.{specs.Numbers.{short_name}, proofs.RenamedArguments.{one_more_renamed}}
use Rattle.macro_expand.proofs.short_names.predicates.short_args_of.Goals as goal

pub loop-place-preserved : goal.loop-place-preserved
loop-place-preserved c =
    c.in_ok-push.ensures ∙ (λ i. c.loop-place.invariant i ++ c.in_ok-short_arg_at.ensures i ∷ [])
    ∙ sym (one_more_renamed (short_name c.args.names.now) (takes_of c.args.pred) c.args.args.now c.loop-place.place c.get.result.now c.get.ensures)
