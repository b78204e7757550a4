use Rattle.std.proofs.Common.{◌∷◌, ◌++◌, [], ◌∙◌, ap}
use Rattle.pc_case.proofs.Pieces.{taken_more}
use Rattle.pc_case.proofs.type_names.TypeNames.copy.Goals as goal

pub loop-k-preserved : goal.loop-k-preserved
loop-k-preserved c =
    let name = c.get.result.now in
    c.in_ok-push.ensures ∙ ap (λ ns. ns ++ name ∷ []) c.loop-k.invariant ∙ taken_more c.args.self.now c.loop-k.k name c.get.ensures
