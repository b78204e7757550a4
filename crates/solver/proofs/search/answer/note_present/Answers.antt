use Rattle.std.proofs.{Common.{inl, inr, map, ap, ◌∙◌, refl, [], ◌∷◌, ◌++◌}, lemmas.List.{map_push}}
use Rattle.pc_common.proofs.Bools.{not_both}
use Rattle.pc_ground.specs.Keys.{key_node}
use Rattle.solver.proofs.search.answer.note_present.Goals as goal

pub returns-in_ok-push : goal.returns-in_ok-push
returns-in_ok-push c = inl (
  c.present.ensures.0 c.if-present.true,
  ap (map key_node) c.in_ok-push.ensures ∙ map_push key_node c.args.nodes.now c.key.result ∙ ap (λ y. map key_node c.args.nodes.now ++ y ∷ []) c.key.ensures,
)

pub returns-else-present : goal.returns-else-present
returns-else-present c = inr ((λ is. not_both c.present.result (c.present.ensures.1 is) c.if-present.false), refl)
