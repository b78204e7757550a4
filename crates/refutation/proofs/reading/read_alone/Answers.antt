use Rattle.std.{proofs.Common.{◌∙◌, ◌∷◌, [], ap, refl}, specs.Cmp.Lexicographic.{same_text}}
use Rattle.pc_common.specs.Steps.{false_step, close}
use Rattle.refutation.proofs.reading.read_alone.Goals as goal

pub returns-then-eq : goal.returns-then-eq
returns-then-eq c = λ names. (
  close false_step,
  record {
    has_line = tt;
    inside = tt;
    are = ap (λ w. w ∷ []) (same_text c.args.word.now c.as_slice.result.now c.if-eq.ensures ∙ c.as_slice.ensures);
  },
  refl,
  refl,
)
