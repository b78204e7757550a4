use Rattle.std.proofs.Common.{List, ℕ, ap, ◌∙◌}
use Rattle.x86_litmus.{specs.Faults.{value_at}, proofs.LookUps.{look_up}}
use Rattle.x86_litmus.proofs.values.Values.get.Goals as goal

pub returns : goal.returns
returns c =
    let es = c.self.inside.by_name.entries in
    c.copied.ensures ∙ c.get.ensures.value ∙ look_up es c.args.word.now
    ∙ ap (λ (vs : List (List ℕ × ℕ)). value_at vs c.args.word.now) c.self.view_is
