use Rattle.std.proofs.Common.{List, ℕ, [], ◌∷◌, ◌++◌, ap, ◌∙◌}
use Rattle.x86_litmus.{specs.Faults.{value_at}, proofs.LookUps.{look_up, value_more}}
use Rattle.x86_litmus.proofs.values.Values.add.Goals as goal

pub returns : goal.returns
returns c =
    let es = c.self.inside.by_name.entries in
    let none = look_up es c.args.word.now ∙ ap (λ (vs : List (List ℕ × ℕ)). value_at vs c.args.word.now) c.self.view_is ∙ c.requires in
    value_more c.self.inside.by_name _ c.args.word c.args.value none c.in_ok-insert.ensures.entries
    ∙ ap (λ (vs : List (List ℕ × ℕ)). vs ++ (c.args.word.now, c.args.value) ∷ []) c.self.view_is
