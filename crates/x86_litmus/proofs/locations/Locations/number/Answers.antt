use Rattle.std.proofs.Common.{List, ℕ, ap, ◌∙◌}
use Rattle.x86_litmus.{specs.Cases.{number_of}, proofs.LookUps.{number_some, number_none}}
use Rattle.x86_litmus.proofs.locations.Locations.number.Goals as goal

pub returns-in-Some : goal.returns-in-Some
returns-in-Some c =
    number_some c.args.word.now c.self.inside.words.keys c.in-Some.number c.in-Some.ensures.index
    ∙ ap (λ (ws : List (List ℕ)). number_of ws c.args.word.now) c.self.view_is

pub returns-in-None : goal.returns-in-None
returns-in-None c =
    c.len.ensures.len ∙ number_none c.args.word.now c.self.inside.words.keys c.in-None.ensures.index
    ∙ ap (λ (ws : List (List ℕ)). number_of ws c.args.word.now) c.self.view_is
