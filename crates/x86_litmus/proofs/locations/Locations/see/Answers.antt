use Rattle.std.proofs.Common.{List, ℕ, ap, ◌∙◌}
use Rattle.x86_litmus.{specs.Cases.{seen}, proofs.LookUps.{seen_word}}
use Rattle.x86_litmus.proofs.locations.Locations.see.Goals as goal

pub returns : goal.returns
returns c =
    rw c.in_ok-insert.ensures.keys
    (seen_word c.self.inside.words.keys c.args.word ∙ ap (λ (ws : List (List ℕ)). seen ws c.args.word.now) c.self.view_is)
