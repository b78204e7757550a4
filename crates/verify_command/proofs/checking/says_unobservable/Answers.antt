use Rattle.std.{proofs.{Common.{length, drop}, lemmas.{Slice.Eq.{starts_is}, Bool.Decides.{Decides-eqb}}}, specs.Prelude.{codes}}
use Rattle.verify_command.proofs.checking.says_unobservable.Goals as goal

pub returns : goal.returns
returns c =
    let first = c.args.first.now in
    let s = starts_is Decides-eqb first (codes "unobservable\n") c.starts_with.result c.starts_with.ensures.value in
    (λ yes. (drop (length (codes "unobservable\n")) first, s.0 yes), λ says. s.1 says.0 says.1)
