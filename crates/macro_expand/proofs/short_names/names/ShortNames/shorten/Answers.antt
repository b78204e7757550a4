use Rattle.std.proofs.{Common.{◌≡◌, ℕ, List, map, ap, ◌∙◌}, lemmas.{Option.{slice_get_within}, Result.{IfOk-weaker}}}
use Rattle.macro_expand.{specs.Numbers.{name_bytes, number_bytes, unlisted, short_name}, proofs.ShortNames.{short_listed, short_unlisted, one_item}}
use Rattle.macro_expand.proofs.short_names.names.ShortNames.shorten.Goals as goal

pub get-requires : goal.get-requires
get-requires c = slice_get_within c.self.inside.shorts c.in-Some.number (number_bytes c.in-Some.number)
    (c.self.invariant c.in-Some.number c.in-Some.ensures.within)

pub returns-in-Some : goal.returns-in-Some
returns-in-Some c =
    let n = c.in-Some.number in
    let here : c.get.result.now ≡ number_bytes n =
    one_item c.self.inside.shorts n c.get.result.now (number_bytes n) c.get.ensures (c.self.invariant n c.in-Some.ensures.within) in
    let same =
    short_listed c.as_slice-name.result.now c.self.inside.names.keys n c.in-Some.ensures.index
    ∙ ap (λ name. short_name (map name_bytes c.self.inside.names.keys) name) c.as_slice-name.ensures.value
    ∙ ap (λ (ws : List (List ℕ)). short_name ws c.args.name.now) c.self.view_is in
    IfOk-weaker c.share.result (λ short. short ≡ c.get.result.now) (λ short. short ≡ short_name c.args.self.now c.args.name.now)
    (λ short e. e ∙ here ∙ same) c.share.ensures

pub returns-in-None : goal.returns-in-None
returns-in-None c =
    let same =
    short_unlisted c.as_slice-name.result.now c.self.inside.names.keys c.in-None.ensures.index
    ∙ ap (λ name. short_name (map name_bytes c.self.inside.names.keys) name) c.as_slice-name.ensures.value
    ∙ ap (λ (ws : List (List ℕ)). short_name ws c.args.name.now) c.self.view_is in
    IfOk-weaker c.unlisted_name.result (λ short. short ≡ unlisted c.as_slice-name.result.now) (λ short. short ≡ short_name c.args.self.now c.args.name.now)
    (λ short e. e ∙ same) c.unlisted_name.ensures
