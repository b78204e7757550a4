use Rattle.std.proofs.{Common.{◌≡◌, ◌∙◌, ℕ, ◌+◌, List, map, take, Bor, All, subst, ap, sym, take_all}, lemmas.List.{get_or_default, Elements.{All-map}}}
use Rattle.macro_expand.{specs.Numbers.{name_bytes, IsAmong}, proofs.ListingLaws.{once_more}}
use Rattle.macro_expand.proofs.short_names.listed_names.ListedNames.distinct_names.Goals as goal

pub loop-name-preserved : goal.loop-name-preserved
loop-name-preserved c =
    let items = c.as_slice-name-items.result.now in let k = c.loop-name.name-index in
    subst (λ (keys : List (Bor (List ℕ))). All (λ name. IsAmong (map name_bytes keys) name.now) (take (k + 1) items)) (sym c.in_ok-insert.ensures.keys)
    (once_more items k _ c.loop-name.once.keys c.loop-name-test.true (get_or_default items k _ _ c.loop-name-test.true) c.loop-name.invariant)

pub returns : goal.returns
returns c =
    let items = c.as_slice-name-items.result.now in
    let names = map name_bytes c.loop-name.once.keys in
    let all : take c.loop-name.name-index items ≡ items = take_all c.loop-name.name-index items c.loop-name-test.false in
    subst (All (IsAmong names)) (ap (map name_bytes) c.as_slice-name-items.ensures.value ∙ c.self.view_is)
    (All-map (IsAmong names) name_bytes items (subst (All (λ name. IsAmong names name.now)) all c.loop-name.invariant))
