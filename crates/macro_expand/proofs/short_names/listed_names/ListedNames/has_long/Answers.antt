use Rattle.std.{proofs.{Common.{◌≡◌, ◌∙◌, Bool, List, ℕ, Bor, map, take, ap, sym, take_all, lt-ltb}, lemmas.List.Folds.{list_any_at}}, specs.List.{list_any}}
use Rattle.macro_expand.{specs.{Numbered.{is_long}, Numbers.{name_bytes}}, proofs.ListingLaws.{any_name}}
use Rattle.macro_expand.proofs.short_names.listed_names.ListedNames.has_long.Goals as goal

abbrev long_item : Bor (List ℕ) → Bool
long_item name = is_long name.now

pub returns-then-name-gt-SHORT_ENOUGH : goal.returns-then-name-gt-SHORT_ENOUGH
returns-then-name-gt-SHORT_ENOUGH c =
    let items = c.as_slice-name-items.result.now in
    let whole : list_any long_item items ≡ list_any is_long c.args.self.now =
    any_name is_long items ∙ ap (λ (ks : List (Bor (List ℕ))). list_any is_long (map name_bytes ks)) c.as_slice-name-items.ensures.value
    ∙ ap (list_any is_long) c.self.view_is in
    sym (list_any_at long_item items c.loop-name.name-index _ c.loop-name-test.true (lt-ltb 32 _ c.if-name-gt-SHORT_ENOUGH.true)) ∙ whole

pub returns : goal.returns
returns c =
    let items = c.as_slice-name-items.result.now in
    let whole : list_any long_item items ≡ list_any is_long c.args.self.now =
    any_name is_long items ∙ ap (λ (ks : List (Bor (List ℕ))). list_any is_long (map name_bytes ks)) c.as_slice-name-items.ensures.value
    ∙ ap (list_any is_long) c.self.view_is in
    let all : take c.loop-name.name-index items ≡ items = take_all c.loop-name.name-index items c.loop-name-test.false in
    sym c.loop-name.invariant ∙ ap (list_any long_item) all ∙ whole
