-- How the steps of a refutation are counted.
use Rattle.std.proofs.Common.{◌≡◌, ℕ, ◌+◌, ◌-◌, List, Some, length, take, refl, sym, ◌∙◌, ap, arith, cond, not}
use Rattle.std.{proofs.lemmas.{List.Filters.{length-filter_more, length-filter_both}, Option.{slice_get_within, get_or_from_slice_get}}, specs.List.{slice_get}}
use Rattle.pc_common.specs.{World.{Node}, Steps.{Step}}
use Rattle.verdicts.specs.StepCounts.{splits, splits_of, leaves_of}

-- one step more
pub split_more : (steps : List (Step Node)) (k n : ℕ) (x : Step Node) → slice_get steps k ≡ Some x → n ≡ splits_of (take k steps)
    → n + cond (splits x) 1 0 ≡ splits_of (take (k + 1) steps)
split_more steps k n x at so_far =
    ap (λ j. j + cond (splits x) 1 0) so_far
    ∙ ap (λ y. splits_of (take k steps) + cond (splits y) 1 0) (sym (get_or_from_slice_get steps k x x at))
    ∙ sym (length-filter_more splits steps k x (slice_get_within steps k x at))

-- what is no split is a leaf
pub leaves_left : (steps : List (Step Node)) (n : ℕ) → n ≡ splits_of steps → length steps - n ≡ leaves_of steps
leaves_left steps n is =
    let both = length-filter_both splits (λ s. not (splits s)) (λ s. refl) steps in
    omega (arith, both, is)
