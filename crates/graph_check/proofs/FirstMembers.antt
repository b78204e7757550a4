-- Lists of which the first k members are judged, and their next member.
use Rattle.std.proofs.Common.{◌≡◌, ℕ, ◌+◌, ◌<◌, Bool, true, false, ◌&&◌, ◌||◌, List, [], ◌∷◌, ◌++◌, Some, get_or, length, drop, slice_get, refl, sym, ◌∙◌, ap}
use Rattle.std.{proofs.lemmas.Option.{slice_get-get_or}, specs.List.{list_all, list_any}}
use Rattle.pc_common.specs.{Case.{Case}, World.{Node, World}}
use Rattle.pc_syntax.specs.declared.{term.Sort.{Sort}, bound.Bound.{Bound}, closed.Closed.{Closed}}
use Rattle.pc_syntax.specs.Closed.{PlainClosed, plain_closed, closed_true, closed_satisfies, meaning_of}
use Rattle.pc_ground.specs.Stages.{plain_axioms}
use Rattle.static_preds.{specs.{Slots.{bound_at}, Values.{meanings}}, proofs.{Walked.{drop_at}, Ranges.{meanings_inside}}}

-- the member that a loop is at
pub item_at : {A : Type 0} (xs : List A) (k : ℕ) (x : A) → k < length xs → x ≡ get_or xs k x → slice_get xs k ≡ Some x
item_at xs k x low is = slice_get-get_or xs k x low ∙ ap Some (sym is)

-- a member that is true decides nothing of all
pub all_next : {A : Type 0} (f : A → Bool) (xs : List A) (k : ℕ) (x : A) → slice_get xs k ≡ Some x → f x ≡ true
    → list_all f (drop k xs) ≡ list_all f (drop (k + 1) xs)
all_next f xs k x there is = ap (list_all f) (drop_at xs k (k + 1) x there refl) ∙ ap (λ b. b && list_all f (drop (k + 1) xs)) is

pub all_stop : {A : Type 0} (f : A → Bool) (xs : List A) (k : ℕ) (x : A) → slice_get xs k ≡ Some x → f x ≡ false
    → list_all f (drop k xs) ≡ false
all_stop f xs k x there is = ap (list_all f) (drop_at xs k (k + 1) x there refl) ∙ ap (λ b. b && list_all f (drop (k + 1) xs)) is

-- and one that is false nothing of some
pub any_next : {A : Type 0} (f : A → Bool) (xs : List A) (k : ℕ) (x : A) → slice_get xs k ≡ Some x → f x ≡ false
    → list_any f (drop k xs) ≡ list_any f (drop (k + 1) xs)
any_next f xs k x there is = ap (list_any f) (drop_at xs k (k + 1) x there refl) ∙ ap (λ b. b || list_any f (drop (k + 1) xs)) is

pub any_stop : {A : Type 0} (f : A → Bool) (xs : List A) (k : ℕ) (x : A) → slice_get xs k ≡ Some x → f x ≡ true
    → list_any f (drop k xs) ≡ true
any_stop f xs k x there is = ap (list_any f) (drop_at xs k (k + 1) x there refl) ∙ ap (λ b. b || list_any f (drop (k + 1) xs)) is

-- axioms before the next one
pub axioms_next : (c : Case) (w : World Node) (xs : List Closed) (k : ℕ) (x : Closed) → slice_get xs k ≡ Some x
    → closed_true c w [] (plain_closed x.body) ≡ true
    → closed_satisfies (plain_axioms (drop k xs)) c w ≡ closed_satisfies (plain_axioms (drop (k + 1) xs)) c w
axioms_next c w xs k x there is =
    ap (λ ys. closed_satisfies (plain_axioms ys) c w) (drop_at xs k (k + 1) x there refl)
    ∙ ap (λ b. b && closed_satisfies (plain_axioms (drop (k + 1) xs)) c w) is

pub axioms_stop : (c : Case) (w : World Node) (xs : List Closed) (k : ℕ) (x : Closed) → slice_get xs k ≡ Some x
    → closed_true c w [] (plain_closed x.body) ≡ false
    → closed_satisfies (plain_axioms (drop k xs)) c w ≡ false
axioms_stop c w xs k x there is =
    ap (λ ys. closed_satisfies (plain_axioms ys) c w) (drop_at xs k (k + 1) x there refl)
    ∙ ap (λ b. b && closed_satisfies (plain_axioms (drop (k + 1) xs)) c w) is

-- what a walk inside a quantifier judged, by the quantifier's slots
pub judged : (c : Case) (w : World Node) (slots inside : List Bound) (sort : Sort) (p : PlainClosed) (k : ℕ) (v : Bound) (b want : Bool)
    → v ≡ bound_at sort k → inside ≡ slots ++ v ∷ [] → b ≡ closed_true c w (meanings inside) p → b ≡ want
    → closed_true c w (meanings slots ++ meaning_of (bound_at sort k) ∷ []) p ≡ want
judged c w slots inside sort p k v b want value bound is told =
    ap (λ m. closed_true c w m p) (sym (meanings_inside slots inside sort k v bound value)) ∙ sym is ∙ told
