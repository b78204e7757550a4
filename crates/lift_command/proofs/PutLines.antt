-- Bytes that are put after a text, one part after another, and the lines that they make.
use Rattle.std.proofs.{Common.{◌≡◌, ℕ, ◌+◌, List, [], ◌∷◌, ◌++◌, Some, map, take, refl, sym, ◌∙◌, ap, subst, append_assoc}, lemmas.Result.{on_ok_weaker}}
use Rattle.std.proofs.lemmas.{Grind.{flat_map-append}, List.{append-nil, map-append, Elements.{All-get_or, All-push}}}
use Rattle.std.{proofs.lemmas.Option.{slice_get_within, get_or_from_slice_get}, specs.{Prelude.{Result, OnOk, All, codes, slice_get}, List.{flat_map}}}
use Rattle.std.specs.Fmt.{decimal}
use Rattle.pc_common.specs.{Case.{MicroOp}, Lines.{op_text}}
use Rattle.static_preds.proofs.Walked.{map_take}
use Rattle.lifted_facts.specs.{declared.way.Instance.TheVariants.{Op as OpInstance}, Lifted.{LiftedStep, close, cycle, path}}
use Rattle.lifted_check.specs.StepLines.{value_text}
use Rattle.lift_command.{specs.WrittenLines.{line_of, line_text, spaced_words}, proofs.SpacedLines.{line_is, spaced_more}}

-- first these bytes, and then those
pub put_then : {T E : Type 0} (r : Result T E) (old mid new xs ys : List ℕ) → mid ≡ old ++ xs → OnOk r (new ≡ mid ++ ys) → OnOk r (new ≡ old ++ (xs ++ ys))
put_then r old mid new xs ys is h = on_ok_weaker r (λ e. e ∙ ap (λ (t : List ℕ). t ++ ys) is ∙ append_assoc old xs ys) h

pub put_as : {T E : Type 0} (r : Result T E) (old new xs ys : List ℕ) → xs ≡ ys → OnOk r (new ≡ old ++ xs) → OnOk r (new ≡ old ++ ys)
put_as r old new xs ys same h = on_ok_weaker r (λ e. e ∙ ap (λ (t : List ℕ). old ++ t) same) h

pub cycle_line : (ops : List MicroOp) (k : ℕ) (ks : List ℕ)
    → codes "cycle" ++ ((codes " " ++ decimal k) ++ spaced_words (map decimal ks)) ≡ line_of ops (close (cycle k ks))
cycle_line ops k ks = sym (line_is ops (close (cycle k ks))
    ∙ ap (λ (r : List ℕ). codes "cycle" ++ r) (append-nil ((codes " " ++ decimal k) ++ spaced_words (map decimal ks))))

pub path_line : (ops : List MicroOp) (k : ℕ) (ks : List ℕ) (denial : ℕ)
    → (codes "path" ++ ((codes " " ++ decimal k) ++ spaced_words (map decimal ks))) ++ (codes " " ++ decimal denial) ≡ line_of ops (close (path k ks denial))
path_line ops k ks denial =
    let first : List ℕ = codes " " ++ decimal k in
    let last : List ℕ = codes " " ++ decimal denial in
    let mid = spaced_words (map decimal ks) in
    let more : spaced_words (map decimal (ks ++ denial ∷ [])) ≡ mid ++ last =
    ap spaced_words (map-append decimal ks (denial ∷ [])) ∙ spaced_more (map decimal ks) (decimal denial ∷ [])
    ∙ ap (λ (r : List ℕ). mid ++ r) (append-nil last) in
    sym (line_is ops (close (path k ks denial))
    ∙ ap (λ (r : List ℕ). codes "path" ++ r) (append-nil (first ++ spaced_words (map decimal (ks ++ denial ∷ []))))
    ∙ ap (λ (r : List ℕ). codes "path" ++ (first ++ r)) more
    ∙ ap (λ (r : List ℕ). codes "path" ++ r) (sym (append_assoc first mid last))
    ∙ sym (append_assoc (codes "path") (first ++ mid) last))

taken_next : {X : Type 0} (xs : List X) (k : ℕ) (x : X) → slice_get xs k ≡ Some x → take (k + 1) xs ≡ take k xs ++ x ∷ []
taken_next xs k x there = sym (map_same (take (k + 1) xs)) ∙ map_take (λ y. y) xs k x there ∙ ap (λ ys. ys ++ x ∷ []) (map_same (take k xs))
  where
    map_same : {X : Type 0} (xs : List X) → map (λ y. y) xs ≡ xs
    map_same [] = refl
    map_same (x ∷ xs) = ap (λ ys. x ∷ ys) (map_same xs)

-- one line more
pub lines_next : (ops : List MicroOp) (steps : List LiftedStep) (k : ℕ) (s : LiftedStep) (front old new : List ℕ) → slice_get steps k ≡ Some s
    → old ≡ front ++ flat_map (line_text ops) (take k steps) → new ≡ old ++ line_text ops s → new ≡ front ++ flat_map (line_text ops) (take (k + 1) steps)
lines_next ops steps k s front old new there before is =
    let sofar = flat_map (line_text ops) (take k steps) in
    let more : flat_map (line_text ops) (take (k + 1) steps) ≡ sofar ++ line_text ops s =
    ap (flat_map (line_text ops)) (taken_next steps k s there) ∙ flat_map-append (line_text ops) (take k steps) (s ∷ [])
    ∙ ap (λ (r : List ℕ). sofar ++ r) (append-nil (line_text ops s)) in
    is ∙ ap (λ (t : List ℕ). t ++ line_text ops s) before ∙ append_assoc front sofar (line_text ops s) ∙ ap (λ (r : List ℕ). front ++ r) (sym more)

-- what holds of all holds of the one at a place
pub all_at : {X : Type 0} (P : X → Type 0) (xs : List X) (k : ℕ) (x : X) → All P xs → slice_get xs k ≡ Some x → P x
all_at P xs k x all there = subst P (get_or_from_slice_get xs k x x there) (All-get_or P xs k x (slice_get_within xs k x there) all)

-- the three lines of a header
pub put_header_text : {T E : Type 0} (r : Result T E) (old one two new given second : List ℕ) → given ≡ second
    → one ≡ old ++ codes "unobservable\n" → two ≡ one ++ given
    → OnOk r (new ≡ two ++ codes "lifted\n") → OnOk r (new ≡ old ++ (codes "unobservable\n" ++ (second ++ codes "lifted\n")))
put_header_text r old one two new given second same first next h =
    on_ok_weaker r
    (λ e. e ∙ ap (λ (t : List ℕ). t ++ codes "lifted\n") (next ∙ ap (λ (t : List ℕ). t ++ given) first
    ∙ ap (λ (t : List ℕ). (old ++ codes "unobservable\n") ++ t) same)
    ∙ append_assoc (old ++ codes "unobservable\n") second (codes "lifted\n") ∙ append_assoc old (codes "unobservable\n") (second ++ codes "lifted\n")) h

-- one more of those before a place
pub all_next : {X : Type 0} (P : X → Type 0) (xs : List X) (k : ℕ) (x : X) → slice_get xs k ≡ Some x → All P (take k xs) → P x → All P (take (k + 1) xs)
all_next P xs k x there before here = (subst (λ ys. All P ys) (sym (taken_next xs k x there)) (All-push P (take k xs) x before here))

-- the name of the micro-op at a place
pub put_op : {T E : Type 0} (r : Result T E) (ops : List MicroOp) (i : ℕ) (o : MicroOp) (old one two new : List ℕ)
    → slice_get ops i ≡ Some o → one ≡ old ++ decimal o.g → two ≡ one ++ codes "."
    → OnOk r (new ≡ two ++ decimal o.n) → OnOk r (new ≡ old ++ value_text ops (OpInstance i))
put_op r ops i o old one two new there first next h =
    on_ok_weaker r
    (λ e. e ∙ ap (λ (t : List ℕ). t ++ decimal o.n) (next ∙ ap (λ (t : List ℕ). t ++ codes ".") first ∙ append_assoc old (decimal o.g) (codes "."))
    ∙ append_assoc old (decimal o.g ++ codes ".") (decimal o.n) ∙ ap (λ m. old ++ op_text m) (sym there)) h
