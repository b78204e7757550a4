-- Pieces put into a room one after another, as one text.
use Rattle.std.proofs.Common.{◌≡◌, ℕ, ◌+◌, ◌<◌, List, ◌∷◌, ◌++◌, Result, length, get_or, take, drop, refl, sym, ◌∙◌, ap}
use Rattle.std.{proofs.lemmas.List.{take-append-drop, drop_more, append-nil, Concat.{flat_map-append}}, specs.{Prelude.{IsOk, IsErr}, List.{flat_map}}}
use Rattle.pc_common.specs.{Outside.{SinkView}, Writes.{success}, Room.{Puts}, declared.room.Room.{Room}}
use Rattle.pc_common.proofs.{Rooms.{puts_then, puts_stop, puts_nothing, puts_text}, Writes.{flat_more}}

flat_split : {X : Type 0} (f : X → List ℕ) (xs : List X) (k : ℕ) (d : X) → k < length xs
    → flat_map f (take k xs) ++ (f (get_or xs k d) ++ flat_map f (drop (k + 1) xs)) ≡ flat_map f xs
flat_split f xs k d inside =
    sym (flat_map-append f (take k xs) (get_or xs k d ∷ drop (k + 1) xs))
    ∙ ap (flat_map f) (ap (λ ys. take k xs ++ ys) (sym (drop_more xs k d inside)) ∙ take-append-drop k xs)

-- what was put without an error
pub puts_done : {K : Type 0} {view : K → SinkView} {old new : Room K}
    {T E : Type 0} {r : Result T E} {text : List ℕ} → IsOk r → Puts view old new r text → Puts view old new success text
puts_done {view = view} {old} {new} {text = text} ok puts =
    puts_text text (append-nil text) (puts_then ok puts (puts_nothing view new new refl))

-- the texts of the first k things, and of one more
pub puts_next : {K X : Type 0} {view : K → SinkView} {old mid new : Room K}
    {T E : Type 0} {r : Result T E} (f : X → List ℕ) (xs : List X) (k : ℕ) (d : X) → k < length xs → IsOk r
    → Puts view old mid success (flat_map f (take k xs)) → Puts view mid new r (f (get_or xs k d))
    → Puts view old new success (flat_map f (take (k + 1) xs))
puts_next f xs k d inside ok before puts =
    puts_text (flat_map f (take (k + 1) xs)) (flat_more f xs k d inside) (puts_then refl before (puts_done ok puts))

-- the texts of the first k things, of which the next failed
pub puts_failed : {K X : Type 0} {view : K → SinkView} {old mid new : Room K}
    {T E U F : Type 0} {r : Result T E} {s : Result U F} (f : X → List ℕ) (xs : List X) (k : ℕ) (d : X) → k < length xs → IsErr r → IsErr s
    → Puts view old mid success (flat_map f (take k xs)) → Puts view mid new r (f (get_or xs k d))
    → Puts view old new s (flat_map f xs)
puts_failed f xs k d inside err fails before puts =
    puts_text (flat_map f xs) (flat_split f xs k d inside)
    (puts_then refl before (puts_stop (flat_map f (drop (k + 1) xs)) err fails puts))
