-- Taking changes back, and the tables on the way.
use Rattle.std.proofs.Common.{◌≡◌, ◌≢◌, ℕ, zero, suc, ◌<◌, List, [], ◌∷◌, ◌++◌, length, take, drop, get_or, set, refl, sym, ◌∙◌, ap, arith}
use Rattle.std.{proofs.lemmas.List.{set-set, set-get_or, get_or-set_same, length-set, Elements.{All-head, All-tail}}, specs.Prelude.{All}}
use Rattle.undo_trail.specs.{declared.trail.Change.{Change}, BitTable.{IsOneWordOn, IsHistory}, Trail.{back, past, IsChanging}}

pub back_push : (cs : List Change) (c : Change) (t : List ℕ) → back (cs ++ c ∷ []) t ≡ back cs (set t c.place c.old)
back_push [] c t = refl
back_push (d ∷ ds) c t = ap (λ u. set u d.place d.old) (back_push ds c t)

pub past_push : (cs : List Change) (c : Change) (t : List ℕ)
    → past (cs ++ c ∷ []) t ≡ past cs (set t c.place c.old) ++ set t c.place c.old ∷ []
past_push [] c t = refl
past_push (d ∷ ds) c t = rw (back_push ds c t, past_push ds c t)

pub changing_push : (cs : List Change) (c : Change) (t : List ℕ)
    → IsChanging cs (set t c.place c.old) → c.old ≢ get_or t c.place 0 → IsChanging (cs ++ c ∷ []) t
changing_push [] c t h n = (n, tt)
changing_push (d ∷ ds) c t h n = (rw (back_push ds c t) h.0, changing_push ds c t h.1 n)

pub length-past : (cs : List Change) (t : List ℕ) → length (past cs t) ≡ length cs
length-past [] t = refl
length-past (c ∷ cs) t = ap suc (length-past cs t)

pub length-back : (cs : List Change) (t : List ℕ) → length (back cs t) ≡ length t
length-back [] t = refl
length-back (c ∷ cs) t = length-set (back cs t) c.place c.old ∙ length-back cs t

-- to take back all is to take back the later ones and then the first n
pub back_split : (n : ℕ) (cs : List Change) (t : List ℕ) → back (take n cs) (back (drop n cs) t) ≡ back cs t
back_split zero cs t = refl
back_split (suc n) [] t = refl
back_split (suc n) (c ∷ cs) t = ap (λ u. set u c.place c.old) (back_split n cs t)

pub past_split : (n : ℕ) (cs : List Change) (t : List ℕ) → let b = back (drop n cs) t in
    past (take n cs) b ++ b ∷ [] ≡ take (suc n) (past cs t ++ t ∷ [])
past_split zero [] t = refl
past_split zero (c ∷ cs) t = refl
past_split (suc n) [] t = refl
past_split (suc n) (c ∷ cs) t = rw (back_split n cs t, past_split n cs t)

pub changing_split : (n : ℕ) (cs : List Change) (t : List ℕ) → IsChanging cs t → IsChanging (take n cs) (back (drop n cs) t)
changing_split zero cs t h = tt
changing_split (suc n) [] t h = tt
changing_split (suc n) (c ∷ cs) t h = (rw (back_split n cs t) h.0, changing_split n cs t h.1)

one_word : (c : Change) (cs : List Change) (t : List ℕ) → c.place < length t → c.old ≢ get_or (back cs t) c.place 0
    → IsOneWordOn (back (c ∷ cs) t) (back cs t)
one_word c cs t inside changed =
    let u : List ℕ = back cs t in
    let size = length-back cs t in
    let here : c.place < length u = omega arith in
    record {
      place = c.place;
      inside = (let s = length-set u c.place c.old in omega arith);
      is = sym (set-set u c.place c.old (get_or u c.place 0) ∙ set-get_or u c.place 0);
      differs = λ e. changed (sym (get_or-set_same u c.place c.old 0 here) ∙ sym e);
    }

pub history : (cs : List Change) (t : List ℕ) → All (λ c. c.place < length t) cs → IsChanging cs t → IsHistory (past cs t ++ t ∷ [])
history [] t inside h = tt
history (c ∷ []) t inside h = (one_word c [] t (All-head (λ d. d.place < length t) c [] inside) h.0, tt)
history (c ∷ d ∷ ds) t inside h = (
  one_word c (d ∷ ds) t (All-head (λ e. e.place < length t) c (d ∷ ds) inside) h.0,
  history (d ∷ ds) t
      (All-tail (λ e. e.place < length t) c (d ∷ ds) inside) h.1,
)
