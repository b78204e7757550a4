-- The next member of a list that is walked, and what lists of atoms and arguments say of one member.
use Rattle.std.proofs.Common.{◌≡◌, ℕ, zero, suc, ◌+◌, List, [], ◌∷◌, ◌++◌, Some, map, take, drop, slice_get, ap, ◌∙◌, subst, append_assoc, arith, add-one}
use Rattle.std.proofs.lemmas.List.{map-append}
use Rattle.pc_common.proofs.Places.{take-next}
use Rattle.pc_syntax.specs.declared.{term.Sort.{Sort}, closed_term.{ClosedArg.{ClosedArg}, ClosedNode.{ClosedNode}, ClosedEdge.{ClosedEdge}}}
use Rattle.pc_syntax.specs.IsClosed.{FitsNode, FitNodes, FitEdges, HasValue, HaveValues}

drop-next : {A : Type 0} (xs : List A) (k : ℕ) (x : A) → slice_get xs k ≡ Some x → drop k xs ≡ x ∷ drop (suc k) xs
drop-next [] k x h = cc
drop-next (y ∷ xs) zero x h = cc
drop-next (y ∷ xs) (suc k) x h = drop-next xs k x h

-- the rest of a list begins with its next member
pub drop_at : {A : Type 0} (xs : List A) (k j : ℕ) (x : A) → slice_get xs k ≡ Some x → k + 1 ≡ j → drop k xs ≡ x ∷ drop j xs
drop_at xs k j x h e = let next : suc k ≡ j = omega arith in drop-next xs k x h ∙ ap (λ n. x ∷ drop n xs) next

-- one member more of the first ones
pub map_take : {A B : Type 0} (f : A → B) (xs : List A) (k : ℕ) (x : A) → slice_get xs k ≡ Some x
    → map f (take (k + 1) xs) ≡ map f (take k xs) ++ f x ∷ []
map_take f xs k x h = rw (add-one, take-next xs k x h) (map-append f (take k xs) (x ∷ []))

-- the same of what the members are mapped to, after a first part
pub mapped_more : {A B C : Type 0} (f : A → C) (g : B → C) (first : List C) (xs ys : List A) (zs : List B) (k : ℕ) (x : A) (z : B)
    → slice_get zs k ≡ Some z → ys ≡ xs ++ x ∷ [] → f x ≡ g z → map f xs ≡ first ++ map g (take k zs)
    → map f ys ≡ first ++ map g (take (k + 1) zs)
mapped_more f g first xs ys zs k x z there more same sofar =
    rw (more, map-append f xs (x ∷ []), sofar, same, map_take g zs k z there) (append_assoc first (map g (take k zs)) (g z ∷ []))

pub node_fits : (scope : List Sort) (ts : List ClosedNode) (k : ℕ) (t : ClosedNode) → slice_get ts k ≡ Some t → FitNodes scope ts → FitsNode scope t
node_fits scope [] k t h fit = cc
node_fits scope (u ∷ ts) zero t h fit = let e : u ≡ t = cc in subst (FitsNode scope) e fit.0
node_fits scope (u ∷ ts) (suc k) t h fit = node_fits scope ts k t h fit.1

pub edge_fits : (scope : List Sort) (ts : List ClosedEdge) (k : ℕ) (t : ClosedEdge) → slice_get ts k ≡ Some t → FitEdges scope ts
    → FitsNode scope t.from × FitsNode scope t.to
edge_fits scope [] k t h fit = cc
edge_fits scope (u ∷ ts) zero t h fit =
    let e : u ≡ t = cc in let P : ClosedEdge → Type 0 = λ v. FitsNode scope v.from × FitsNode scope v.to in subst P e (fit.0, fit.1)
edge_fits scope (u ∷ ts) (suc k) t h fit = edge_fits scope ts k t h fit.2

pub value_there : (scope : List Sort) (as_ : List ClosedArg) (k : ℕ) (a : ClosedArg) → slice_get as_ k ≡ Some a → HaveValues scope as_ → HasValue scope a
value_there scope [] k a h have = cc
value_there scope (b ∷ as_) zero a h have = let e : b ≡ a = cc in subst (HasValue scope) e have.0
value_there scope (b ∷ as_) (suc k) a h have = value_there scope as_ k a h have.1
