-- The words that were read as nodes so far.
use Rattle.std.proofs.Common.{◌≡◌, ℕ, ◌+◌, ◌≤◌, Bool, true, false, ◌||◌, List, [], ◌∷◌, ◌++◌, Ok, Err, map, length, not, inl, Option, Some, None, refl, sym, ◌∙◌, ap, arith, append_assoc, subst}
use Rattle.std.{proofs.lemmas.List.{append-nil, length-append, map-append, Elements.{All-push, All-contains}}, specs.{Prelude.{All}, Option.{option_map_or}}}
use Rattle.pc_common.{proofs.Elements.{In, in_front, in_back, from_map, contains_from_in}, specs.{World.{Node}, Lines.{Names, node_text}}}
use Rattle.pc_ground.specs.{NodeForm.{IsNodeForm, IsNodeIn}, declared.line_fault.LineFault.TheVariants.{Foreign}}
use Rattle.refutation.specs.StepWords.{AreSpelled, ReadsNodes, ReadsWord}

-- a word that spells no node of these names
abbrev pub IsOther : Names → List ℕ → Type 0
IsOther names w = (a : Node) → IsNodeIn names a → w ≡ node_text names a → ⊥

-- of the words all but `left` were read
pub record SoFar (names : Names) (ws left : List (List ℕ)) (foreign : Bool) (nodes : List Node) : Type 0 where
  pub done : List (List ℕ)
  pub are : ws ≡ done ++ left
  pub forms : All IsNodeForm done
  pub count : length nodes ≤ length done
  pub own : foreign ≡ false → AreSpelled names done nodes
  pub other : foreign ≡ true → (w : List ℕ) × In w done × IsOther names w

walk_moved : {ws : List (List ℕ)} (done : List (List ℕ)) (w : List ℕ) (left : List (List ℕ)) → ws ≡ done ++ w ∷ left → ws ≡ (done ++ w ∷ []) ++ left
walk_moved done w left e = e ∙ sym (append_assoc done (w ∷ []) left)

-- a word of a node of these names
pub walk_own : (names : Names) (ws : List (List ℕ)) (w : List ℕ) (left : List (List ℕ)) (foreign : Bool) (nodes : List Node) (a : Node)
    → SoFar names ws (w ∷ left) foreign nodes → IsNodeForm w → IsNodeIn names a → w ≡ node_text names a → SoFar names ws left foreign (nodes ++ a ∷ [])
walk_own names ws w left foreign nodes a h form inside is = record {
  done = h.done ++ w ∷ [];
  are = walk_moved h.done w left h.are;
  forms = All-push IsNodeForm h.done w h.forms form;
  count = (let n = length-append nodes (a ∷ []) in let m = length-append h.done (w ∷ []) in omega (arith, n, m, h.count));
  own = λ e. (let before = h.own e in (
    All-push (IsNodeIn names) nodes a before.0 inside,
    ap (λ xs. xs ++ w ∷ []) before.1 ∙ ap (λ v. map (node_text names) nodes ++ v ∷ []) is ∙ sym (map-append (node_text names) nodes (a ∷ [])),
  ));
  other = λ e. (let before = h.other e in (before.0, in_front before.0 h.done (w ∷ []) before.1, before.2));
}

-- a word of another node
pub walk_other : (names : Names) (ws : List (List ℕ)) (w : List ℕ) (left : List (List ℕ)) (foreign : Bool) (nodes : List Node)
    → SoFar names ws (w ∷ left) foreign nodes → IsNodeForm w → IsOther names w → SoFar names ws left true nodes
walk_other names ws w left foreign nodes h form other = record {
  done = h.done ++ w ∷ [];
  are = walk_moved h.done w left h.are;
  forms = All-push IsNodeForm h.done w h.forms form;
  count = (let m = length-append h.done (w ∷ []) in omega (arith, m, h.count));
  own = λ e. cc;
  other = λ e. (w, in_back w h.done (w ∷ []) (inl refl), other);
}

walk_all : {names : Names} {ws : List (List ℕ)} {foreign : Bool} {nodes : List Node} (h : SoFar names ws [] foreign nodes) → ws ≡ h.done
walk_all h = h.are ∙ append-nil h.done

pub walk_foreign : (names : Names) (ws : List (List ℕ)) (nodes : List Node) → SoFar names ws [] true nodes → ReadsNodes names ws nodes (Err Foreign)
walk_foreign names ws nodes h = (
  (let P : List (List ℕ) → Type 0 = λ vs. All IsNodeForm vs in subst P (sym (walk_all h)) h.forms),
  λ others spelled. (let (w, in_done, other) = h.other refl in
      let P : List (List ℕ) → Type 0 = λ vs. In w vs in
      let (a, in_others, is) = from_map (node_text names) w others (subst P (sym (walk_all h) ∙ spelled.1) in_done) in
      other a (All-contains (IsNodeIn names) others a spelled.0 (contains_from_in a others in_others)) (sym is)),
)

pub walk_done : (names : Names) (ws : List (List ℕ)) (nodes : List Node) → SoFar names ws [] false nodes → AreSpelled names ws nodes
walk_done names ws nodes h = (let own = h.own refl in (own.0, walk_all h ∙ own.1))

pub walk_next : (names : Names) (ws : List (List ℕ)) (w : List ℕ) (left : List (List ℕ)) (foreign own : Bool) (nodes new : List Node)
    → SoFar names ws (w ∷ left) foreign nodes → ReadsWord names w nodes new (Ok own) → SoFar names ws left (foreign || not own) new
walk_next names ws w left true true nodes new h (a, inside, form, is, e) =
    let P : List Node → Type 0 = λ ns. SoFar names ws left true ns in subst P (sym e) (walk_own names ws w left true nodes a h form inside is)
walk_next names ws w left false true nodes new h (a, inside, form, is, e) =
    let P : List Node → Type 0 = λ ns. SoFar names ws left false ns in subst P (sym e) (walk_own names ws w left false nodes a h form inside is)
walk_next names ws w left true false nodes new h (form, other, e) =
    let P : List Node → Type 0 = λ ns. SoFar names ws left true ns in subst P (sym e) (walk_other names ws w left true nodes h form other)
walk_next names ws w left false false nodes new h (form, other, e) =
    let P : List Node → Type 0 = λ ns. SoFar names ws left true ns in subst P (sym e) (walk_other names ws w left false nodes h form other)

pub walk_went : {names : Names} {ws left : List (List ℕ)} (foreign own : Bool) {new : List Node} → foreign ≡ true
    → SoFar names ws left (foreign || not own) new → SoFar names ws left foreign new
walk_went true own e h = h
walk_went false own e h = cc

pub walk_still : {names : Names} {ws left : List (List ℕ)} (foreign own : Bool) {new : List Node} → foreign ≡ false
    → SoFar names ws left (foreign || not own) new → SoFar names ws left (not own) new
walk_still true own e h = cc
walk_still false own e h = h

pub none_left : {T : Type 0} (f : T → List (List ℕ)) (o : Option T) → ((x : T) → o ≡ Some x → ⊥) → option_map_or f o [] ≡ []
none_left f None h = refl
none_left f (Some x) h = absurd (h x refl)
