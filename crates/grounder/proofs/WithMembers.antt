-- Members joined by And or Or: one that decides, one that has no effect, and the unfolded list folded.
use Rattle.std.proofs.{Common.{◌≡◌, List, [], ◌∷◌, ◌++◌, map, refl, sym, ap, ◌∙◌, append_assoc}, lemmas.List.{map-append}}
use Rattle.pc_common.specs.Case.{Case}
use Rattle.pc_syntax.specs.{declared.{closed.Closed.{Closed}, bound.Bound.{Bound}}, Closed.{plain_closed, PlainClosed}, Truth.{Meaning}}
use Rattle.pc_ground.specs.{GroundTree.{axioms_unfolded}, declared.ground.Ground.{Ground}}
use Rattle.pc_ground.specs.PlainGround.{PlainGround, ground_true, ground_conjoined, plain_ground, simplified, ground_false, ground_literal, ground_not, ground_and, ground_or}
use Rattle.pc_ground.specs.Unfolded.{closed_unfolded}
use Rattle.static_preds.specs.Values.{meanings}
use Rattle.grounder.specs.declared.operator.Operator.{Operator, TheVariants.{And, Or}}
use Rattle.grounder.specs.{Members.{unfolded_all, unit_of, decider_of, with_member, with_members, whole_of}, GroundingOf.{grounding_of}}

-- the body of a quantifier, where its variable has this value
abbrev pub grounding_at : Case → List Bound → PlainClosed → Meaning → PlainGround
grounding_at c slots p v = simplified (closed_unfolded c (meanings slots ++ v ∷ []) p)

with_member-decider : (con : Operator) (g : PlainGround) → with_member con g (decider_of con) ≡ decider_of con
with_member-decider And ground_true = refl
with_member-decider And ground_false = refl
with_member-decider And (ground_literal l) = refl
with_member-decider And (ground_not g) = refl
with_member-decider And (ground_and g h) = refl
with_member-decider And (ground_or g h) = refl
with_member-decider Or ground_true = refl
with_member-decider Or ground_false = refl
with_member-decider Or (ground_literal l) = refl
with_member-decider Or (ground_not g) = refl
with_member-decider Or (ground_and g h) = refl
with_member-decider Or (ground_or g h) = refl

decider-with_member : (con : Operator) (g : PlainGround) → with_member con (decider_of con) g ≡ decider_of con
decider-with_member And g = refl
decider-with_member Or g = refl

unit-with_member : (con : Operator) (g : PlainGround) → with_member con (unit_of con) g ≡ g
unit-with_member And g = refl
unit-with_member Or g = refl

pub before-append : (con : Operator) (gs hs : List PlainGround) (h : PlainGround)
    → with_members con (gs ++ hs) h ≡ with_members con gs (with_members con hs h)
before-append con [] hs h = refl
before-append con (g ∷ gs) hs h = ap (with_member con g) (before-append con gs hs h)

before-decider : (con : Operator) (gs : List PlainGround) → with_members con gs (decider_of con) ≡ decider_of con
before-decider con [] = refl
before-decider con (g ∷ gs) = ap (with_member con g) (before-decider con gs) ∙ with_member-decider con g

-- a member that decides, whatever stands after it
pub decided : (con : Operator) (gs : List PlainGround) (g : PlainGround) (rest : List PlainGround)
    → g ≡ decider_of con → whole_of con (gs ++ g ∷ rest) ≡ decider_of con
decided con gs g rest e =
    before-append con gs (g ∷ rest) (unit_of con) ∙
    ap (λ d. with_members con gs (with_member con d (whole_of con rest))) e ∙
    ap (with_members con gs) (decider-with_member con (whole_of con rest)) ∙
    before-decider con gs

-- a member without effect
pub skipped : (con : Operator) (gs : List PlainGround) (g : PlainGround) (rest : List PlainGround)
    → g ≡ unit_of con → whole_of con (gs ++ g ∷ rest) ≡ whole_of con (gs ++ rest)
skipped con gs g rest e =
    before-append con gs (g ∷ rest) (unit_of con) ∙
    ap (λ d. with_members con gs (with_member con d (whole_of con rest))) e ∙
    ap (with_members con gs) (unit-with_member con (whole_of con rest)) ∙
    sym (before-append con gs rest (unit_of con))

-- a member that is kept
pub put_last : (con : Operator) (kept after : List Ground) (g : Ground) (rest : List PlainGround)
    → after ≡ kept ++ g ∷ [] → whole_of con (map plain_ground kept ++ plain_ground g ∷ rest) ≡ whole_of con (map plain_ground after ++ rest)
put_last con kept after g rest e =
    rw (e, map-append plain_ground kept (g ∷ [])) (ap (whole_of con) (sym (append_assoc (map plain_ground kept) (plain_ground g ∷ []) rest)))

-- the last member joined with the rest
pub taken_last : (con : Operator) (before after : List Ground) (g : Ground) (rest whole : PlainGround)
    → before ≡ after ++ g ∷ [] → whole ≡ with_member con (plain_ground g) rest
    → with_members con (map plain_ground after) whole ≡ with_members con (map plain_ground before) rest
taken_last con before after g rest whole e is =
    rw (e, map-append plain_ground after (g ∷ []), is) (sym (before-append con (map plain_ground after) (plain_ground g ∷ []) rest))

-- the axioms unfolded and then folded
pub axioms_folded : (c : Case) (axioms : List Closed)
    → simplified (axioms_unfolded c (map (λ a. plain_closed a.body) axioms)) ≡ whole_of And (map (λ a. grounding_of c [] (plain_closed a.body)) axioms)
axioms_folded c [] = refl
axioms_folded c (a ∷ axioms) = ap (ground_conjoined (grounding_of c [] (plain_closed a.body))) (axioms_folded c axioms)

-- the members unfolded and then folded
pub simplified-all : {A : Type 0} (con : Operator) (f : A → PlainGround) (xs : List A)
    → simplified (unfolded_all con (map f xs)) ≡ whole_of con (map (λ x. simplified (f x)) xs)
simplified-all And f [] = refl
simplified-all And f (x ∷ xs) = ap (with_member And (simplified (f x))) (simplified-all And f xs)
simplified-all Or f [] = refl
simplified-all Or f (x ∷ xs) = ap (with_member Or (simplified (f x))) (simplified-all Or f xs)
