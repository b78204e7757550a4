-- A fact that is False closes its branch: by itself, by its two sides, or by a part.
use Rattle.std.proofs.Common.{◌≡◌, ℕ, ◌+◌, true, false, List, [], ◌∷◌, ◌++◌, Some, None, map, refl, sym, ◌∙◌, ap}
use Rattle.pc_common.specs.Case.{Case}
use Rattle.lifted_facts.specs.declared.{way.Way.{Way}, fact.Fact.{Fact, TheVariants.{Said, Node as NodeFact, Edge as EdgeFact}}}
use Rattle.lifted_facts.specs.{PlainFacts.{PlainFact, plain_fact, plain_part}, Parts.{part_of, sides, is_false}}
use Rattle.lifted_facts.specs.Lifted.{LiftedStep, derive, split, close, falsity}
use Rattle.lifter.specs.{Trees.{fact_tree, joined_trees}, PartLists.{parts}, declared.kind.FactKind.{FactKind, TheVariants.{False, Open}}}
use Rattle.lifter.{specs.{Kinds.{kind_of, joined_kind}, Closings.{HasClosed}}, proofs.{KindLaws.{kind_joined}, SideLaws.{sides_tree, parts_tree}}}
use Rattle.lifter.proofs.RunsMore.{last_fact, one_longer, ran_derive, ran_split, ran_close}

pub closed_by_falsity : (c : Case) (f : PlainFact) (k n : ℕ) (old new : List LiftedStep) → is_false c f ≡ true → new ≡ old ++ close (falsity k) ∷ []
    → HasClosed c f k n old new
closed_by_falsity c f k n old new refused is = λ start b opens len has r. ran_close c start old new (falsity k) b opens (f, has, refused) is r

pub closed_by_sides : (c : Case) (f g h : PlainFact) (k n m : ℕ) (old one two new : List LiftedStep) → sides c f ≡ Some (g, h) → m ≡ n + 1
    → one ≡ old ++ split k ∷ []
    → HasClosed c g n m one two → HasClosed c h n m two new → HasClosed c f k n old new
closed_by_sides c f g h k n m old one two new are more is first second = λ start b opens len has r.
    let s = ran_split c start old one k b g h opens (f, has, are) is r in
    let t = first start (b ++ g ∷ []) ((b ++ h ∷ []) ∷ opens) (one_longer b g n m len more) (last_fact b g n len) s in
    second start (b ++ h ∷ []) opens (one_longer b h n m len more) (last_fact b h n len) t

pub closed_by_part : (c : Case) (f g : PlainFact) (way : Way) (k n m : ℕ) (old one new : List LiftedStep) → part_of c way f ≡ Some g → m ≡ n + 1
    → one ≡ old ++ derive way k ∷ []
    → HasClosed c g n m one new → HasClosed c f k n old new
closed_by_part c f g way k n m old one new part more is rest = λ start b opens len has r.
    rest start (b ++ g ∷ []) opens (one_longer b g n m len more) (last_fact b g n len) (ran_derive c start old one way k b g opens (f, has, part) is r)

either_false : (a b : FactKind) → joined_kind false a b ≡ False → (a ≡ False) × (b ≡ False)
either_false False b e = (refl, e)
either_false Open Open e = cc
either_false _ _ e = cc

-- both sides of a fact that is False are so
pub sides_false : (c : Case) (f g h : PlainFact) → sides c f ≡ Some (g, h) → kind_of (fact_tree c f) ≡ False
    → (kind_of (fact_tree c g) ≡ False) × (kind_of (fact_tree c h) ≡ False)
sides_false c f g h are refused =
    either_false (kind_of (fact_tree c g)) (kind_of (fact_tree c h))
    (sym (ap kind_of (sides_tree c f g h are) ∙ kind_joined false (fact_tree c g) (fact_tree c h)) ∙ refused)

-- a fact that is False with no sides, and not by itself, has a part that is so
pub parts_false : (c : Case) (f : Fact) → sides c (plain_fact f) ≡ None → is_false c (plain_fact f) ≡ false → kind_of (fact_tree c (plain_fact f)) ≡ False
    → kind_of (joined_trees true (map (fact_tree c) (parts c (plain_fact f)))) ≡ False
parts_false c (Said s) none fine refused = sym (ap kind_of (parts_tree c (plain_part s) tt none fine)) ∙ refused
parts_false c (NodeFact true a) none fine refused = cc
parts_false c (NodeFact false a) none fine refused = cc
parts_false c (EdgeFact true a b) none fine refused = cc
parts_false c (EdgeFact false a b) none fine refused = cc
