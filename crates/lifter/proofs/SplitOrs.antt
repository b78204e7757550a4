-- An Or of the ground tree is split by the fact that it is the tree of.
use Rattle.std.proofs.Common.{◌≡◌, ℕ, ◌+◌, false, ◌<◌, List, ◌∷◌, ◌++◌, Option, Some, None, length, get_or, map, take, reverse, refl, sym, ◌∙◌, ap, subst, arith}
use Rattle.std.proofs.{Math.Seq.{take-length}, lemmas.{List.Elements.{All-get_or}, Option.{slice_get-map, slice_get_within, slice_get_read}}}
use Rattle.std.specs.{Prelude.{All}, Option.{option_map}}
use Rattle.pc_common.{specs.{Case.{Case}, World.{Node}}, proofs.{Elements.{In}, Places.{one_item}}}
use Rattle.pc_ground.specs.{declared.{row.Row.{Row}, version.Version.TheVariants.{One}}, Rows.{IsPart}, Tree.{Tree, either, size_of}}
use Rattle.pc_ground.{specs.Refutes.{asserted, all_signed, left_branch, right_branch}, proofs.FlatRows.{one_part, subtree_part, parts_either}}
use Rattle.lifted_facts.specs.{declared.fact.Fact.{Fact}, PlainFacts.{PlainFact, Branch, plain_fact, IsProper}, Lifted.{HasFact}, Parts.{sides}}
use Rattle.lifter.specs.{Trees.{fact_tree}, declared.{kind.FactKind.TheVariants.{Open}, state.{Task.TheVariants.{Side}, Later.{Later}, State.{State}}}}
use Rattle.lifter.specs.{Kinds.{kind_of}, KnownFacts.{Entry, entry, or_at, IsOr, HaveMore}}
use Rattle.lifter.specs.{States.{branch_of, IsGoodState, IsCovered, IsSide, AreMatched, side, IsMatchedState}, Unfoldings.{HasUnfolded}, Progress.{HasSplitOr}}
use Rattle.lifter.proofs.{KnownLaws.{matched_same}, StateMoves.{mapped_length}, CoveredBranches.{covered_more, covered_side}}

abbrev pair : PlainFact → PlainFact → PlainFact × PlainFact
pair f g = (f, g)

same_sides : (o : Option (PlainFact × PlainFact)) (f g x y : PlainFact) → o ≡ Some (pair f g) → o ≡ Some (pair x y) → (f ≡ x) × (g ≡ y)
same_sides o f g x y e h =
    (let same : pair f g ≡ pair x y = cc in (ap (λ (z : PlainFact × PlainFact). z.0) same, ap (λ (z : PlainFact × PlainFact). z.1) same))

pub no_sides : (o : Option (PlainFact × PlainFact)) (f g : PlainFact) → o ≡ Some (pair f g) → o ≡ None → ⊥
no_sides o f g e h = cc

-- what is known of an Or, of its two sides by their names
or_sides : (c : Case) (rows : List (Row Node)) (f g h : PlainFact) (p : ℕ) → IsOr c rows f p → sides c f ≡ Some (g, h)
    → (kind_of (fact_tree c g) ≡ Open) × (kind_of (fact_tree c h) ≡ Open) × IsPart rows p (either (fact_tree c g) (fact_tree c h))
or_sides c rows f g h p is are =
    let s = same_sides (sides c f) is.first is.second g h is.are are in
    let G : PlainFact → Type 0 = λ x. kind_of (fact_tree c x) ≡ Open in
    let P : PlainFact → Type 0 = λ x. IsPart rows p (either (fact_tree c x) (fact_tree c is.second)) in
    let Q : PlainFact → Type 0 = λ x. IsPart rows p (either (fact_tree c g) (fact_tree c x)) in
    (subst G s.0 is.first_open, subst G s.1 is.second_open, subst Q s.1 (subst P s.0 is.stands))

-- the fact of a number in the code
pub fact_within : (facts : List Fact) (k : ℕ) (f : PlainFact) → HasFact (map plain_fact facts) k f → k < length facts
fact_within facts k f h = (let within = slice_get_within (map plain_fact facts) k f h in let same = mapped_length facts in omega (arith, within, same))

pub fact_read : (facts : List Fact) (k : ℕ) (x : Fact) (f : PlainFact) → HasFact (map plain_fact facts) k f → x ≡ get_or facts k x → plain_fact x ≡ f
fact_read facts k x f h is =
    let there = slice_get_read facts (length facts) k x refl (fact_within facts k f h) is in
    one_item (plain_fact x) f (sym (slice_get-map plain_fact facts k ∙ ap (option_map plain_fact) there) ∙ h)

pub proper_read : (c : Case) (facts : List Fact) (k : ℕ) (x : Fact) → All (IsProper c) facts → k < length facts → x ≡ get_or facts k x → IsProper c x
proper_read c facts k x all within is = (let P : Fact → Type 0 = λ y. IsProper c y in subst P (sym is) (All-get_or (IsProper c) facts k x within all))

-- the fact of this number is that of the Or at a position, and these are its sides
pub record IsSplitBy (c : Case) (rows : List (Row Node)) (s : State) (p n : ℕ) (x : Fact) (g h : PlainFact) : Type 0 where
  pub has : HasFact (branch_of s) n (plain_fact x)
  pub first_open : kind_of (fact_tree c g) ≡ Open
  pub second_open : kind_of (fact_tree c h) ≡ Open
  pub stands : IsPart rows p (either (fact_tree c g) (fact_tree c h))
  pub left : IsPart rows (p + 1) (fact_tree c g)

-- the Or at a position that is known, by its fact in the code
module _ (c : Case) (rows : List (Row Node)) (start : List Branch) (s : State) (p n : ℕ) (good : IsGoodState c rows start s)
    (key : In (entry (or_at p) n) s.known) where
  pub or_within : n < length s.facts.items
  or_within = (let k = good.known (or_at p) n key in fact_within s.facts.items n k.1 k.2)

  pub or_fact : (x : Fact) → x ≡ get_or s.facts.items n x → HasFact (branch_of s) n (plain_fact x) × IsOr c rows (plain_fact x) p
  or_fact x is =
      let k = good.known (or_at p) n key in
      let same = sym (fact_read s.facts.items n x k.1 k.2 is) in
      let P : PlainFact → Type 0 = λ f. HasFact (branch_of s) n f × IsOr c rows f p in
      subst P same (k.2, k.3)

  pub split_by : (x : Fact) (g h : PlainFact) → x ≡ get_or s.facts.items n x → sides c (plain_fact x) ≡ Some (pair g h) → IsSplitBy c rows s p n x g h
  split_by x g h is are =
      let o = or_fact x is in
      let two = or_sides c rows (plain_fact x) g h p o.1 are in
      record {
        has = o.0;
        first_open = two.0;
        second_open = two.1;
        stands = two.2;
        left = (parts_either rows p (fact_tree c g) (fact_tree c h) two.2).0;
      }

same_trees : (a b x y : Tree Node) → either a b ≡ either x y → (a ≡ x) × (b ≡ y)
same_trees a b x y e = (cc, cc)

pub split_on : (c : Case) (rows : List (Row Node)) (old mid new : State) (g h : PlainFact) (l : Later) (p right : ℕ)
    → kind_of (fact_tree c h) ≡ Open → IsPart rows p (either (fact_tree c g) (fact_tree c h))
    → plain_fact l.fact ≡ h → l.task ≡ Side right → right ≡ p + 1 + size_of (fact_tree c g) → l.known ≡ length old.known
    → mid.known ≡ old.known → reverse mid.later.items ≡ l ∷ reverse old.later.items
    → ((start : List Branch) → IsGoodState c rows start old → IsGoodState c rows start mid)
    → HasUnfolded c rows (fact_tree c g) (p + 1) mid new → HasSplitOr c rows p old new
split_on c rows old mid new g h l p right second_open part fact task place keys known later good unfolded =
    λ start t ps rest a b spelled is_good covered found at.
    let R : List (Row Node) → Type 0 = λ rs. IsPart rs p (either a b) in
    let there : IsPart rows p (either a b) = subst R (sym spelled) (subtree_part t p (either a b) at) in
    let same = same_trees (fact_tree c g) (fact_tree c h) a b (one_part rows p (either (fact_tree c g) (fact_tree c h)) (either a b) part there) in
    let below = parts_either rows p (fact_tree c g) (fact_tree c h) part in
    let es = old.known in
    let cut : take l.known es ≡ es = ap (λ n. take n es) keys ∙ take-length es in
    let C : List Entry → Type 0 = λ y. IsCovered rows y ps in
    let F : PlainFact → Type 0 = λ x. IsPart rows right (fact_tree c x) in
    let N : ℕ → Type 0 = λ n. IsPart rows n (fact_tree c h) in
    let O : PlainFact → Type 0 = λ x. kind_of (fact_tree c x) ≡ Open in
    let branch : right_branch One ps false p a b ≡ ps ++ all_signed false (asserted (fact_tree c (plain_fact l.fact)) right) =
    ap (λ u. ps ++ all_signed false (asserted b (p + 1 + size_of u))) (sym same.0)
    ∙ ap (λ u. ps ++ all_signed false (asserted u (p + 1 + size_of (fact_tree c g)))) (sym same.1)
    ∙ ap (λ n. ps ++ all_signed false (asserted (fact_tree c h) n)) (sym place)
    ∙ ap (λ x. ps ++ all_signed false (asserted (fact_tree c x) right)) (sym fact) in
    let takes : IsSide c rows (take l.known es) l right (right_branch One ps false p a b) = record {
      before = ps;
      covered = subst C (sym cut) covered;
      stands = subst F (sym fact) (subst N (sym place) below.1);
      is_open = subst O (sym fact) second_open;
      all = branch;
    } in
    let M : List Entry → Type 0 = λ y. AreMatched c rows y (reverse old.later.items) rest in
    let waits : AreMatched c rows es (l ∷ reverse old.later.items) (right_branch One ps false p a b ∷ rest) =
    side l right (right_branch One ps false p a b) task takes (subst M (sym cut) found) in
    let mid_found : IsMatchedState c rows mid (right_branch One ps false p a b ∷ rest) =
    matched_same c rows es mid.known (l ∷ reverse old.later.items) (reverse mid.later.items) (right_branch One ps false p a b ∷ rest) (sym known)
    (sym later) waits in
    let mid_good = good start is_good in
    let K : List Entry → Type 0 = λ y. HaveMore y new.known in
    let B : Tree Node → Type 0 = λ u. IsCovered rows new.known (ps ++ all_signed false (asserted u (p + 1))) in
    record {
      first = left_branch ps false p a;
      rest = right_branch One ps false p a b ∷ rest;
      are = refl;
      good = unfolded.moves.good start mid_good;
      covered = subst B same.0
          (covered_side rows new.known ps (asserted (fact_tree c g) (p + 1))
          (covered_more rows es new.known ps (subst K known unfolded.moves.keys) covered) unfolded.told);
      matched = unfolded.moves.matched start (right_branch One ps false p a b ∷ rest) mid_good mid_found;
    }
