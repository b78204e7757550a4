-- A fact is unfolded by its sides or by its parts.
use Rattle.std.{proofs.Common.{◌≡◌, ℕ, Bool, true, false, List, Some, None, refl, sym, ◌∙◌, ap, subst}, specs.Prelude.{Result, Ok, Err, OnOk}}
use Rattle.pc_common.specs.{Case.{Case}, World.{Node}}
use Rattle.pc_ground.specs.{Keys.{literal_node}, declared.{node_key.NodeKey.{NodeKey}, literal.Literal.{Literal}}}
use Rattle.pc_ground.specs.declared.{literal.Literal.TheVariants.{Node as a_node}, row.Row.{Row}}
use Rattle.pc_ground.{specs.{Rows.{IsPart}, Tree.{Tree, never, leaf}, PlainGround.{disjoined}, Refutes.{asserted}}, proofs.NormalForms.{disjoined_never}}
use Rattle.lifted_facts.specs.{PlainFacts.{PlainFact, Branch}, Parts.{sides, is_false}, Lifted.{HasFact}}
use Rattle.lifter.specs.{Trees.{fact_tree}, declared.{kind.FactKind.{FactKind, TheVariants.{True, False, Open}}, state.State.{State}}, Kinds.{kind_of, joined_kind}}
use Rattle.refutation.specs.BranchFacts.{facts_of_literal}
use Rattle.lifter.specs.{PartLists.{IsSaid, parts_from}, KnownFacts.{or_at, HasKey, HaveKeys, IsOr, TellsAll}, States.{branch_of, Moves}}
use Rattle.lifter.{specs.Unfoldings.{fact_of, HasUnfolded}, proofs.{KindLaws.{kind_joined}, SideLaws.{sides_tree, parts_tree, false_tree}, PartWays.{is_never}}}
use Rattle.lifter.proofs.{StateMoves.{moves_then}, Tellings.{tells_leaf, tells_either}, TakenParts.{open_either}}

pub literal_tree : (c : Case) (l : Literal Node) → fact_tree c (fact_of l) ≡ leaf l
literal_tree c (a_node a) = refl
literal_tree c _ = refl

-- Or that is no constant, where the first side is one, and where only the second one is
lost_one : (a b : FactKind) → joined_kind false a b ≡ Open → (a ≡ Open → ⊥) → (a ≡ False) × (b ≡ Open)
lost_one True b e other = cc
lost_one False b e other = (refl, e)
lost_one Open b e other = absurd (other refl)

lost_two : (a b : FactKind) → a ≡ Open → joined_kind false a b ≡ Open → (b ≡ Open → ⊥) → b ≡ False
lost_two Open False a e other = refl
lost_two Open Open a e other = absurd (other refl)
lost_two _ _ a e other = cc

module _ (c : Case) (rows : List (Row Node)) where
  -- after some moves a tree is unfolded
  pub unfolded_by : (old mid new : State) (t u : Tree Node) (at : ℕ) → Moves c rows old mid → u ≡ t → HasUnfolded c rows t at mid new
      → HasUnfolded c rows u at old new
  unfolded_by old mid new t u at moves same h = record {
    moves = moves_then c rows old mid new moves h.moves;
    told = (let P : Tree Node → Type 0 = λ x. TellsAll rows new.known (asserted x at) in subst P (sym same) h.told);
  }

  module _ (f g h : PlainFact) (are : sides c f ≡ Some (g, h)) (is_open : kind_of (fact_tree c f) ≡ Open) where
    kinds : joined_kind false (kind_of (fact_tree c g)) (kind_of (fact_tree c h)) ≡ Open
    kinds = sym (ap kind_of (sides_tree c f g h are) ∙ kind_joined false (fact_tree c g) (fact_tree c h)) ∙ is_open

    -- the first side is False
    pub first_lost : (kind_of (fact_tree c g) ≡ Open → ⊥)
        → (kind_of (fact_tree c g) ≡ False) × (kind_of (fact_tree c h) ≡ Open) × (fact_tree c f ≡ fact_tree c h)
    first_lost other =
        let k = lost_one (kind_of (fact_tree c g)) (kind_of (fact_tree c h)) kinds other in
        (k.0, k.1, sides_tree c f g h are ∙ ap (λ t. disjoined t (fact_tree c h)) (is_never (fact_tree c g) k.0))

    -- only the second one is
    pub second_lost : kind_of (fact_tree c g) ≡ Open → (kind_of (fact_tree c h) ≡ Open → ⊥)
        → (kind_of (fact_tree c h) ≡ False) × (fact_tree c f ≡ fact_tree c g)
    second_lost first other =
        let k = lost_two (kind_of (fact_tree c g)) (kind_of (fact_tree c h)) first kinds other in
        (k, sides_tree c f g h are ∙ ap (disjoined (fact_tree c g)) (is_never (fact_tree c h) k) ∙ disjoined_never (fact_tree c g))

    -- none is
    pub both_stay : (at : ℕ) → kind_of (fact_tree c g) ≡ Open → kind_of (fact_tree c h) ≡ Open → IsPart rows at (fact_tree c f) → IsOr c rows f at
    both_stay at first second here =
        let P : Tree Node → Type 0 = λ t. IsPart rows at t in
        record {
          first = g;
          second = h;
          are = are;
          first_open = first;
          second_open = second;
          stands = subst P (sides_tree c f g h are ∙ open_either (fact_tree c g) (fact_tree c h) first second) here;
        }

    pub both_told : (old new : State) (at : ℕ) → kind_of (fact_tree c g) ≡ Open → kind_of (fact_tree c h) ≡ Open → IsPart rows at (fact_tree c f)
        → Moves c rows old new
        → HasKey new.known (or_at at) → HasUnfolded c rows (fact_tree c f) at old new
    both_told old new at first second here moves has =
        let same = sides_tree c f g h are ∙ open_either (fact_tree c g) (fact_tree c h) first second in
        let P : Tree Node → Type 0 = λ t. IsPart rows at t in
        let Q : Tree Node → Type 0 = λ t. TellsAll rows new.known (asserted t at) in
        record {
          moves = moves;
          told = subst Q (sym same) (tells_either rows new.known at (fact_tree c g) (fact_tree c h) (subst P same here) has);
        }

not_false : (b : Bool) (t : Tree Node) → (b ≡ true → t ≡ never) → kind_of t ≡ Open → b ≡ false
not_false true t h e = (let refused : kind_of t ≡ False = ap kind_of (h refl) in let clash : False ≡ Open = sym refused ∙ e in cc)
not_false false t h e = refl

-- a fact without sides is And over its parts
pub over_parts : (c : Case) (f : PlainFact) → IsSaid f → sides c f ≡ None → kind_of (fact_tree c f) ≡ Open → fact_tree c f ≡ parts_from c f 0
over_parts c f is none is_open = parts_tree c f is none (not_false (is_false c f) (fact_tree c f) (false_tree c f) is_open)

-- what follows from two facts of one result
pub both_ok : {T E P Q R : Type 0} (r : Result T E) → (P → Q → R) → OnOk r P → OnOk r Q → OnOk r R
both_ok (Ok x) f p q = f p q
both_ok (Err e) f p q = tt

-- a literal of which all is known
pub literal_unfolded : (c : Case) (rows : List (Row Node)) (old new : State) (l : Literal Node) (at : ℕ) → IsPart rows at (leaf l) → Moves c rows old new
    → HaveKeys new.known (facts_of_literal l) → HasUnfolded c rows (leaf l) at old new
literal_unfolded c rows old new l at here moves told = record { moves = moves; told = tells_leaf rows new.known at l here told }

-- the fact of a literal by another name
pub fact_as : (b : Branch) (n : ℕ) {l m : Literal NodeKey} → l ≡ m → HasFact b n (fact_of (literal_node l)) → HasFact b n (fact_of (literal_node m))
fact_as b n is has = (let P : Literal NodeKey → Type 0 = λ x. HasFact b n (fact_of (literal_node x)) in subst P is has)

-- a literal of the code of which all is known
pub literal_marked : {T E : Type 0} (c : Case) (rows : List (Row Node)) (old new : State) (n at : ℕ) (r : Result T E) {l m : Literal NodeKey} → l ≡ m
    → HasFact (branch_of old) n (fact_of (literal_node l)) → IsPart rows at (leaf (literal_node l))
    → OnOk r (HasFact (branch_of old) n (fact_of (literal_node m)) → Moves c rows old new) → OnOk r (HaveKeys new.known (facts_of_literal (literal_node m)))
    → OnOk r (HasUnfolded c rows (leaf (literal_node l)) at old new)
literal_marked c rows old new n at r {l} {m} is has here moves told =
    let S : Literal NodeKey → Type 0 = λ x. IsPart rows at (leaf (literal_node x)) in
    let U : Literal NodeKey → Type 0 = λ x. OnOk r (HasUnfolded c rows (leaf (literal_node x)) at old new) in
    subst U (sym is)
    (both_ok r (λ go key. literal_unfolded c rows old new (literal_node m) at (subst S is here) (go (fact_as (branch_of old) n is has)) key) moves told)
