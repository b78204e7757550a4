-- And over facts, of which the ones before a place are unfolded.
use Rattle.std.{proofs.Common.{◌≡◌, ℕ, ◌+◌, List, Some, refl, sym, ◌∙◌, ap, subst}, specs.Prelude.{slice_get}}
use Rattle.pc_common.specs.{Case.{Case}, World.{Node}}
use Rattle.pc_ground.specs.{declared.row.Row.{Row}, Rows.{IsPart}, Tree.{Tree, always, both, either, size_of, leaf}, PlainGround.{conjoined, disjoined}}
use Rattle.pc_ground.{specs.Refutes.{asserted}, proofs.{FlatRows.{parts_both}, NormalForms.{conjoined_always}}}
use Rattle.lifted_facts.specs.PlainFacts.{PlainFact}
use Rattle.lifter.specs.{Trees.{fact_tree}, declared.{kind.FactKind.TheVariants.{Open}, state.State.{State}}, Kinds.{kind_of}}
use Rattle.lifter.specs.{KnownFacts.{TellsAll, Entry, HaveMore}, States.{Moves}, PartLists.{facts_from}, Unfoldings.{HasUnfolded, HasTaken}}
use Rattle.lifter.proofs.{PartWays.{rest_next, kind_rest, is_always, only_true, both_open}, StateMoves.{moves_same, moves_then}}
use Rattle.lifter.proofs.Tellings.{tells_both, tells_more}

-- And and Or of two trees that are no constants
pub open_both : (t u : Tree Node) → kind_of t ≡ Open → kind_of u ≡ Open → conjoined t u ≡ both t u
open_both (leaf l) (leaf m) e f = refl
open_both (both a b) (leaf m) e f = refl
open_both (either a b) (leaf m) e f = refl
open_both _ _ e f = cc

pub open_either : (t u : Tree Node) → kind_of t ≡ Open → kind_of u ≡ Open → disjoined t u ≡ either t u
open_either (leaf l) (leaf m) e f = refl
open_either (both a b) (leaf m) e f = refl
open_either (either a b) (leaf m) e f = refl
open_either _ _ e f = cc

-- the facts before a place are unfolded, of And over facts that stands at one position
pub record IsTakenTo (c : Case) (rows : List (Row Node)) (fs : List PlainFact) (k whole at : ℕ) (old new : State) : Type 0 where
  pub moves : Moves c rows old new
  pub stands : IsPart rows at (facts_from c fs k)
  pub told : (es : List Entry) → HaveMore new.known es → TellsAll rows es (asserted (facts_from c fs k) at)
      → TellsAll rows es (asserted (facts_from c fs 0) whole)

module _ (c : Case) (rows : List (Row Node)) (fs : List PlainFact) where
  -- the fact at a place and those after it, neither a constant
  pub two_open : (k : ℕ) (f : PlainFact) → slice_get fs k ≡ Some f → kind_of (fact_tree c f) ≡ Open → kind_of (facts_from c fs (k + 1)) ≡ Open
      → facts_from c fs k ≡ both (fact_tree c f) (facts_from c fs (k + 1))
  two_open k f there e g = rest_next (fact_tree c) fs k f there ∙ open_both (fact_tree c f) (facts_from c fs (k + 1)) e g

  pub stands_here : (k at : ℕ) (f : PlainFact) → slice_get fs k ≡ Some f → kind_of (fact_tree c f) ≡ Open → kind_of (facts_from c fs (k + 1)) ≡ Open
      → IsPart rows at (facts_from c fs k) → IsPart rows (at + 1) (fact_tree c f) × IsPart rows (at + 1 + size_of (fact_tree c f)) (facts_from c fs (k + 1))
  stands_here k at f there e g here =
      let P : Tree Node → Type 0 = λ t. IsPart rows at t in
      parts_both rows at (fact_tree c f) (facts_from c fs (k + 1)) (subst P (two_open k f there e g) here)

  -- the fact was unfolded
  pub taken_open : (k at next : ℕ) (f : PlainFact) (old new : State) → slice_get fs k ≡ Some f → kind_of (fact_tree c f) ≡ Open
      → kind_of (facts_from c fs (k + 1)) ≡ Open
      → IsPart rows at (facts_from c fs k) → next ≡ at + 1 + size_of (fact_tree c f) → Moves c rows old new
      → TellsAll rows new.known (asserted (fact_tree c f) (at + 1))
      → HasTaken c rows fs k at next old new
  taken_open k at next f old new there e g here is moves told =
      let P : Tree Node → Type 0 = λ t. IsPart rows at t in
      let two = two_open k f there e g in
      let Q : ℕ → Type 0 = λ n. IsPart rows n (facts_from c fs (k + 1)) in
      record {
        moves = moves;
        stands = subst Q (sym is) (stands_here k at f there e g here).1;
        told = λ es more rest.
            let R : Tree Node → Type 0 = λ t. TellsAll rows es (asserted t at) in
            let S : ℕ → Type 0 = λ n. TellsAll rows es (asserted (facts_from c fs (k + 1)) n) in
            subst R (sym two)
            (tells_both rows es at (fact_tree c f) (facts_from c fs (k + 1)) (subst P two here)
            (tells_more rows new.known es (asserted (fact_tree c f) (at + 1)) more told) (subst S is rest));
      }

  -- the fact is True
  pub passed_over : (k at : ℕ) (f : PlainFact) (s : State) → slice_get fs k ≡ Some f → fact_tree c f ≡ always → IsPart rows at (facts_from c fs k)
      → HasTaken c rows fs k at at s s
  passed_over k at f s there agreed here =
      let same : facts_from c fs k ≡ facts_from c fs (k + 1) = rest_next (fact_tree c) fs k f there ∙ ap (λ t. conjoined t (facts_from c fs (k + 1))) agreed in
      let P : Tree Node → Type 0 = λ t. IsPart rows at t in
      record {
        moves = moves_same c rows s;
        stands = subst P same here;
        told = λ es more rest. (let R : Tree Node → Type 0 = λ t. TellsAll rows es (asserted t at) in subst R (sym same) rest);
      }

  -- a fact of And that is no constant is True where it is one
  pub true_here : (k : ℕ) (f : PlainFact) → slice_get fs k ≡ Some f → kind_of (facts_from c fs k) ≡ Open → (kind_of (fact_tree c f) ≡ Open → ⊥)
      → fact_tree c f ≡ always
  true_here k f there whole other =
      let kind = kind_of (fact_tree c f) in
      let two = both_open kind (kind_of (facts_from c fs (k + 1))) (sym (kind_rest (fact_tree c) fs k f there) ∙ whole) in
      is_always (fact_tree c f) (only_true kind two.0 other)

  -- the last one that is no constant
  pub last_is : (k : ℕ) (f : PlainFact) → slice_get fs k ≡ Some f → facts_from c fs (k + 1) ≡ always → facts_from c fs k ≡ fact_tree c f
  last_is k f there rest = rest_next (fact_tree c) fs k f there ∙ ap (conjoined (fact_tree c f)) rest ∙ conjoined_always (fact_tree c f)

  pub taken_start : (at : ℕ) (s : State) → IsPart rows at (facts_from c fs 0) → IsTakenTo c rows fs 0 at at s s
  taken_start at s here = record { moves = moves_same c rows s; stands = here; told = λ es more h. h }

  pub taken_more : (k whole at next : ℕ) (old mid new : State) → IsTakenTo c rows fs k whole at old mid → HasTaken c rows fs k at next mid new
      → IsTakenTo c rows fs (k + 1) whole next old new
  taken_more k whole at next old mid new before one = record {
    moves = moves_then c rows old mid new before.moves one.moves;
    stands = one.stands;
    told = λ es more h. before.told es (λ key has. more key (one.moves.keys key has)) (one.told es more h);
  }

  pub taken_all : (k whole at : ℕ) (old mid new : State) → IsTakenTo c rows fs k whole at old mid → HasUnfolded c rows (facts_from c fs k) at mid new
      → HasUnfolded c rows (facts_from c fs 0) whole old new
  taken_all k whole at old mid new before rest = record {
    moves = moves_then c rows old mid new before.moves rest.moves;
    told = before.told new.known rest.moves.keys rest.told;
  }
