-- What the fact of a number has: its part, its sides, an edge or a denied node, and that it holds nowhere.
use Rattle.std.{proofs.Common.{◌≡◌, ℕ, Bool, false, Option, Some, None, sym, ◌∙◌, ap, subst}, specs.Prelude.{◌↔◌, IsTrue, MatchOption, slice_get}}
use Rattle.std.specs.Option.{option_map}
use Rattle.pc_common.specs.{Case.{Case}, World.{Node}}
use Rattle.lifted_facts.specs.{declared.{fact.Fact.{Fact}, way.Way.{Way}}, PlainFacts.{PlainFact, one_node, one_edge, Branch, plain_fact, plain_pair}}
use Rattle.lifted_facts.specs.{Parts.{part_of, sides, is_false}, Lifted.{HasFact, IsEdge, Asserts, IsAbsent, IsFalsity, HasPart, HasSides}}

-- a number has one fact, or none
pub no_fact : (b : Branch) (k : ℕ) → slice_get b k ≡ None → (f : PlainFact) → HasFact b k f → ⊥
no_fact b k none f at = cc

one_fact : (b : Branch) (k : ℕ) (f g : PlainFact) → HasFact b k f → HasFact b k g → f ≡ g
one_fact b k f g at there = cc

no_value : {X : Type 0} (x : X) (o : Option X) → None ≡ o → o ≡ Some x → ⊥
no_value x o none is = cc

pub part_named : (c : Case) (b : Branch) (way : Way) (k : ℕ) (f : PlainFact) (r : Option Fact) → HasFact b k f → option_map plain_fact r ≡ part_of c way f
    → MatchOption r ((g : PlainFact) → HasPart c b way k g → ⊥) (λ g. HasPart c b way k (plain_fact g))
part_named c b way k f None at is = λ g h. no_value g (part_of c way f) is (ap (part_of c way) (one_fact b k f h.0 at h.1) ∙ h.2)
part_named c b way k f (Some g) at is = (f, at, sym is)

pub sides_named : (c : Case) (b : Branch) (k : ℕ) (f : PlainFact) (r : Option (Fact × Fact)) → HasFact b k f → option_map plain_pair r ≡ sides c f
    → MatchOption r ((g h : PlainFact) → HasSides c b k g h → ⊥) (λ both. HasSides c b k (plain_fact both.0) (plain_fact both.1))
sides_named c b k f None at is = λ g h s. no_value (g, h) (sides c f) is (ap (sides c) (one_fact b k f s.0 at s.1) ∙ s.2)
sides_named c b k f (Some both) at is = (f, at, sym is)

pub edge_named : {X : Type 0} (from to : X → Node) (b : Branch) (plus : Bool) (k : ℕ) (f : PlainFact) (r : Option X) → HasFact b k f
    → MatchOption r ((x y : Node) → f ≡ one_edge plus (Some x) (Some y) → ⊥) (λ e. f ≡ one_edge plus (Some (from e)) (Some (to e)))
    → MatchOption r ((x y : Node) → IsEdge b plus k x y → ⊥) (λ e. IsEdge b plus k (from e) (to e))
edge_named from to b plus k f None at none = λ x y h. none x y (one_fact b k f (one_edge plus (Some x) (Some y)) at h)
edge_named from to b plus k f (Some e) at is = at ∙ ap (λ (g : PlainFact). Some g) is

pub denied_named : {X : Type 0} (node : X → Node) (b : Branch) (k : ℕ) (f : PlainFact) (r : Option X) → HasFact b k f
    → MatchOption r ((a : Node) → f ≡ one_node false (Some a) → ⊥) (λ a. f ≡ one_node false (Some (node a)))
    → MatchOption r ((a : Node) → HasFact b k (one_node false (Some a)) → ⊥) (λ a. HasFact b k (one_node false (Some (node a))))
denied_named node b k f None at none = λ a h. none a (one_fact b k f (one_node false (Some a)) at h)
denied_named node b k f (Some a) at is = at ∙ ap (λ (g : PlainFact). Some g) is

one_denied : (b : Branch) (k : ℕ) (x y : Node) → HasFact b k (one_node false (Some x)) → HasFact b k (one_node false (Some y)) → x ≡ y
one_denied b k x y p q = cc

pub absent_named : (b : Branch) (denial k : ℕ) (a : Node) (f : PlainFact) (r : Bool) → HasFact b denial (one_node false (Some a)) → HasFact b k f
    → IsTrue r ↔ Asserts f a → IsTrue r ↔ IsAbsent b denial k
absent_named b denial k a f r denies at is = (
  (λ t. (a, f, denies, at, is.0 t)),
  (λ h.
      let P : Node → Type 0 = λ x. Asserts h.1 x in
      let Q : PlainFact → Type 0 = λ g. Asserts g a in
      is.1 (subst Q (one_fact b k h.1 f h.3 at) (subst P (one_denied b denial h.0 a h.2 denies) h.4))),
)

pub no_denial : (b : Branch) (denial k : ℕ) → ((a : Node) → HasFact b denial (one_node false (Some a)) → ⊥) → IsTrue false ↔ IsAbsent b denial k
no_denial b denial k none = ((λ h. cc), (λ h. absurd (none h.0 h.2)))

pub no_asserted : (b : Branch) (denial k : ℕ) → slice_get b k ≡ None → IsTrue false ↔ IsAbsent b denial k
no_asserted b denial k none = ((λ h. cc), (λ h. absurd (no_fact b k none h.1 h.3)))

pub false_named : (c : Case) (b : Branch) (k : ℕ) (f : PlainFact) (r : Bool) → HasFact b k f → r ≡ is_false c f → IsTrue r ↔ IsFalsity c b k
false_named c b k f r at is = (
  (λ t. (f, at, sym is ∙ t)),
  (λ h. is ∙ ap (is_false c) (one_fact b k f h.0 at h.1) ∙ h.2),
)

pub no_falsity : (c : Case) (b : Branch) (k : ℕ) → slice_get b k ≡ None → IsTrue false ↔ IsFalsity c b k
no_falsity c b k none = ((λ h. cc), (λ h. absurd (no_fact b k none h.0 h.1)))
