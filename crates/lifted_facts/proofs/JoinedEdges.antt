-- Edges that are joined begin and end at one pair of nodes.
use Rattle.std.{proofs.Common.{◌≡◌, ℕ, Bool, true, false, List, [], ◌∷◌, sym, ◌∙◌, subst}, specs.Prelude.{◌↔◌, IsTrue}}
use Rattle.pc_common.specs.World.{Node}
use Rattle.lifted_facts.specs.{PlainFacts.{Branch}, Lifted.{IsEdge, Follows, IsCycle, IsPath}}

edge_one : (b : Branch) (plus : Bool) (k : ℕ) (x y u v : Node) → IsEdge b plus k x y → IsEdge b plus k u v → (x ≡ u) × (y ≡ v)
edge_one b plus k x y u v e f = (cc, cc)

pub follows_one : (b : Branch) (ks : List ℕ) (x y z : Node) → Follows b x ks y → Follows b x ks z → y ≡ z
follows_one b [] x y z p q = sym p ∙ q
follows_one b (k ∷ ks) x y z p q =
    let same = (edge_one b true k x p.0 x q.0 p.1 q.1).1 in
    follows_one b ks p.0 y z p.2 (let P : Node → Type 0 = λ u. Follows b u ks z in subst P (sym same) q.2)

pub joined_one : (b : Branch) (k : ℕ) (ks : List ℕ) (x y u v : Node) → Follows b x (k ∷ ks) y → Follows b u (k ∷ ks) v → (x ≡ u) × (y ≡ v)
joined_one b k ks x y u v p q =
    let starts = (edge_one b true k x p.0 u q.0 p.1 q.1).0 in
    let P : Node → Type 0 = λ w. Follows b w (k ∷ ks) v in
    (starts, follows_one b (k ∷ ks) x y v p (subst P (sym starts) q))

pub cycle_closed : (b : Branch) (k : ℕ) (ks : List ℕ) (x y : Node) (same : Bool) → Follows b x (k ∷ ks) y → IsTrue same ↔ (x ≡ y) → IsTrue same ↔ IsCycle b k ks
cycle_closed b k ks x y same p is = (
  (λ h. let P : Node → Type 0 = λ w. Follows b x (k ∷ ks) w in (x, subst P (sym (is.0 h)) p)),
  (λ c. let one = joined_one b k ks x y c.0 c.0 p c.1 in is.1 (one.0 ∙ sym one.1)),
)

pub cycle_open : (b : Branch) (k : ℕ) (ks : List ℕ) → ((x y : Node) → Follows b x (k ∷ ks) y → ⊥) → IsTrue false ↔ IsCycle b k ks
cycle_open b k ks none = ((λ h. cc), (λ c. absurd (none c.0 c.0 c.1)))

pub path_closed : (b : Branch) (k : ℕ) (ks : List ℕ) (denial : ℕ) (x y u v : Node) (first second : Bool) → Follows b x (k ∷ ks) y → IsEdge b false denial u v
    → IsTrue first ↔ (x ≡ u) → first ≡ true → IsTrue second ↔ (y ≡ v) → IsTrue second ↔ IsPath b k ks denial
path_closed b k ks denial x y u v first second p e starts so ends = (
  (λ h.
      let P : Node → Type 0 = λ w. IsEdge b false denial w v in
      let Q : Node → Type 0 = λ w. IsEdge b false denial x w in
      (x, y, p, subst Q (sym (ends.0 h)) (subst P (sym (starts.0 so)) e))),
  (λ c.
      let one = joined_one b k ks x y c.0 c.1 p c.2 in
      let two = edge_one b false denial u v c.0 c.1 e c.3 in
      ends.1 (one.1 ∙ sym two.1)),
)

pub no_joined : (b : Branch) (k : ℕ) (ks : List ℕ) (denial : ℕ) → ((x y : Node) → Follows b x (k ∷ ks) y → ⊥) → IsTrue false ↔ IsPath b k ks denial
no_joined b k ks denial none = ((λ h. cc), (λ c. absurd (none c.0 c.1 c.2)))
