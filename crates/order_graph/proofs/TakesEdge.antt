-- An edge that a chain goes over already, and what the rows can take.
use Rattle.std.proofs.{Common.{ℕ, ◌*◌, ◌≤◌, List, arith}, lemmas.Bool.{false_from_ne_true}}
use Rattle.pc_common.{specs.Chain.{Chain}, proofs.Chains.{chain_reach, reach_chain}}
use Rattle.pc_ground.specs.{declared.literal.Literal.{Literal, TheVariants.{Edge}}, Literals.{Joins, IsConsistent}}
use Rattle.undo_trail.specs.BitTable.{BitTable}
use Rattle.order_graph.{specs.{Ways.{IsBelow}, Rows.{Represents, leads_to, Takes}}, proofs.{OneMore.{more, consistent_edge}, Represents.{leads_reach}}}
use Rattle.order_graph.proofs.{ClashOf.{back_refutes}, GeneratesWorld.{consistent_generate}}

-- an edge that a chain goes over is consistent with the others
pub known_consistent : (ls : List (Literal ℕ)) (p q : ℕ) → IsConsistent ls → Chain (Joins ls) p q → IsConsistent (more ls (Edge p q))
known_consistent ls p q c chain =
    let ends = (consistent_generate ls c).ends p q chain in
    consistent_edge ls p q c (λ h. c.missing p h ends.0) (λ h. c.missing q h ends.1)
    (λ back. c.acyclic p (chain_reach (Joins ls) p q p chain back))
    (λ x y d r s. c.apart x y d (reach_chain (Joins ls) x p y r (chain_reach (Joins ls) p q y chain s)))

-- rows that represent consistent literals can take one that is consistent with them
pub takes : (n : ℕ) (v : BitTable) (ls : List (Literal ℕ)) (l : Literal ℕ) → Represents n v.words ls v.now → n ≤ 64 * v.words → IsBelow n l
    → IsConsistent (more ls l) → Takes n l v
takes n v ls (Edge a b) s wide below c = record {
  no_cycle = false_from_ne_true (leads_to v b a) (λ e. back_refutes ls a b ((leads_reach n v ls s b a below.1 (let h = below.0 in omega arith)).0 e) c);
  transitive = λ x z y xh zh yh bit leads.
      let first = (s.reach x z xh (omega arith)).0 bit in
      let rest = (leads_reach n v ls s z y zh yh).0 leads in
      (s.reach x y xh yh).1 (chain_reach (Joins ls) x z y first rest);
  ends = λ bit.
      let chain = (s.reach a b below.0 (let h = below.1 in omega arith)).0 bit in
      let ends = (consistent_generate ls s.consistent).ends a b chain in
      ((s.present a below.0).1 ends.0, (s.present b below.1).1 ends.1);
}
takes n v ls l s wide below c = tt
