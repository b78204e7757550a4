-- Facts of a branch are equal exactly where they are as plain data.
use Rattle.std.proofs.{Common.{◌≡◌, Bool, true, ◌∙◌, ap, eqb-true, eq-eqb}, Math.Bool.{beq}, lemmas.Bool.{and_from}}
use Rattle.std.specs.{Prelude.{◌==◌}, Cmp.{booleans_Decides}}
use Rattle.pc_common.proofs.Bools.{and_first, and_second}
use Rattle.pc_ground.{specs.{Keys.{key_node}, Refutes.{Signed, signed}}, proofs.Nodes.{key_eq, same_keys, keys_same}}
use Rattle.refutation.specs.{BranchFacts.{at_position, edge, no_edge, no_node, present, plain_branch_fact}, contracts.branch_fact.BranchFactPartialEq.TheImpl.{ghosts}}
use Rattle.refutation.specs.declared.branch_fact.BranchFact.{BranchFact, TheVariants.{At, Edge, NoEdge, NoNode, Present}}

-- how facts are compared
abbrev pub fact_eq : BranchFact → BranchFact → Bool
fact_eq = ghosts.eq

-- the facts are equal where the plain facts are
pub same_facts : (f g : BranchFact) → fact_eq f g ≡ true → plain_branch_fact f ≡ plain_branch_fact g
same_facts (At m a) (At n c) e =
    let flags = (booleans_Decides m n).0 (and_first (beq m n) (a == c) e) in
    ap (λ x. at_position (signed x a)) flags ∙ ap (λ x. at_position (signed n x)) (eqb-true a c (and_second (beq m n) (a == c) e))
same_facts (Edge a b) (Edge c d) e = (let l = same_keys a c (and_first (key_eq a c) (key_eq b d) e) in
    let r = same_keys b d (and_second (key_eq a c) (key_eq b d) e) in ap (λ x. edge x (key_node b)) l ∙ ap (edge (key_node c)) r)
same_facts (NoEdge a b) (NoEdge c d) e = (let l = same_keys a c (and_first (key_eq a c) (key_eq b d) e) in
    let r = same_keys b d (and_second (key_eq a c) (key_eq b d) e) in ap (λ x. no_edge x (key_node b)) l ∙ ap (no_edge (key_node c)) r)
same_facts (NoNode a) (NoNode c) e = ap no_node (same_keys a c e)
same_facts (Present a) (Present c) e = ap present (same_keys a c e)
same_facts _ _ e = cc

pub facts_same : (f g : BranchFact) → plain_branch_fact f ≡ plain_branch_fact g → fact_eq f g ≡ true
facts_same (At m a) (At n c) e =
    let same : signed m a ≡ signed n c = cc in
    and_from (beq m n) (a == c) ((booleans_Decides m n).1 (ap (λ (x : Signed). x.negated) same)) (eq-eqb a c (ap (λ (x : Signed). x.position) same))
facts_same (Edge a b) (Edge c d) e = (let l : key_node a ≡ key_node c = cc in let r : key_node b ≡ key_node d = cc in
    and_from (key_eq a c) (key_eq b d) (keys_same a c l) (keys_same b d r))
facts_same (NoEdge a b) (NoEdge c d) e = (let l : key_node a ≡ key_node c = cc in let r : key_node b ≡ key_node d = cc in
    and_from (key_eq a c) (key_eq b d) (keys_same a c l) (keys_same b d r))
facts_same (NoNode a) (NoNode c) e = (let l : key_node a ≡ key_node c = cc in keys_same a c l)
facts_same (Present a) (Present c) e = (let l : key_node a ≡ key_node c = cc in keys_same a c l)
facts_same _ _ e = cc
