-- What consistent literals generate.
use Rattle.std.{proofs.Common.{List, [], ◌∷◌, ◌++◌}, specs.Prelude.{Contains}}
use Rattle.pc_common.specs.Chain.{Leads, Chain}
use Rattle.pc_ground.specs.declared.literal.Literal.{Literal, TheVariants.{Node, Edge, NoNode, NoEdge}}
use Rattle.pc_ground.specs.Literals.{Joins, IsPresent, IsConsistent, Holds, as_node, as_start, as_end}
use Rattle.order_graph.specs.Law.{GeneratesWorld}

leads_join : {N : Type 0} (R : N → N → Type 0) (a : N) (xs : List N) (b : N) (ys : List N) (c : N) → Leads R a xs b
    → Leads R b ys c → Leads R a (xs ++ b ∷ ys) c
leads_join R a [] b ys c l m = (l, m)
leads_join R a (x ∷ xs) b ys c l m = (l.0, leads_join R x xs b ys c l.1 m)

chain_ends : {N : Type 0} (ls : List (Literal N)) (a : N) (via : List N) (b : N) → Leads (Joins ls) a via b → IsPresent ls a × IsPresent ls b
chain_ends ls a [] b l = (as_start b l, as_end a l)
chain_ends ls a (x ∷ xs) b l = (as_start x l.0, (chain_ends ls x xs b l.1).1)

all_met : {N : Type 0} (ls : List (Literal N)) → IsConsistent ls → (l : Literal N) → Contains ls l → Holds (IsPresent ls) (Chain (Joins ls)) l
all_met ls c (Node a) h = as_node h
all_met ls c (Edge a b) h = ([], h)
all_met ls c (NoNode a) h = c.missing a h
all_met ls c (NoEdge a b) h = c.apart a b h

pub consistent_generate : {N : Type 0} (ls : List (Literal N)) → IsConsistent ls → GeneratesWorld ls
consistent_generate ls c = record {
  ends = λ a b h. chain_ends ls a h.0 b h.1;
  irreflexive = c.acyclic;
  transitive = λ a b d h k. (h.0 ++ b ∷ k.0, leads_join (Joins ls) a h.0 b k.0 d h.1 k.1);
  met = all_met ls c;
}
