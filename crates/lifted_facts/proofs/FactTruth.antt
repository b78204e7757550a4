-- What a fact says of a world.
use Rattle.std.{proofs.Common.{◌≡◌, ◌⊎◌, inl, inr, Bool, true, false, not, ◌&&◌, ◌||◌, List, [], ◌∷◌, ◌++◌, drop, refl, subst}, specs.List.{list_any, list_all}}
use Rattle.pc_common.{specs.{Case.{Case}, World.{Node, World}}, proofs.Elements.{In}}
use Rattle.pc_syntax.specs.Truth.{Meaning, node_holds, edge_holds, range_of}
use Rattle.pc_syntax.specs.Closed.{PlainClosed, closed_forall, closed_exists, closed_nodes, closed_edges, closed_node, closed_true}
use Rattle.lifted_facts.specs.PlainFacts.{PlainFact, said, one_node, one_edge}

-- a truth value under a sign
abbrev pub under : Bool → Bool → Bool
under true b = b
under false b = not b

-- a fact of some member of a range or list speaks of those from its start on
abbrev pub fact_true : Case → World Node → PlainFact → Bool
fact_true c w (said true (closed_exists sort p) slots s) =
    list_any (λ v. closed_true c w (slots ++ v ∷ []) p) (drop s (range_of c sort))
fact_true c w (said false (closed_forall sort p) slots s) =
    not (list_all (λ v. closed_true c w (slots ++ v ∷ []) p) (drop s (range_of c sort)))
fact_true c w (said false (closed_nodes ts) slots s) = not (list_all (λ t. node_holds w (closed_node c slots t)) (drop s ts))
fact_true c w (said false (closed_edges ts) slots s) =
    not (list_all (λ t. edge_holds w (closed_node c slots t.from) (closed_node c slots t.to)) (drop s ts))
fact_true c w (said plus p slots s) = under plus (closed_true c w slots p)
fact_true c w (one_node plus a) = under plus (node_holds w a)
fact_true c w (one_edge plus a b) = under plus (edge_holds w a b)

-- at its start 0 a fact is its formula under its sign
pub start_true : (c : Case) (w : World Node) (plus : Bool) (p : PlainClosed) (slots : List Meaning)
    → fact_true c w (said plus p slots 0) ≡ under plus (closed_true c w slots p)
start_true c w true (closed_exists sort p) slots = refl
start_true c w false (closed_forall sort p) slots = refl
start_true c w false (closed_nodes ts) slots = refl
start_true c w false (closed_edges ts) slots = refl
start_true c w true p slots = refl
start_true c w false p slots = refl

pub nor_first : (a b : Bool) → not (a || b) ≡ true → not a ≡ true
nor_first true b e = e
nor_first false b e = refl

pub nor_second : (a b : Bool) → not (a || b) ≡ true → not b ≡ true
nor_second true b e = cc
nor_second false b e = e

pub nand_either : (a b : Bool) → not (a && b) ≡ true → (not a ≡ true) ⊎ (not b ≡ true)
nand_either true b e = inr e
nand_either false b e = inl refl

pub not_not : (a : Bool) → not (not a) ≡ true → a ≡ true
not_not true e = refl
not_not false e = e

pub not_true : (a : Bool) → not a ≡ true → a ≡ true → ⊥
not_true true e f = cc
not_true false e f = cc

-- no element passes a test that some element would have to pass
pub none_passes : {X : Type 0} (p : X → Bool) (xs : List X) → not (list_any p xs) ≡ true → (x : X) → In x xs → not (p x) ≡ true
none_passes p [] e x i = absurd i
none_passes {X} p (y ∷ ys) e x (inl h) = let P : X → Type 0 = λ z. not (p z) ≡ true in subst P h (nor_first (p y) (list_any p ys) e)
none_passes p (y ∷ ys) e x (inr i) = none_passes p ys (nor_second (p y) (list_any p ys) e) x i
