-- Closing a formula without name faults names stages of the model alone.
use Rattle.std.proofs.Common.{◌≡◌, ℕ, Bool, true, false, ◌||◌, List, [], ◌∷◌, Option, Some, None, map, cond, option_map, refl, unwrap_or, eq-eqb, nat_eq}
use Rattle.std.specs.{List.{list_any}, Option.{option_or}}
use Rattle.pc_common.specs.{Names.{same_name}, declared.fault.FaultKind.TheVariants.{StageUnknown}}
use Rattle.pc_syntax.specs.declared.{term.{Sort.TheVariants.{Microop}, Word.{Word}, NodeTerm.{NodeTerm}, EdgeTerm.{EdgeTerm}}, model.StageItem.{StageItem}}
use Rattle.pc_syntax.specs.Written.{Written, not_, and_, or_, implies_, forall_, exists_, static_, nodes_, edges_, expand_, bind_, stage_numbers}
use Rattle.pc_syntax.specs.{Stages.{stage_with_name, stage_number_of}, Scope.{Scope, quantified_in, bound_in}, Fault.{Fault, first_fault}}
use Rattle.pc_syntax.specs.NameFaults.{variable_fault, location_fault, stage_name_fault, node_fault, edge_fault, scope_fault, binding_fault, name_fault}
use Rattle.pc_syntax.specs.{Closing.{closing_of_node, closing_of_edge, closing_of}, StagesWithin.{IsAmong, NodesWithin, EdgesWithin, StagesWithin}}
use Rattle.pc_syntax.proofs.NoFault.{none_first, none_second}

or_else : (a b : Bool) → b ≡ true → a || b ≡ true
or_else true b h = refl
or_else false b h = h

or_this : (a b : Bool) → a ≡ true → a || b ≡ true
or_this true b h = refl
or_this false b h = cc

one_named : (b : Bool) (s : StageItem) (n : ℕ) (rest : Option StageItem) (others : List ℕ)
    → (option_map (λ (x : StageItem). x.number) rest ≡ Some n → IsAmong others n)
    → option_map (λ (x : StageItem). x.number) (cond b (Some s) rest) ≡ Some n → IsAmong (s.number ∷ others) n
one_named true s n rest others later e =
    or_this (nat_eq s.number n) (list_any (λ m. nat_eq m n) others)
    (let same : s.number ≡ n = cc in eq-eqb s.number n same)
one_named false s n rest others later e = or_else (nat_eq s.number n) (list_any (λ m. nat_eq m n) others) (later e)

-- the number of a stage that a name has is one of the stages' numbers
pub stage_among : (stages : List StageItem) (name : List ℕ) (n : ℕ)
    → stage_number_of stages name ≡ Some n → IsAmong (stage_numbers stages) n
stage_among [] name n e = cc
stage_among (s ∷ ss) name n e =
    one_named (same_name s.name.name name) s n (stage_with_name ss name) (stage_numbers ss) (stage_among ss name n) e

named_among : (numbers : List ℕ) (found : Option ℕ) (w : Word) → ((n : ℕ) → found ≡ Some n → IsAmong numbers n)
    → ◌≡◌ {A = Option Fault} (elim found [ None ↦ Some (StageUnknown, w.at) | Some n ↦ None ]) None
    → IsAmong numbers (unwrap_or found 0)
named_among numbers None w each f = cc
named_among numbers (Some n) w each f = each n refl

module _ (stages : List StageItem) where
  node_within : (scope : Scope) (t : NodeTerm) → node_fault stages scope t ≡ None
      → IsAmong (stage_numbers stages) (unwrap_or (stage_number_of stages t.stage.name) 0)
  node_within scope t f =
      let core = location_fault scope t.core in
      let stage = stage_name_fault stages t.stage in
      named_among (stage_numbers stages) (stage_number_of stages t.stage.name) t.stage (stage_among stages t.stage.name)
      (none_second core stage (none_second (variable_fault scope Microop t.op) (option_or core stage) f))

  nodes_within : (scope : Scope) (ts : List NodeTerm) → first_fault (node_fault stages scope) ts ≡ None
      → NodesWithin (stage_numbers stages) (map (closing_of_node stages scope) ts)
  nodes_within scope [] f = tt
  nodes_within scope (t ∷ ts) f =
      let here = node_fault stages scope t in
      let rest = first_fault (node_fault stages scope) ts in
      (node_within scope t (none_first here rest f), nodes_within scope ts (none_second here rest f))

  edges_within : (scope : Scope) (ts : List EdgeTerm) → first_fault (edge_fault stages scope) ts ≡ None
      → EdgesWithin (stage_numbers stages) (map (closing_of_edge stages scope) ts)
  edges_within scope [] f = tt
  edges_within scope (t ∷ ts) f =
      let from = node_fault stages scope t.from in
      let to = node_fault stages scope t.to in
      let rest = first_fault (edge_fault stages scope) ts in
      let here = none_first (edge_fault stages scope t) rest f in (
        node_within scope t.from (none_first from to here),
        node_within scope t.to (none_second from to here),
        edges_within scope ts (none_second (edge_fault stages scope t) rest f),
      )

  pub closing_within : (scope : Scope) (e : Written) → name_fault stages [] scope e ≡ None
      → StagesWithin (stage_numbers stages) (closing_of stages scope e)
  closing_within scope (not_ p) f = closing_within scope p f
  closing_within scope (and_ p q) f =
      let a = name_fault stages [] scope p in
      let b = name_fault stages [] scope q in
      (closing_within scope p (none_first a b f), closing_within scope q (none_second a b f))
  closing_within scope (or_ p q) f =
      let a = name_fault stages [] scope p in
      let b = name_fault stages [] scope q in
      (closing_within scope p (none_first a b f), closing_within scope q (none_second a b f))
  closing_within scope (implies_ p q) f =
      let a = name_fault stages [] scope p in
      let b = name_fault stages [] scope q in
      (closing_within scope p (none_first a b f), closing_within scope q (none_second a b f))
  closing_within scope (forall_ at sort name p) f =
      let inside = quantified_in scope name sort in
      closing_within inside p (none_second (scope_fault at inside) (name_fault stages [] inside p) f)
  closing_within scope (exists_ at sort name p) f =
      let inside = quantified_in scope name sort in
      closing_within inside p (none_second (scope_fault at inside) (name_fault stages [] inside p) f)
  closing_within scope (static_ pred args) f = tt
  closing_within scope (nodes_ ts) f = nodes_within scope ts f
  closing_within scope (edges_ ts) f = edges_within scope ts f
  closing_within scope (expand_ at name args) f = tt
  closing_within scope (bind_ at names args p) f =
      let inside = bound_in scope names args in
      closing_within inside p (none_second (binding_fault scope at names args) (name_fault stages [] inside p) f)
