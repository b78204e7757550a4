-- Nodes are equal exactly where their test says so; and so are node keys, read as nodes.
use Rattle.std.{proofs.Common.{◌≡◌, Bool, true, ◌&&◌, List, [], ◌∷◌, map, refl, ◌∙◌, ap, nat_eq, sym}, specs.List.{list_any}}
use Rattle.pc_common.{specs.World.{same_node}, proofs.{Bools.{and_assoc}, Nodes.{same_node-true, same_node-self}}}
use Rattle.pc_ground.specs.{declared.node_key.NodeKey.{NodeKey}, Keys.{key_node}}

-- how keys are compared
abbrev pub key_eq : NodeKey → NodeKey → Bool
key_eq a b = nat_eq a.op b.op && (nat_eq a.core b.core && nat_eq a.stage b.stage)

pub key_eq-same : (a b : NodeKey) → key_eq a b ≡ same_node (key_node a) (key_node b)
key_eq-same a b = and_assoc (nat_eq a.op b.op) (nat_eq a.core b.core) (nat_eq a.stage b.stage)

pub any_key : (a : NodeKey) (ks : List NodeKey) → list_any (key_eq a) ks ≡ list_any (same_node (key_node a)) (map key_node ks)
any_key a [] = refl
any_key a (k ∷ ks) = rw (key_eq-same a k, any_key a ks) refl

pub same_keys : (a b : NodeKey) → key_eq a b ≡ true → key_node a ≡ key_node b
same_keys a b e = same_node-true (key_node a) (key_node b) (sym (key_eq-same a b) ∙ e)

pub keys_same : (a b : NodeKey) → key_node a ≡ key_node b → key_eq a b ≡ true
keys_same a b e = key_eq-same a b ∙ ap (λ n. same_node (key_node a) n) (sym e) ∙ same_node-self (key_node a)
