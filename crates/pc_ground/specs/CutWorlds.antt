-- A world cut down to some of its nodes.
use Rattle.std.specs.{Prelude.{Bool, List, filter, ◌&&◌}, List.{list_any}}
use Rattle.pc_common.specs.World.{Node, World, same_node}

-- the node is one of these
abbrev pub is_among : List Node → Node → Bool
is_among nodes a = list_any (λ b. same_node b a) nodes

-- the world's nodes that are among these, in the order that they had
abbrev pub cut_to : List Node → World Node → World Node
cut_to nodes w = record {
  nodes = filter (λ a. is_among nodes a) w.nodes;
  order = filter (λ e. is_among nodes e.0 && is_among nodes e.1) w.order;
}
