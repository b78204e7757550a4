-- The names that a model writes, in its order and as often as it does. Those of predicates are left out.
use Rattle.std.specs.Prelude.{ℕ, List, [], ◌∷◌, ◌++◌, map, flat_map, option_to_list}
use Rattle.pc_syntax.specs.declared.term.{Arg.{Arg, TheVariants.{Word as word_arg, Number as number_arg}}, NodeTerm.{NodeTerm}, EdgeTerm.{EdgeTerm}}
use Rattle.pc_syntax.specs.Written.{Written, not_, and_, or_, implies_, forall_, exists_, static_, nodes_, edges_, expand_, bind_, WrittenItem, axiom_, macro_, WrittenModel}

abbrev pub arg_names : Arg → List (List ℕ)
arg_names (word_arg w) = w.name ∷ []
arg_names (number_arg n at) = []

abbrev pub node_names : NodeTerm → List (List ℕ)
node_names t = t.op.name ∷ flat_map arg_names (option_to_list t.core) ++ t.stage.name ∷ []

abbrev pub edge_names : EdgeTerm → List (List ℕ)
edge_names e = node_names e.from ++ node_names e.to

abbrev pub formula_names : Written → List (List ℕ)
formula_names (not_ p) = formula_names p
formula_names (and_ p q) = formula_names p ++ formula_names q
formula_names (or_ p q) = formula_names p ++ formula_names q
formula_names (implies_ p q) = formula_names p ++ formula_names q
formula_names (forall_ at sort name p) = name ∷ formula_names p
formula_names (exists_ at sort name p) = name ∷ formula_names p
formula_names (static_ pred args) = flat_map arg_names args
formula_names (nodes_ ts) = flat_map node_names ts
formula_names (edges_ ts) = flat_map edge_names ts
formula_names (expand_ at name args) = name.name ∷ flat_map arg_names args
formula_names (bind_ at names args p) = names ++ flat_map arg_names args ++ formula_names p

abbrev pub item_names : WrittenItem → List (List ℕ)
item_names (axiom_ at body) = formula_names body
item_names (macro_ m) = m.name.name ∷ map (λ w. w.name) m.parameters ++ formula_names m.body

abbrev pub names_of_model : WrittenModel → List (List ℕ)
names_of_model m = map (λ s. s.name.name) m.stages ++ flat_map item_names m.items
