-- A model with other names: each name is changed in the same way wherever it stands.
use Rattle.std.specs.Prelude.{◌≡◌, ℕ, List, [], ◌∷◌, None, Some, map, option_map}
use Rattle.pc_common.specs.Names.{same_name}
use Rattle.pc_syntax.specs.declared.term.{Word.{Word}, Arg.{Arg, TheVariants.{Word as word_arg, Number as number_arg}}, NodeTerm.{NodeTerm}}
use Rattle.pc_syntax.specs.declared.{term.EdgeTerm.{EdgeTerm}, model.StageItem.{StageItem}, pred.Takes.{Takes}}
use Rattle.pc_syntax.specs.{declared.pred.Takes.TheVariants.{Op as takes_op, Core as takes_core, Plain as takes_plain}, Predicates.{pred_with_name, takes_of}}
use Rattle.pc_syntax.specs.Written.{Written, not_, and_, or_, implies_, forall_, exists_, static_, nodes_, edges_, expand_, bind_, MacroAt, WrittenItem, axiom_, macro_, WrittenModel}

-- the new name of each name
abbrev pub Renaming : Type 0
Renaming = List ℕ → List ℕ

-- two new names are one exactly where the names are
abbrev pub KeepsApart : Renaming → Type 0
KeepsApart ρ = (a b : List ℕ) → same_name (ρ a) (ρ b) ≡ same_name a b

abbrev pub renamed_word : Renaming → Word → Word
renamed_word ρ w = record { name = ρ w.name; at = w.at }

abbrev pub renamed_arg : Renaming → Arg → Arg
renamed_arg ρ (word_arg w) = word_arg (renamed_word ρ w)
renamed_arg ρ (number_arg n at) = number_arg n at

-- an argument where this is taken: a plain name names no variable, and stays
abbrev pub renamed_taken : Renaming → Takes → Arg → Arg
renamed_taken ρ takes_op a = renamed_arg ρ a
renamed_taken ρ takes_core a = renamed_arg ρ a
renamed_taken ρ takes_plain a = a

-- arguments where these are taken; more of them than that stay
abbrev pub renamed_args : Renaming → List Takes → List Arg → List Arg
renamed_args ρ [] as_ = as_
renamed_args ρ (t ∷ ts) [] = []
renamed_args ρ (t ∷ ts) (a ∷ as_) = renamed_taken ρ t a ∷ renamed_args ρ ts as_

-- the arguments of a predicate, whose own name stays; those of no predicate stay too
abbrev pub renamed_static : Renaming → Word → List Arg → List Arg
renamed_static ρ pred args =
    elim (pred_with_name pred.name) [ None ↦ args | Some p ↦ renamed_args ρ (takes_of p) args ]

abbrev pub renamed_node : Renaming → NodeTerm → NodeTerm
renamed_node ρ t =
    record { op = renamed_word ρ t.op; core = option_map (renamed_arg ρ) t.core; stage = renamed_word ρ t.stage }

abbrev pub renamed_edge : Renaming → EdgeTerm → EdgeTerm
renamed_edge ρ t = record { from = renamed_node ρ t.from; to = renamed_node ρ t.to }

abbrev pub renamed : Renaming → Written → Written
renamed ρ (not_ p) = not_ (renamed ρ p)
renamed ρ (and_ p q) = and_ (renamed ρ p) (renamed ρ q)
renamed ρ (or_ p q) = or_ (renamed ρ p) (renamed ρ q)
renamed ρ (implies_ p q) = implies_ (renamed ρ p) (renamed ρ q)
renamed ρ (forall_ at sort name p) = forall_ at sort (ρ name) (renamed ρ p)
renamed ρ (exists_ at sort name p) = exists_ at sort (ρ name) (renamed ρ p)
renamed ρ (static_ pred args) = static_ pred (renamed_static ρ pred args)
renamed ρ (nodes_ ts) = nodes_ (map (renamed_node ρ) ts)
renamed ρ (edges_ ts) = edges_ (map (renamed_edge ρ) ts)
renamed ρ (expand_ at name args) = expand_ at (renamed_word ρ name) (map (renamed_arg ρ) args)
renamed ρ (bind_ at names args p) = bind_ at (map ρ names) (map (renamed_arg ρ) args) (renamed ρ p)

abbrev pub renamed_macro : Renaming → MacroAt → MacroAt
renamed_macro ρ m =
    record {
      name = renamed_word ρ m.name;
      parameters = map (renamed_word ρ) m.parameters;
      body = renamed ρ m.body;
    }

abbrev pub renamed_item : Renaming → WrittenItem → WrittenItem
renamed_item ρ (axiom_ at body) = axiom_ at (renamed ρ body)
renamed_item ρ (macro_ m) = macro_ (renamed_macro ρ m)

abbrev pub renamed_stage : Renaming → StageItem → StageItem
renamed_stage ρ s = record { number = s.number; number_at = s.number_at; name = renamed_word ρ s.name }

abbrev pub renamed_model : Renaming → WrittenModel → WrittenModel
renamed_model ρ m =
    record { stages = map (renamed_stage ρ) m.stages; items = map (renamed_item ρ) m.items }

-- n is m with other names, of which two are one exactly where they are in m
pub record IsRenamed (m n : WrittenModel) : Type 0 where
  pub to : Renaming
  pub apart : KeepsApart to
  pub model : n ≡ renamed_model to m
