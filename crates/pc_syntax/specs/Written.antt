-- A written model without addresses in memory: what clauses compare and what meaning is read off.
use Rattle.std.specs.Prelude.{ℕ, List, map}
use Rattle.pc_common.specs.declared.place.Place.{Place}
use Rattle.pc_syntax.specs.declared.{term.{Sort.{Sort}, Word.{Word}, Arg.{Arg}, NodeTerm.{NodeTerm}, EdgeTerm.{EdgeTerm}}, formula.Formula.{Formula}}
use Rattle.pc_syntax.specs.declared.formula.Formula.TheVariants.{Not', And', Or', Implies', Forall', Exists', Static, Nodes, Edges, Expand, Bind'}
use Rattle.pc_syntax.specs.declared.model.{StageItem.{StageItem}, Item.{Item, TheVariants.{Axiom, Macro}}, ModelFile.{ModelFile}}

pub data Written : Type 0 where
  not_ : Written → Written
  and_ : Written → Written → Written
  or_ : Written → Written → Written
  implies_ : Written → Written → Written
  forall_ : Place → Sort → List ℕ → Written → Written
  exists_ : Place → Sort → List ℕ → Written → Written
  static_ : Word → List Arg → Written
  nodes_ : List NodeTerm → Written
  edges_ : List EdgeTerm → Written
  expand_ : Place → Word → List Arg → Written
  bind_ : Place → List (List ℕ) → List Arg → Written → Written

abbrev pub written : Formula → Written
written (Not' p a) = not_ (written a)
written (And' p a q b) = and_ (written a) (written b)
written (Or' p a q b) = or_ (written a) (written b)
written (Implies' p a q b) = implies_ (written a) (written b)
written (Forall' at sort name p body) = forall_ at sort name (written body)
written (Exists' at sort name p body) = exists_ at sort name (written body)
written (Static pred args) = static_ pred args
written (Nodes nodes) = nodes_ nodes
written (Edges edges) = edges_ edges
written (Expand at name args) = expand_ at name args
written (Bind' at names args p body) = bind_ at names args (written body)

-- a macro: its name, its parameters, its body
pub record MacroAt : Type 0 where
  pub name : Word
  pub parameters : List Word
  pub body : Written

pub data WrittenItem : Type 0 where
  axiom_ : Place → Written → WrittenItem
  macro_ : MacroAt → WrittenItem

abbrev pub written_item : Item → WrittenItem
written_item (Axiom at body) = axiom_ at (written body)
written_item (Macro name parameters body) =
    macro_ (record { name = name; parameters = parameters; body = written body })

abbrev pub stage_numbers : List StageItem → List ℕ
stage_numbers stages = map (λ s. s.number) stages

pub record WrittenModel : Type 0 where
  pub stages : List StageItem
  pub items : List WrittenItem

abbrev pub written_model : ModelFile → WrittenModel
written_model m = record { stages = m.stages; items = map written_item m.items }
