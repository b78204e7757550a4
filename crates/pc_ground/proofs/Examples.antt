-- A small model on a test of two writes of one core: its ground tree, its rows, its numbers and a refutation.
use Rattle.std.{proofs.Common.{false, ◌≡◌, ℕ, List, [], ◌∷◌, Some, None, map, refl, lit<}, specs.Prelude.{codes}}
use Rattle.pc_common.specs.{Case.{PageAt, page, number, write, MicroOp, Case, forbidden}, World.{Node}, declared.place.Place.{Place}}
use Rattle.pc_common.specs.Steps.{split, path, close}
use Rattle.pc_syntax.specs.declared.term.{Sort.TheVariants.{Microop}, Word.{Word}, Arg.TheVariants.{Word as word_arg}, NodeTerm.{NodeTerm}}
use Rattle.pc_syntax.specs.{declared.model.StageItem.{StageItem}, Predicates.{all_preds}}
use Rattle.pc_syntax.specs.Written.{Written, not_, and_, or_, implies_, forall_, static_, edges_, axiom_, WrittenModel}
use Rattle.pc_ground.specs.{declared.{literal.Literal.TheVariants.{Edge, NoEdge}, version.Version.TheVariants.{One, Two}}, Tree.{Tree, leaf, both, either}}
use Rattle.pc_ground.specs.{Rows.{rows_of}, GroundTree.{ground_tree}, Numbers.{numbered}, Refutes.{IsRefutation, a_path, a_contradiction}}

-- names without places, of which a tree says nothing
abbrev at : Place
at = record { offset = 0 }

abbrev word : List ℕ → Word
word name = record { name = name; at = at }

abbrev node : List ℕ → List ℕ → NodeTerm
node op stage = record { op = word op; core = None; stage = word stage }

abbrev edge : NodeTerm → NodeTerm → Written
edge from to = edges_ (record { from = from; to = to } ∷ [])

abbrev stage : ℕ → List ℕ → StageItem
stage n name = record { number = n; number_at = at; name = word name }

-- forall microops "i", forall microops "j", ProgramOrder i j => p
abbrev in_order : Written → Written
in_order p =
    forall_ at Microop (codes "i")
    (forall_ at Microop (codes "j")
    (implies_ (static_ (word (codes "ProgramOrder")) (word_arg (word (codes "i")) ∷ word_arg (word (codes "j")) ∷ [])) p))

abbrev i_S : NodeTerm
i_S = node (codes "i") (codes "S")

abbrev j_S : NodeTerm
j_S = node (codes "j") (codes "S")

abbrev i_T : NodeTerm
i_T = node (codes "i") (codes "T")

-- the two are in an order, and the first is not before the second, is before its T, and the second is not before that
m_either : WrittenModel
m_either = record {
  stages = stage 0 (codes "S") ∷ stage 1 (codes "T") ∷ [];
  items =
      axiom_ at (in_order (or_ (edge i_S j_S) (edge j_S i_S)))
      ∷ axiom_ at (in_order (and_ (not_ (edge i_S j_S)) (and_ (edge i_S i_T) (not_ (edge j_S i_T)))))
      ∷ [];
}

abbrev first_page : PageAt
first_page = record { tag = 0; index = 0 }

abbrev a_write : ℕ → ℕ → MicroOp
a_write g value = record {
  g = g;
  n = 0;
  core = 0;
  thread = 0;
  types = [];
  kind = write;
  touch = Some (record { va = first_page; pa = page first_page; value = number value });
}

t_two : Case
t_two = record { ops = a_write 0 1 ∷ a_write 1 2 ∷ []; dependencies = []; initial = []; final = []; expectation = forbidden }

abbrev S0 : Node
S0 = record { op = 0; core = 0; stage = 0 }

abbrev S1 : Node
S1 = record { op = 1; core = 0; stage = 0 }

abbrev T0 : Node
T0 = record { op = 0; core = 0; stage = 1 }

abbrev the_tree : Tree Node
the_tree =
    both (either (leaf (Edge S0 S1)) (leaf (Edge S1 S0)))
    (both (leaf (NoEdge S0 S1)) (both (leaf (Edge S0 T0)) (leaf (NoEdge S1 T0))))

tree_of_either : ground_tree m_either t_two ≡ the_tree
unfolding m_either t_two all_preds
tree_of_either = refl

skips : map (λ r. r.skip) (rows_of (ground_tree m_either t_two)) ≡ 9 ∷ 3 ∷ 1 ∷ 1 ∷ 5 ∷ 1 ∷ 3 ∷ 1 ∷ 1 ∷ []
unfolding m_either t_two all_preds
skips = refl

numbers : numbered (ground_tree m_either t_two) ≡ S0 ∷ S1 ∷ T0 ∷ []
unfolding m_either t_two all_preds
numbers = refl

-- split 1; path 0.0@0:S 1.0@0:S; path 1.0@0:S 0.0@0:S 0.0@0:T
refuted : IsRefutation One the_tree (split false 1 ∷ close (path (S0 ∷ S1 ∷ [])) ∷ close (path (S1 ∷ S0 ∷ T0 ∷ [])) ∷ [])
refuted = (
  leaf (Edge S0 S1),
  leaf (Edge S1 S0),
  ((1, lit< tt, refl), refl),
  (
    a_contradiction (a_path S0 [] S1 (3, lit< tt, refl) (0, lit< tt, refl)),
    (a_contradiction (a_path S1 (S0 ∷ []) T0 ((3, lit< tt, refl), (1, lit< tt, refl)) (2, lit< tt, refl)), refl),
  ),
)

-- the same steps in version 2, where the right branch also denies the left side
refuted_signed : IsRefutation Two the_tree (split false 1 ∷ close (path (S0 ∷ S1 ∷ [])) ∷ close (path (S1 ∷ S0 ∷ T0 ∷ [])) ∷ [])
refuted_signed = (
  leaf (Edge S0 S1),
  leaf (Edge S1 S0),
  ((1, lit< tt, refl), refl),
  (
    a_contradiction (a_path S0 [] S1 (3, lit< tt, refl) (0, lit< tt, refl)),
    (a_contradiction (a_path S1 (S0 ∷ []) T0 ((4, lit< tt, refl), (1, lit< tt, refl)) (2, lit< tt, refl)), refl),
  ),
)
