-- Which tokens of a text stand too deep: those that open with as many openers open as may be.
use Rattle.std.specs.Prelude.{◌≡◌, ℕ, ◌+◌, Bool, false, List, [], ◌∷◌, ◌++◌, map}
use Rattle.uspec_parser.specs.{Terminals.{quoted, terminal}, declared.operands.Connective.{Connective}}
use Rattle.uspec_parser.specs.declared.{operands.Connective.TheVariants.{And as conjoins, Or as disjoins, Implies as implies}, level.Level.{Level}}
use Rattle.uspec_parser.specs.declared.terminal.Terminal.{Terminal}
use Rattle.uspec_parser.specs.Syntax.{Formula, last, last_wide, more, Operand, atom, bracketed, negated, Wide, binding, negated_wide, Item, stage, axiom_item, macro, spelled_atom, spelled_formula, spelled_item, spelled_model}
use Rattle.uspec_parser.specs.Levels.{is_deep, level_of, level_after_and, level_after_or, level_after_implies}

-- no opener among these
abbrev pub shallow : {X : Type 0} → List X → List Bool
shallow xs = map (λ x. false) xs

abbrev pub open_at : Connective → Level → ℕ
open_at conjoins l = l.at_and
open_at disjoins l = l.at_or
open_at implies l = l.at_implies

abbrev pub level_behind : Connective → Level → Level
level_behind conjoins l = level_after_and l
level_behind disjoins l = level_after_or l
level_behind implies l = level_after_implies l

-- A mark for each token. n openers are open at the first token, and the list of operands is at the level l. A `~` is
-- open until its operand ends, a `(` until its `)`, a quantifier until its body ends.
abbrev mutual
  pub marks_formula : Level → ℕ → Formula → List Bool
  marks_formula l n (last u) = marks_operand n u
  marks_formula l n (last_wide w) = marks_wide n w
  marks_formula l n (more u op f) =
      marks_operand n u ++ is_deep (open_at op l) ∷ marks_formula (level_behind op l) (open_at op l + 1) f

  pub marks_operand : ℕ → Operand → List Bool
  marks_operand n (atom a) = shallow (spelled_atom a)
  marks_operand n (bracketed f) = is_deep n ∷ (marks_formula (level_of (n + 1)) (n + 1) f ++ false ∷ [])
  marks_operand n (negated u) = is_deep n ∷ marks_operand (n + 1) u

  pub marks_wide : ℕ → Wide → List Bool
  marks_wide n (binding q f) = is_deep n ∷ false ∷ false ∷ false ∷ marks_formula (level_of (n + 1)) (n + 1) f
  marks_wide n (negated_wide w) = is_deep n ∷ marks_wide (n + 1) w

-- a formula within no opener
abbrev pub marks_outer : Formula → List Bool
marks_outer f = marks_formula (level_of 0) 0 f

abbrev pub marks_item : Item → List Bool
marks_item (stage s) = shallow (spelled_item (stage s))
marks_item (axiom_item at label f) = false ∷ false ∷ false ∷ (marks_outer f ++ false ∷ [])
marks_item (macro name parameters f) =
    false ∷ false ∷ (shallow (map quoted parameters) ++ false ∷ (marks_outer f ++ false ∷ []))

abbrev pub marks_model : List Item → List Bool
marks_model [] = []
marks_model (i ∷ is) = marks_item i ++ marks_model is

-- The terminals are those of a text, and these of them stand too deep.
abbrev pub IsMarkedFormula : List Terminal → List Bool → Type 0
IsMarkedFormula ts marks = (f : Formula) × (ts ≡ map terminal (spelled_formula f)) × (marks ≡ marks_outer f)

abbrev pub IsMarkedModel : List Terminal → List Bool → Type 0
IsMarkedModel ts marks = (items : List Item) × (ts ≡ map terminal (spelled_model items)) × (marks ≡ marks_model items)
