-- What expansion makes of a formula, and what an expanded formula is.
use Rattle.std.specs.Prelude.{ℕ, List, [], ◌∷◌, map, if◌then◌else◌}
use Rattle.pc_common.specs.Names.{same_name}
use Rattle.pc_syntax.specs.Written.{Written, not_, and_, or_, implies_, forall_, exists_, static_, nodes_, edges_, expand_, bind_, MacroAt}

abbrev pub parameter_names : MacroAt → List (List ℕ)
parameter_names m = map (λ w. w.name) m.parameters

-- each expansion is a binding of its macro's parameters over the macro's body, expanded with the
-- macros before it; all else stays. An expansion of no macro stays too
abbrev pub expansion_of : List MacroAt → Written → Written
expansion_of ms (not_ p) = not_ (expansion_of ms p)
expansion_of ms (and_ p q) = and_ (expansion_of ms p) (expansion_of ms q)
expansion_of ms (or_ p q) = or_ (expansion_of ms p) (expansion_of ms q)
expansion_of ms (implies_ p q) = implies_ (expansion_of ms p) (expansion_of ms q)
expansion_of ms (forall_ at sort name p) = forall_ at sort name (expansion_of ms p)
expansion_of ms (exists_ at sort name p) = exists_ at sort name (expansion_of ms p)
expansion_of ms (static_ pred args) = static_ pred args
expansion_of ms (nodes_ ts) = nodes_ ts
expansion_of ms (edges_ ts) = edges_ ts
expansion_of ms (bind_ at names args p) = bind_ at names args (expansion_of ms p)
expansion_of [] (expand_ at name args) = expand_ at name args
expansion_of (m ∷ ms) (expand_ at name args) =
    if same_name m.name.name name.name
    then bind_ at (parameter_names m) args (expansion_of ms m.body)
    else expansion_of ms (expand_ at name args)

-- no expansion is left
abbrev pub IsExpanded : Written → Type 0
IsExpanded (not_ p) = IsExpanded p
IsExpanded (and_ p q) = IsExpanded p × IsExpanded q
IsExpanded (or_ p q) = IsExpanded p × IsExpanded q
IsExpanded (implies_ p q) = IsExpanded p × IsExpanded q
IsExpanded (forall_ at sort name p) = IsExpanded p
IsExpanded (exists_ at sort name p) = IsExpanded p
IsExpanded (static_ pred args) = Unit {0}
IsExpanded (nodes_ ts) = Unit {0}
IsExpanded (edges_ ts) = Unit {0}
IsExpanded (expand_ at name args) = ⊥
IsExpanded (bind_ at names args p) = IsExpanded p
