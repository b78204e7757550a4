-- The expansion of a renamed formula is the renamed expansion, and its size and height are those of the formula.
use Rattle.std.proofs.{Common.{◌≡◌, ◌+◌, max, Bool, List, [], ◌∷◌, cond, map, refl, ap, ◌∙◌}, lemmas.List.{length-map}}
use Rattle.pc_common.specs.Names.{same_name}
use Rattle.pc_syntax.specs.Written.{Written, not_, and_, or_, implies_, forall_, exists_, static_, nodes_, edges_, expand_, bind_, MacroAt, WrittenModel}
use Rattle.pc_syntax.specs.{Observable.{axioms_of, macros_of}, Expansion.{parameter_names, expansion_of}, Sizes.{expanded_size, expanded_height}}
use Rattle.pc_syntax.specs.Renaming.{Renaming, KeepsApart, renamed_arg, renamed_node, renamed_edge, renamed, renamed_macro, renamed_model}
use Rattle.pc_syntax.proofs.{RenamedItems.{names_renamed, axioms_renamed, macros_renamed}, ExpansionLaws.{choose}}

-- the parameters' names are the new ones
pub parameter_names_renamed : (ρ : Renaming) (m : MacroAt)
    → parameter_names (renamed_macro ρ m) ≡ map ρ (parameter_names m)
parameter_names_renamed ρ m = names_renamed ρ m.parameters

-- both lists of a renamed model
pub items_renamed : (ρ : Renaming) (m : WrittenModel)
    → (axioms_of (renamed_model ρ m) ≡ map (renamed ρ) (axioms_of m))
    × (macros_of (renamed_model ρ m) ≡ map (renamed_macro ρ) (macros_of m))
items_renamed ρ m = (axioms_renamed ρ m, macros_renamed ρ m)

-- a renamed formula expands, by the renamed macros, to the renamed expansion
pub expansion_renamed : (ρ : Renaming) → KeepsApart ρ → (ms : List MacroAt) (w : Written)
    → expansion_of (map (renamed_macro ρ) ms) (renamed ρ w) ≡ renamed ρ (expansion_of ms w)
expansion_renamed ρ apart ms (not_ p) = λ i. not_ (expansion_renamed ρ apart ms p i)
expansion_renamed ρ apart ms (and_ p q) =
    λ i. and_ (expansion_renamed ρ apart ms p i) (expansion_renamed ρ apart ms q i)
expansion_renamed ρ apart ms (or_ p q) =
    λ i. or_ (expansion_renamed ρ apart ms p i) (expansion_renamed ρ apart ms q i)
expansion_renamed ρ apart ms (implies_ p q) =
    λ i. implies_ (expansion_renamed ρ apart ms p i) (expansion_renamed ρ apart ms q i)
expansion_renamed ρ apart ms (forall_ at sort name p) =
    λ i. forall_ at sort (ρ name) (expansion_renamed ρ apart ms p i)
expansion_renamed ρ apart ms (exists_ at sort name p) =
    λ i. exists_ at sort (ρ name) (expansion_renamed ρ apart ms p i)
expansion_renamed ρ apart ms (bind_ at names args p) =
    λ i. bind_ at (map ρ names) (map (renamed_arg ρ) args) (expansion_renamed ρ apart ms p i)
expansion_renamed ρ apart (m ∷ ms) (expand_ at name args) =
    let called =
    bind_ at (parameter_names (renamed_macro ρ m)) (map (renamed_arg ρ) args)
    (expansion_of (map (renamed_macro ρ) ms) (renamed ρ m.body)) in
    let other = expansion_of (map (renamed_macro ρ) ms) (renamed ρ (expand_ at name args)) in
    ap (λ b. cond b called other) (apart m.name.name name.name)
    ∙ choose (renamed ρ) (same_name m.name.name name.name) called other
    (bind_ at (parameter_names m) args (expansion_of ms m.body))
    (expansion_of ms (expand_ at name args))
    (λ i. bind_ at (parameter_names_renamed ρ m i) (map (renamed_arg ρ) args) (expansion_renamed ρ apart ms m.body i))
    (expansion_renamed ρ apart ms (expand_ at name args))
expansion_renamed ρ apart ms w = refl

-- two equal branches, one chosen by an equal test
chosen : {A : Type 0} (b c : Bool) (x y v w : A) → b ≡ c → x ≡ v → y ≡ w → cond b x y ≡ cond c v w
chosen b c x y v w test first second = λ i. cond (test i) (first i) (second i)

-- the size with macros followed does not change
pub size_renamed : (ρ : Renaming) → KeepsApart ρ → (ms : List MacroAt) (w : Written)
    → expanded_size (map (renamed_macro ρ) ms) (renamed ρ w) ≡ expanded_size ms w
size_renamed ρ apart ms (not_ p) = λ i. 1 + size_renamed ρ apart ms p i
size_renamed ρ apart ms (and_ p q) = λ i. 1 + (size_renamed ρ apart ms p i + size_renamed ρ apart ms q i)
size_renamed ρ apart ms (or_ p q) = λ i. 1 + (size_renamed ρ apart ms p i + size_renamed ρ apart ms q i)
size_renamed ρ apart ms (implies_ p q) = λ i. 1 + (size_renamed ρ apart ms p i + size_renamed ρ apart ms q i)
size_renamed ρ apart ms (forall_ at sort name p) = λ i. 1 + size_renamed ρ apart ms p i
size_renamed ρ apart ms (exists_ at sort name p) = λ i. 1 + size_renamed ρ apart ms p i
size_renamed ρ apart ms (static_ pred args) = refl
size_renamed ρ apart ms (nodes_ ts) = ap (λ n. 1 + n) (length-map ts (renamed_node ρ))
size_renamed ρ apart ms (edges_ ts) = ap (λ n. 1 + n) (length-map ts (renamed_edge ρ))
size_renamed ρ apart ms (bind_ at names args p) = λ i. 1 + size_renamed ρ apart ms p i
size_renamed ρ apart [] (expand_ at name args) = refl
size_renamed ρ apart (m ∷ ms) (expand_ at name args) =
    chosen (same_name (ρ m.name.name) (ρ name.name)) (same_name m.name.name name.name) _ _ _ _
    (apart m.name.name name.name)
    (λ i. 1 + size_renamed ρ apart ms m.body i)
    (size_renamed ρ apart ms (expand_ at name args))

-- nor does the height
pub height_renamed : (ρ : Renaming) → KeepsApart ρ → (ms : List MacroAt) (w : Written)
    → expanded_height (map (renamed_macro ρ) ms) (renamed ρ w) ≡ expanded_height ms w
height_renamed ρ apart ms (not_ p) = λ i. 1 + height_renamed ρ apart ms p i
height_renamed ρ apart ms (and_ p q) = λ i. 1 + max (height_renamed ρ apart ms p i) (height_renamed ρ apart ms q i)
height_renamed ρ apart ms (or_ p q) = λ i. 1 + max (height_renamed ρ apart ms p i) (height_renamed ρ apart ms q i)
height_renamed ρ apart ms (implies_ p q) = λ i. 1 + max (height_renamed ρ apart ms p i) (height_renamed ρ apart ms q i)
height_renamed ρ apart ms (forall_ at sort name p) = λ i. 1 + height_renamed ρ apart ms p i
height_renamed ρ apart ms (exists_ at sort name p) = λ i. 1 + height_renamed ρ apart ms p i
height_renamed ρ apart ms (bind_ at names args p) = λ i. 1 + height_renamed ρ apart ms p i
height_renamed ρ apart (m ∷ ms) (expand_ at name args) =
    chosen (same_name (ρ m.name.name) (ρ name.name)) (same_name m.name.name name.name) _ _ _ _
    (apart m.name.name name.name)
    (λ i. 1 + height_renamed ρ apart ms m.body i)
    (height_renamed ρ apart ms (expand_ at name args))
height_renamed ρ apart ms w = refl
