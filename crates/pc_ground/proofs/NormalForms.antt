-- Pushing negations down and folding constants: what they keep of the truth, and where constants are left.
use Rattle.std.proofs.Common.{◌≡◌, Bool, true, false, not, ◌&&◌, ◌||◌, refl, sym, ◌∙◌}
use Rattle.pc_common.{specs.World.{Node, World, has_node, has_edge}, proofs.Bools.{and_false, or_true, or_false}}
use Rattle.pc_ground.specs.declared.literal.Literal.{Literal, TheVariants.{Node as a_node, Edge, NoNode, NoEdge}}
use Rattle.pc_ground.specs.Tree.{Tree, always, never, both, either, contrary, literal_true, tree_true}
use Rattle.pc_ground.specs.PlainGround.{PlainGround, ground_true, ground_false, ground_literal, ground_not, ground_and, ground_or, pushed, conjoined, disjoined, folded, normal, negated, ground_conjoined, ground_disjoined, simplified}
use Rattle.pc_ground.specs.Folded.{IsFolded}

-- the truth of a ground formula
abbrev pub ground_holds : World Node → PlainGround → Bool
ground_holds w ground_true = true
ground_holds w ground_false = false
ground_holds w (ground_literal l) = literal_true w l
ground_holds w (ground_not g) = not (ground_holds w g)
ground_holds w (ground_and g h) = ground_holds w g && ground_holds w h
ground_holds w (ground_or g h) = ground_holds w g || ground_holds w h

and_true : (b : Bool) → (b && true) ≡ b
and_true true = refl
and_true false = refl

not_not : (b : Bool) → not (not b) ≡ b
not_not true = refl
not_not false = refl

not_and : (a b : Bool) → not (a && b) ≡ (not a || not b)
not_and true b = refl
not_and false b = refl

not_or : (a b : Bool) → not (a || b) ≡ (not a && not b)
not_or true b = refl
not_or false b = refl

pub conjoined_true : (w : World Node) (t u : Tree Node) → tree_true w (conjoined t u) ≡ (tree_true w t && tree_true w u)
conjoined_true w always u = refl
conjoined_true w never u = refl
conjoined_true w t always = sym (and_true (tree_true w t))
conjoined_true w t never = sym (and_false (tree_true w t))
conjoined_true w t u = refl

pub disjoined_true : (w : World Node) (t u : Tree Node) → tree_true w (disjoined t u) ≡ (tree_true w t || tree_true w u)
disjoined_true w always u = refl
disjoined_true w never u = refl
disjoined_true w t always = sym (or_true (tree_true w t))
disjoined_true w t never = sym (or_false (tree_true w t))
disjoined_true w t u = refl

pub folded_true : (w : World Node) (t : Tree Node) → tree_true w (folded t) ≡ tree_true w t
folded_true w (both a b) = conjoined_true w (folded a) (folded b) ∙ (λ i. folded_true w a i && folded_true w b i)
folded_true w (either a b) = disjoined_true w (folded a) (folded b) ∙ (λ i. folded_true w a i || folded_true w b i)
folded_true w t = refl

pub contrary_true : (w : World Node) (l : Literal Node) → literal_true w (contrary l) ≡ not (literal_true w l)
contrary_true w (a_node a) = refl
contrary_true w (Edge a b) = refl
contrary_true w (NoNode a) = sym (not_not (has_node w a))
contrary_true w (NoEdge a b) = sym (not_not (has_edge w a b))

-- b, or not b where a negation is pushed down
abbrev signed : Bool → Bool → Bool
signed true b = b
signed false b = not b

pushed_is : (w : World Node) (b : Bool) (g : PlainGround) → tree_true w (pushed b g) ≡ signed b (ground_holds w g)
pushed_is w true (ground_not g) = pushed_is w false g
pushed_is w true (ground_and g h) = λ i. pushed_is w true g i && pushed_is w true h i
pushed_is w true (ground_or g h) = λ i. pushed_is w true g i || pushed_is w true h i
pushed_is w false (ground_literal l) = contrary_true w l
pushed_is w false (ground_not g) = pushed_is w true g ∙ sym (not_not (ground_holds w g))
pushed_is w false (ground_and g h) = (λ i. pushed_is w false g i || pushed_is w false h i) ∙ sym (not_and (ground_holds w g) (ground_holds w h))
pushed_is w false (ground_or g h) = (λ i. pushed_is w false g i && pushed_is w false h i) ∙ sym (not_or (ground_holds w g) (ground_holds w h))
pushed_is w b g = refl

-- the normal form is true exactly where the formula is
pub normal_true : (w : World Node) (g : PlainGround) → tree_true w (normal g) ≡ ground_holds w g
normal_true w g = folded_true w (pushed true g) ∙ pushed_is w true g

conjoined_folded : {N : Type 0} (t u : Tree N) → IsFolded t → IsFolded u → IsFolded (conjoined t u)
conjoined_folded always u h k = k
conjoined_folded never u h k = tt
conjoined_folded t always h k = h
conjoined_folded t never h k = tt
conjoined_folded t u h k = (h, k)

disjoined_folded : {N : Type 0} (t u : Tree N) → IsFolded t → IsFolded u → IsFolded (disjoined t u)
disjoined_folded never u h k = k
disjoined_folded always u h k = tt
disjoined_folded t never h k = h
disjoined_folded t always h k = tt
disjoined_folded t u h k = (h, k)

pub folded_folded : {N : Type 0} (t : Tree N) → IsFolded (folded t)
folded_folded (both a b) = conjoined_folded (folded a) (folded b) (folded_folded a) (folded_folded b)
folded_folded (either a b) = disjoined_folded (folded a) (folded b) (folded_folded a) (folded_folded b)
folded_folded t = tt

pub normal_folded : (g : PlainGround) → IsFolded (normal g)
normal_folded g = folded_folded (pushed true g)

pub conjoined_always : {N : Type 0} (t : Tree N) → conjoined t always ≡ t
conjoined_always always = refl
conjoined_always t = refl

conjoined_never : {N : Type 0} (t : Tree N) → conjoined t never ≡ never
conjoined_never always = refl
conjoined_never t = refl

pub disjoined_never : {N : Type 0} (t : Tree N) → disjoined t never ≡ t
disjoined_never always = refl
disjoined_never t = refl

disjoined_always : {N : Type 0} (t : Tree N) → disjoined t always ≡ always
disjoined_always always = refl
disjoined_always t = refl

-- the tree of the formula, or of its negation, with constants folded
abbrev tree : Bool → PlainGround → Tree Node
tree b g = folded (pushed b g)

-- And of two trees; for a negation, Or
abbrev meet : Bool → Tree Node → Tree Node → Tree Node
meet true t u = conjoined t u
meet false t u = disjoined t u

abbrev join : Bool → Tree Node → Tree Node → Tree Node
join true t u = disjoined t u
join false t u = conjoined t u

tree-negated : (b : Bool) (g : PlainGround) → tree b (negated g) ≡ tree (not b) g
tree-negated true ground_true = refl
tree-negated true g = refl
tree-negated false ground_true = refl
tree-negated false g = refl

tree-conjoined : (b : Bool) (g h : PlainGround) → tree b (ground_conjoined g h) ≡ meet b (tree b g) (tree b h)
tree-conjoined true ground_true h = refl
tree-conjoined false ground_true h = refl
tree-conjoined true g ground_true = sym (conjoined_always (tree true g))
tree-conjoined false g ground_true = sym (disjoined_never (tree false g))
tree-conjoined true g ground_false = sym (conjoined_never (tree true g))
tree-conjoined false g ground_false = sym (disjoined_always (tree false g))
tree-conjoined b g h = refl

tree-disjoined : (b : Bool) (g h : PlainGround) → tree b (ground_disjoined g h) ≡ join b (tree b g) (tree b h)
tree-disjoined true ground_false h = refl
tree-disjoined false ground_false h = refl
tree-disjoined true g ground_false = sym (disjoined_never (tree true g))
tree-disjoined false g ground_false = sym (conjoined_always (tree false g))
tree-disjoined true g ground_true = sym (disjoined_always (tree true g))
tree-disjoined false g ground_true = sym (conjoined_never (tree false g))
tree-disjoined b g h = refl

tree-simplified : (b : Bool) (g : PlainGround) → tree b (simplified g) ≡ tree b g
tree-simplified true (ground_not g) = tree-negated true (simplified g) ∙ tree-simplified false g
tree-simplified false (ground_not g) = tree-negated false (simplified g) ∙ tree-simplified true g
tree-simplified true (ground_and g h) =
    tree-conjoined true (simplified g) (simplified h) ∙ rw (tree-simplified true g, tree-simplified true h) refl
tree-simplified false (ground_and g h) =
    tree-conjoined false (simplified g) (simplified h) ∙ rw (tree-simplified false g, tree-simplified false h) refl
tree-simplified true (ground_or g h) =
    tree-disjoined true (simplified g) (simplified h) ∙ rw (tree-simplified true g, tree-simplified true h) refl
tree-simplified false (ground_or g h) =
    tree-disjoined false (simplified g) (simplified h) ∙ rw (tree-simplified false g, tree-simplified false h) refl
tree-simplified b g = refl

-- folding constants first changes no normal form
pub normal_simplified : (g : PlainGround) → normal (simplified g) ≡ normal g
normal_simplified g = tree-simplified true g
