-- Trees in which no constant is left, but for a tree that is one.
use Rattle.pc_ground.specs.Tree.{Tree, always, never, leaf, both, either}

abbrev pub HasNoConstant : {N : Type 0} → Tree N → Type 0
HasNoConstant always = ⊥
HasNoConstant never = ⊥
HasNoConstant (leaf l) = Unit {0}
HasNoConstant (both a b) = HasNoConstant a × HasNoConstant b
HasNoConstant (either a b) = HasNoConstant a × HasNoConstant b

-- a constant stands in the tree only where it is the whole tree
abbrev pub IsFolded : {N : Type 0} → Tree N → Type 0
IsFolded always = Unit {0}
IsFolded never = Unit {0}
IsFolded (leaf l) = Unit {0}
IsFolded (both a b) = HasNoConstant (both a b)
IsFolded (either a b) = HasNoConstant (either a b)
