-- Where the constants of a formula stand.
use Rattle.pc_ground.specs.PlainGround.{PlainGround, ground_true, ground_false, ground_literal, ground_not, ground_and, ground_or}

-- none stands anywhere
abbrev pub HasNoConstant : PlainGround → Type 0
HasNoConstant ground_true = ⊥
HasNoConstant ground_false = ⊥
HasNoConstant (ground_literal l) = Unit {0}
HasNoConstant (ground_not g) = HasNoConstant g
HasNoConstant (ground_and g h) = HasNoConstant g × HasNoConstant h
HasNoConstant (ground_or g h) = HasNoConstant g × HasNoConstant h

-- one stands only where it is the whole formula
abbrev pub HasNoInnerConstant : PlainGround → Type 0
HasNoInnerConstant ground_true = Unit {0}
HasNoInnerConstant ground_false = Unit {0}
HasNoInnerConstant (ground_literal l) = Unit {0}
HasNoInnerConstant (ground_not g) = HasNoConstant g
HasNoInnerConstant (ground_and g h) = HasNoConstant g × HasNoConstant h
HasNoInnerConstant (ground_or g h) = HasNoConstant g × HasNoConstant h
