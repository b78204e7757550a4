-- A list of operands grouped from its last one on.
use Rattle.std.proofs.Common.{◌≡◌, List, [], ◌∷◌, ◌++◌, refl, ap}
use Rattle.pc_syntax.specs.Written.{written}
use Rattle.uspec_parser.specs.{Operands.{Operands, chain, Grouped, before, group}, Grouping.{operands_before, grouped_before}, declared.operands.Link.{Link}}

-- the last of the operands goes before the grouping
pub grouped_before-push : (js : List Link) (j : Link) (g : Grouped)
    → grouped_before (js ++ j ∷ []) g ≡ grouped_before js (before (written j.operand) j.connective g)
grouped_before-push [] j g = refl
grouped_before-push (i ∷ js) j g = ap (before (written i.operand) i.connective) (grouped_before-push js j g)

pub group-operands : (js : List Link) (l : Operands) → group (operands_before js l) ≡ grouped_before js (group l)
group-operands [] l = refl
group-operands (j ∷ js) l = ap (before (written j.operand) j.connective) (group-operands js l)

pub operands_before-push : (js : List Link) (j : Link) (l : Operands)
    → operands_before (js ++ j ∷ []) l ≡ operands_before js (chain (written j.operand) j.connective l)
operands_before-push [] j l = refl
operands_before-push (i ∷ js) j l = ap (chain (written i.operand) i.connective) (operands_before-push js j l)
