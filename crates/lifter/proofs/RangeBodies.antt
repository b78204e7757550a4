-- The bodies of a quantifier at the values of its range, one by one.
use Rattle.std.proofs.Common.{◌≡◌, ◌<◌, ℕ, ◌+◌, Bool, List, [], ◌∷◌, ◌++◌, length, map, ap, sym, ◌∙◌}
use Rattle.pc_common.specs.Case.{Case}
use Rattle.pc_syntax.specs.{declared.{term.Sort.{Sort}, bound.Bound.{Bound}}, Truth.{Meaning, range_of}, Closed.{PlainClosed}}
use Rattle.static_preds.{specs.{Slots.{bound_at}, Values.{meanings}}, proofs.Ranges.{next_value, meanings_inside}}
use Rattle.lifter.specs.{Trees.{said_tree, joined_trees, bodies}, declared.kind.FactKind.{FactKind}, Kinds.{kind_of, joined_kind, decider}}
use Rattle.lifter.proofs.KindLaws.{kind_of_more, decided_first, decided_second, joined_assoc}

-- the next body and those after it
pub body_next : (c : Case) (plus : Bool) (slots inside : List Bound) (sort : Sort) (p : PlainClosed) (k : ℕ) (v : Bound)
    → k < length (range_of c sort) → v ≡ bound_at sort k → inside ≡ slots ++ v ∷ []
    → bodies c plus sort p (meanings slots) k ≡ said_tree c plus p (meanings inside) ∷ bodies c plus sort p (meanings slots) (k + 1)
body_next c plus slots inside sort p k v within value bound =
    ap (map (λ (u : Meaning). said_tree c plus p (meanings slots ++ u ∷ []))) (next_value c sort k within)
    ∙ ap (λ (ms : List Meaning). said_tree c plus p ms ∷ bodies c plus sort p (meanings slots) (k + 1))
    (sym (meanings_inside slots inside sort k v bound value))

-- the kind of the whole, from one member on
pub kind_next : (all : Bool) (c : Case) (plus : Bool) (slots inside : List Bound) (sort : Sort) (p : PlainClosed) (k : ℕ) (v : Bound)
    → k < length (range_of c sort) → v ≡ bound_at sort k → inside ≡ slots ++ v ∷ []
    → kind_of (joined_trees all (bodies c plus sort p (meanings slots) k))
    ≡ joined_kind all (kind_of (said_tree c plus p (meanings inside))) (kind_of (joined_trees all (bodies c plus sort p (meanings slots) (k + 1))))
kind_next all c plus slots inside sort p k v within value bound =
    ap (λ ts. kind_of (joined_trees all ts)) (body_next c plus slots inside sort p k v within value bound)
    ∙ kind_of_more all (said_tree c plus p (meanings inside)) (bodies c plus sort p (meanings slots) (k + 1))

-- one more member, which decides, and one more that may not
pub walked_decided : (all : Bool) (kind member here rest whole : FactKind) → member ≡ decider all → here ≡ joined_kind all member rest
    → joined_kind all kind here ≡ whole → member ≡ whole
walked_decided all kind member here rest whole d e w =
    d ∙ sym (decided_second all kind) ∙ ap (joined_kind all kind) (sym (e ∙ ap (λ m. joined_kind all m rest) d ∙ decided_first all rest)) ∙ w

pub walked_on : (all : Bool) (kind member here rest whole : FactKind) → here ≡ joined_kind all member rest → joined_kind all kind here ≡ whole
    → joined_kind all (joined_kind all kind member) rest ≡ whole
walked_on all kind member here rest whole e w = joined_assoc all kind member rest ∙ ap (joined_kind all kind) (sym e) ∙ w
