use Rattle.std.proofs.{Common.{◌≡◌, List, [], ◌∷◌, ◌++◌, map, refl, sym, ap, subst, ◌∙◌}, lemmas.{List.{map-append, reverse-reverse}, Grind.{reverse_onto}}}
use Rattle.std.specs.Prelude.{reverse}
use Rattle.pc_common.specs.World.{Node}
use Rattle.pc_ground.specs.{declared.{node_key.NodeKey.{NodeKey}, row.Row.{Row}}, Tree.{Tree}, Rows.{rows_of}, Keys.{row_node}}
use Rattle.pc_ground.specs.PlainGround.{plain_ground, normal}
use Rattle.normal_form.specs.{declared.part.Part.{Part}, Parts.{IsWritten}}
use Rattle.normal_form.proofs.normal.normalise.Goals as goal

map-reverse : {X Y : Type 0} (f : X → Y) (xs : List X) → map f (reverse xs) ≡ reverse (map f xs)
map-reverse f [] = refl
map-reverse f (x ∷ xs) =
    ap (map f) (reverse_onto xs x []) ∙ map-append f (reverse xs) (x ∷ []) ∙ ap (λ ys. ys ++ f x ∷ []) (map-reverse f xs)
    ∙ sym (reverse_onto (map f xs) (f x) [])

turned : (t : Tree Node) (rows back : List (Row NodeKey)) → rows ≡ reverse back → map row_node back ≡ reverse (rows_of t) → map row_node rows ≡ rows_of t
turned t rows back e h = ap (map row_node) e ∙ map-reverse row_node back ∙ ap reverse h ∙ reverse-reverse (rows_of t)

behind_none : (t : Tree Node) (none : List (Row NodeKey)) (new : List (Row Node)) (part : Part) → none ≡ []
    → IsWritten (map row_node none) new part t → IsWritten [] new part t
behind_none t none new part e h = subst (λ (rows : List (Row NodeKey)). IsWritten (map row_node rows) new part t) e h

pub new-requires : goal.new-requires
new-requires c =
    let tree = normal (plain_ground c.args.ground.now) in
    let written = behind_none tree c.new-rows.result.items (map row_node c.write.new.rows.items) c.in_ok-part.part
    c.new-rows.ensures.items c.in_ok-part.ensures in
    (tree, turned tree c.from_vec.result c.close.new.rows.items (c.from_vec.ensures ∙ c.reverse.ensures.items) (c.in_ok-close.ensures tree written))

pub returns : goal.returns
returns c =
    let tree = normal (plain_ground c.args.ground.now) in
    let written = behind_none tree c.new-rows.result.items (map row_node c.write.new.rows.items) c.in_ok-part.part
    c.new-rows.ensures.items c.in_ok-part.ensures in
    c.new.ensures
    ∙ turned tree c.from_vec.result c.close.new.rows.items (c.from_vec.ensures ∙ c.reverse.ensures.items) (c.in_ok-close.ensures tree written)
