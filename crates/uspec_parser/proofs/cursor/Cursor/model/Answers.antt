use Rattle.std.proofs.{Common.{◌≡◌, List, [], ◌++◌, map, sym, ap, subst, ◌∙◌, append_assoc}, lemmas.List.{append-nil}}
use Rattle.pc_syntax.specs.{declared.model.StageItem.{StageItem}, Written.{WrittenItem, written_item}}
use Rattle.uspec_parser.{specs.{Terminals.{Lexeme}, Descent.{Items}}, proofs.Shorter.{item_shorter}}
use Rattle.uspec_parser.proofs.cursor.Cursor.model.Goals as goal

pub loop-alloc-smaller : goal.loop-alloc-smaller
loop-alloc-smaller c = item_shorter (sym c.is_item_next.ensures ∙ c.loop-alloc-test.true) c.in_ok-item.ensures.2

-- what was added, and what is still to come
rejoined : {X : Type 0} (new old added more : List X) → new ≡ old ++ added → old ++ (added ++ more) ≡ new ++ more
rejoined {X} new old added more e = sym (ap (λ (l : List X). l ++ more) e ∙ append_assoc old added more)

moved : (xs : List Lexeme) (a b : List StageItem) (p q : List WrittenItem) → a ≡ b → p ≡ q → Items xs a p → Items xs b q
moved xs a b p q e f items =
    subst (λ (ss : List StageItem). Items xs ss q) e (subst (λ (is : List WrittenItem). Items xs a is) f items)

pub loop-alloc-preserved : goal.loop-alloc-preserved
loop-alloc-preserved c = λ ss is others.
    let (added, lines, item, stages, items) = c.in_ok-item.ensures in
    let file = c.loop-alloc.file in
    moved c.args.self.now (file.stages ++ (added ++ ss)) (c.item.new.file.stages ++ ss) (map written_item file.items ++ (lines ++ is))
    (map written_item c.item.new.file.items ++ is)
    (rejoined c.item.new.file.stages file.stages added ss stages)
    (rejoined (map written_item c.item.new.file.items) (map written_item file.items) lines is items)
    (c.loop-alloc.invariant (added ++ ss) (lines ++ is) (Items.goes_on item others))

pub returns : goal.returns
returns c =
    let file = c.loop-alloc.file in
    moved c.args.self.now (file.stages ++ []) file.stages (map written_item file.items ++ []) (map written_item file.items)
    (append-nil file.stages) (append-nil (map written_item file.items))
    (c.loop-alloc.invariant [] [] (Items.ends (sym c.is_item_next.ensures ∙ c.loop-alloc-test.false)))
