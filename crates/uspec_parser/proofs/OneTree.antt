-- The descent makes one thing of lexemes.
use Rattle.std.proofs.Common.{◌≡◌, Bool, true, List, [], ◌∷◌, refl, sym, ap, subst, ◌∙◌}
use Rattle.pc_syntax.specs.declared.{term.{Arg.{Arg}, Word.{Word}}, model.StageItem.{StageItem}}
use Rattle.pc_syntax.specs.Written.{Written, not_, edges_, nodes_, static_, expand_, WrittenItem, axiom_}
use Rattle.uspec_parser.specs.{Terminals.{Lexeme}, Operands.{Operands, chain, formula_of}, Syntax.{quantified}}
use Rattle.uspec_parser.specs.Descent.{next, behind, word, place, sort_by, argument, Arguments, Elements, Atom, Operand, Row, Tail, Parameters, begins_item, macro_item, Item, Items}
use Rattle.uspec_parser.specs.declared.terminal.Terminal.{Terminal, TheVariants.{OneEdge, EdgeList, OneNode, NodeList, ExpandMacro}}

pub one_arguments : {xs r s : List Lexeme} {a b : List Arg} → Arguments xs a r → Arguments xs b s → (a ≡ b) × (r ≡ s)
one_arguments (Arguments.ends e) (Arguments.ends f) = (refl, refl)
one_arguments (Arguments.ends e) (Arguments.goes_on f more) = absurd (cc)
one_arguments (Arguments.goes_on e more) (Arguments.ends f) = absurd (cc)
one_arguments {xs} (Arguments.goes_on e more) (Arguments.goes_on f others) =
    let (p, q) = one_arguments more others in (ap (λ (others : List Arg). argument xs ∷ others) p, q)

pub one_elements : {X : Type 0} {one : List Lexeme → X} {behind_one : List Lexeme → List Lexeme} {xs r s : List Lexeme} {a b : List X}
    → Elements one behind_one xs a r → Elements one behind_one xs b s → (a ≡ b) × (r ≡ s)
one_elements (Elements.ends e) (Elements.ends f) = (refl, refl)
one_elements (Elements.ends e) (Elements.goes_on f more) = absurd (e f)
one_elements (Elements.goes_on e more) (Elements.ends f) = absurd (f e)
one_elements {X} {one} {behind_one} {xs} (Elements.goes_on e more) (Elements.goes_on f others) =
    let (p, q) = one_elements more others in (ap (λ (es : List X). one xs ∷ es) p, q)

one_atom : (t : Terminal) (xs : List Lexeme) (w v : Written) (r s : List Lexeme) → Atom t xs w r → Atom t xs v s → (w ≡ v) × (r ≡ s)
one_atom OneEdge xs w v r s a b = (a.0 ∙ sym b.0, a.1 ∙ sym b.1)
one_atom OneNode xs w v r s a b = (a.0 ∙ sym b.0, a.1 ∙ sym b.1)
one_atom EdgeList xs w v r s a b = let (p, q) = one_elements a.1 b.1 in (a.2 ∙ ap edges_ p ∙ sym b.2, q)
one_atom NodeList xs w v r s a b = let (p, q) = one_elements a.1 b.1 in (a.2 ∙ ap nodes_ p ∙ sym b.2, q)
one_atom ExpandMacro xs w v r s a b =
    let (p, q) = one_arguments a.1 b.1 in (a.2 ∙ ap (expand_ (place xs) (word (behind xs))) p ∙ sym b.2, q)
one_atom _ xs w v r s a b = let (p, q) = one_arguments a.1 b.1 in (a.2 ∙ ap (static_ (word xs)) p ∙ sym b.2, q)

mutual
  pub one_operand : {xs r s : List Lexeme} {w v : Written} → Operand xs w r → Operand xs v s → (w ≡ v) × (r ≡ s)
  one_operand (Operand.negated e u) (Operand.negated f o) = let (p, q) = one_operand u o in (ap not_ p, q)
  one_operand (Operand.bracketed e u) (Operand.bracketed f o) = let (p, q) = one_row u o in (ap formula_of p, ap behind q)
  one_operand {xs} (Operand.bound {l = l} u e a) (Operand.bound o f b) =
      let (p, q) = one_row a b in
      let same : u ≡ o = cc in
      let at = place xs in
      let sort = sort_by (next (behind xs)) in
      let name = (word (behind (behind xs))).name in
      (ap (λ (w : Bool). quantified w at sort name (formula_of l)) same ∙ ap (λ (m : Operands). quantified o at sort name (formula_of m)) p, q)
  one_operand {xs} {r} {s} {w} {v} (Operand.atom e a) (Operand.atom f b) = one_atom (next xs) xs w v r s a b
  one_operand (Operand.negated e u) (Operand.bracketed f o) = absurd (cc)
  one_operand (Operand.negated e u) (Operand.bound o f b) = absurd (cc)
  one_operand (Operand.negated e u) (Operand.atom f b) = absurd (cc)
  one_operand (Operand.bracketed e u) (Operand.negated f o) = absurd (cc)
  one_operand (Operand.bracketed e u) (Operand.bound o f b) = absurd (cc)
  one_operand (Operand.bracketed e u) (Operand.atom f b) = absurd (cc)
  one_operand (Operand.bound u e a) (Operand.negated f o) = absurd (cc)
  one_operand (Operand.bound u e a) (Operand.bracketed f o) = absurd (cc)
  one_operand (Operand.bound u e a) (Operand.atom f b) = absurd (cc)
  one_operand (Operand.atom e a) (Operand.negated f o) = absurd (cc)
  one_operand (Operand.atom e a) (Operand.bracketed f o) = absurd (cc)
  one_operand (Operand.atom e a) (Operand.bound o f b) = absurd (cc)

  pub one_row : {xs r s : List Lexeme} {l m : Operands} → Row xs l r → Row xs m s → (l ≡ m) × (r ≡ s)
  one_row {r = r} {s = s} {l = l} {m = m} (Row.row {between = y} {w = w} a t) (Row.row {between = z} {w = v} b u) =
      let (p, q) = one_operand a b in
      one_tail t (subst (λ (x : Written). Tail y x m s) (sym p) (subst (λ (x : List Lexeme). Tail x v m s) (sym q) u))

  one_tail : {xs r s : List Lexeme} {w : Written} {l m : Operands} → Tail xs w l r → Tail xs w m s → (l ≡ m) × (r ≡ s)
  one_tail (Tail.ends e) (Tail.ends f) = (refl, refl)
  one_tail (Tail.ends e) (Tail.goes_on o f b u) = absurd (cc)
  one_tail (Tail.goes_on o e a t) (Tail.ends f) = absurd (cc)
  one_tail {s = s} {w = w} (Tail.goes_on {between = y} {v = v} {l = l} op e a t) (Tail.goes_on {between = z} {v = n} {l = m} o f b u) =
      let (p, q) = one_operand a b in
      let rest = one_tail t (subst (λ (x : Written). Tail y x m s) (sym p) (subst (λ (x : List Lexeme). Tail x n m s) (sym q) u)) in
      let same : op ≡ o = cc in
      let all : chain w op l ≡ chain w o m = let tail = rest.0 in cc in
      (all, rest.1)

one_parameters : {xs r s : List Lexeme} {a b : List Word} → Parameters xs a r → Parameters xs b s → (a ≡ b) × (r ≡ s)
one_parameters (Parameters.ends e) (Parameters.ends f) = (refl, refl)
one_parameters (Parameters.ends e) (Parameters.goes_on f more) = absurd (cc)
one_parameters (Parameters.goes_on e more) (Parameters.ends f) = absurd (cc)
one_parameters {xs} (Parameters.goes_on e more) (Parameters.goes_on f others) =
    let (p, q) = one_parameters more others in (ap (λ (ws : List Word). word xs ∷ ws) p, q)

item_begins : {xs r : List Lexeme} {ss : List StageItem} {is : List WrittenItem} → Item xs ss is r → begins_item (next xs) ≡ true
item_begins (Item.stage e) = ap begins_item e
item_begins (Item.axiom_line e r) = ap begins_item e
item_begins (Item.macro e p r) = ap begins_item e

one_item : {xs r s : List Lexeme} {a b : List StageItem} {p q : List WrittenItem} → Item xs a p r → Item xs b q s → (a ≡ b) × (p ≡ q) × (r ≡ s)
one_item (Item.stage e) (Item.stage f) = (refl, refl, refl)
one_item (Item.stage e) (Item.axiom_line f r) = absurd (cc)
one_item (Item.stage e) (Item.macro f p r) = absurd (cc)
one_item (Item.axiom_line e r) (Item.stage f) = absurd (cc)
one_item {xs} (Item.axiom_line e r) (Item.axiom_line f s) =
    let (l, left) = one_row r s in
    (refl, ap (λ (m : Operands). axiom_ (place xs) (formula_of m) ∷ []) l, ap behind left)
one_item (Item.axiom_line e r) (Item.macro f p s) = absurd (cc)
one_item (Item.macro e p r) (Item.stage f) = absurd (cc)
one_item (Item.macro e p r) (Item.axiom_line f s) = absurd (cc)
one_item {xs} (Item.macro {between = y} {ws = ws} {l = l} e p r) (Item.macro {between = z} {rest = rest} {ws = vs} {l = m} f q s) =
    let (words, left) = one_parameters p q in
    let (rows, after) = one_row r (subst (λ (zs : List Lexeme). Row (behind zs) m rest) (sym left) s) in
    let all : macro_item xs ws l ∷ [] ≡ macro_item xs vs m ∷ [] = λ i. macro_item xs (words i) (rows i) ∷ [] in
    (refl, all, ap behind after)

pub one_items : {xs : List Lexeme} {a b : List StageItem} {p q : List WrittenItem} → Items xs a p → Items xs b q → (a ≡ b) × (p ≡ q)
one_items (Items.ends e) (Items.ends f) = (refl, refl)
one_items (Items.ends e) (Items.goes_on f more) = let begins = item_begins f in absurd (cc)
one_items (Items.goes_on e more) (Items.ends f) = let begins = item_begins e in absurd (cc)
one_items (Items.goes_on e more) (Items.goes_on {between = z} {others = others} {more = lines} f rest) =
    let (ss, is, left) = one_item e f in
    let (stages, items) = one_items more (subst (λ (xs : List Lexeme). Items xs others lines) (sym left) rest) in
    (cc, cc)
