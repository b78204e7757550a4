use Rattle.std.proofs.{Common.{◌≡◌, true, List, [], ◌∷◌, ◌++◌, map, refl, sym, ap, subst, ◌∙◌}, lemmas.List.{append-nil, map-append}}
use Rattle.pc_syntax.specs.{declared.model.{StageItem.{StageItem}, Item.{Item as ItemTree}}, Written.{WrittenItem, written_item, axiom_}}
use Rattle.uspec_parser.specs.{Terminals.{Lexeme}, Operands.{formula_of}, Descent.{place, begins_item, stage_item, macro_item, Item}}
use Rattle.uspec_parser.specs.declared.terminal.Terminal.{Terminal, TheVariants.{StageName, Axiom, DefineMacro}}
use Rattle.uspec_parser.proofs.cursor.Cursor.item.Goals as goal

pub returns-in_ok-push-in-StageName : goal.returns-in_ok-push-in-StageName
returns-in_ok-push-in-StageName c =
    let old = c.args.self.now in (
      stage_item old ∷ [],
      [],
      subst (λ (xs : List Lexeme). Item old (stage_item old ∷ []) [] xs) (sym c.in_ok-stage-in-StageName.ensures.rest)
          (Item.stage (sym c.next.ensures ∙ c.in-StageName.is)),
      c.in_ok-push-in-StageName.ensures ∙ ap (λ (s : StageItem). c.args.file.now.stages ++ s ∷ []) c.in_ok-stage-in-StageName.ensures.value,
      sym (append-nil (map written_item c.args.file.now.items)),
    )

-- one item more, as written
more_items : (new old : List ItemTree) (i : ItemTree) (w : WrittenItem) → new ≡ old ++ i ∷ [] → written_item i ≡ w
    → map written_item new ≡ map written_item old ++ w ∷ []
more_items new old i w e is =
    ap (map written_item) e ∙ map-append written_item old (i ∷ []) ∙ ap (λ (x : WrittenItem). map written_item old ++ x ∷ []) is

pub returns-in_ok-push-in-Axiom : goal.returns-in_ok-push-in-Axiom
returns-in_ok-push-in-Axiom c =
    let old = c.args.self.now in
    let (l, rest, body, is, left) = c.in_ok-axiom-in-Axiom.ensures in (
      [],
      axiom_ (place old) (formula_of l) ∷ [],
      subst (λ (xs : List Lexeme). Item old [] (axiom_ (place old) (formula_of l) ∷ []) xs) (sym left)
          (Item.axiom_line (sym c.next.ensures ∙ c.in-Axiom.is) body),
      sym (append-nil c.args.file.now.stages),
      more_items c.push-in-Axiom.new.self c.args.file.now.items c.in_ok-axiom-in-Axiom.axiom (axiom_ (place old) (formula_of l))
          c.in_ok-push-in-Axiom.ensures is,
    )

macro_next : (t : Terminal) → begins_item t ≡ true → (t ≡ StageName → ⊥) → (t ≡ Axiom → ⊥) → t ≡ DefineMacro
macro_next StageName e s a = absurd (s refl)
macro_next Axiom e s a = absurd (a refl)
macro_next DefineMacro e s a = refl
macro_next _ e s a = absurd (cc)

pub returns-in_ok-push-in_default : goal.returns-in_ok-push-in_default
returns-in_ok-push-in_default c =
    let old = c.args.self.now in
    let begins = ap begins_item c.next.ensures ∙ c.requires in
    let here = sym c.next.ensures ∙ macro_next c.next.result begins c.in_default.not-StageName c.in_default.not-Axiom in
    let (ws, between, l, rest, parameters, body, is, left) = c.in_ok-definition-in_default.ensures in (
      [],
      macro_item old ws l ∷ [],
      subst (λ (xs : List Lexeme). Item old [] (macro_item old ws l ∷ []) xs) (sym left) (Item.macro here parameters body),
      sym (append-nil c.args.file.now.stages),
      more_items c.push-in_default.new.self c.args.file.now.items c.in_ok-definition-in_default.definition (macro_item old ws l)
          c.in_ok-push-in_default.ensures is,
    )
