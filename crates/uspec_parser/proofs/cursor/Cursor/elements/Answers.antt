use Rattle.std.proofs.{Common.{◌≡◌, ◌<◌, [], ◌∷◌, length, sym, subst, ap, ◌∙◌, List, arith}, lemmas.List.{append-nil}}
use Rattle.uspec_parser.specs.{Terminals.{Lexeme}, Descent.{next, behind, Elements, behind_semicolon, Elements.{ends, goes_on}}}
use Rattle.uspec_parser.{specs.declared.terminal.Terminal.TheVariants.{Open}, proofs.{Pushed.{pushed, all_shared}, Shorter.{behind_open, semicolon_no_longer}}}
use Rattle.uspec_parser.proofs.cursor.Cursor.elements.Goals as goal

pub loop-alloc-smaller : goal.loop-alloc-smaller
loop-alloc-smaller g c =
    let opens : next c.loop-alloc.self ≡ Open = c.is_next.ensures.0 c.loop-alloc-test.true in
    let left : c.semicolon.new.self ≡ behind_semicolon (g.E.Element.behind_one c.loop-alloc.self) = c.semicolon.ensures
    ∙ ap behind_semicolon c.in_ok-read.ensures.rest in
    let same = ap length left in
    let after = semicolon_no_longer (g.E.Element.behind_one c.loop-alloc.self) in
    let read = ap length c.in_ok-read.ensures.rest in
    let within = c.in_ok-read.ensures.shorter in
    let first = behind_open c.loop-alloc.self opens in
    let all : length c.semicolon.new.self < length c.loop-alloc.self = omega arith in
    all

pub loop-alloc-preserved : goal.loop-alloc-preserved
loop-alloc-preserved g c = λ more rest others.
    let opens : next c.loop-alloc.self ≡ Open = c.is_next.ensures.0 c.loop-alloc-test.true in
    let left : c.semicolon.new.self ≡ behind_semicolon (g.E.Element.behind_one c.loop-alloc.self) = c.semicolon.ensures
    ∙ ap behind_semicolon c.in_ok-read.ensures.rest in
    let all = c.loop-alloc.invariant (g.E.Element.one c.loop-alloc.self ∷ more) rest
    (goes_on opens (subst (λ (xs : List Lexeme). Elements g.E.Element.one g.E.Element.behind_one xs more rest) left others)) in
    subst (λ (es : List _). Elements g.E.Element.one g.E.Element.behind_one c.args.self.now es rest)
    (pushed c.push.new.self c.loop-alloc.elements more c.in_ok-read.field-0 (g.E.Element.one c.loop-alloc.self)
    c.in_ok-push.ensures c.in_ok-read.ensures.value) all

pub returns : goal.returns
returns g c =
    let none : next c.loop-alloc.self ≡ Open → ⊥ = λ opens. let test = c.is_next.ensures.1 opens in cc in
    let all =
    subst (λ (xs : List Lexeme). Elements g.E.Element.one g.E.Element.behind_one c.args.self.now c.loop-alloc.elements xs) (sym c.skip.ensures)
    (subst (λ (es : List _). Elements g.E.Element.one g.E.Element.behind_one c.args.self.now es (behind c.loop-alloc.self)) (append-nil c.loop-alloc.elements)
    (c.loop-alloc.invariant [] (behind c.loop-alloc.self) (ends none))) in
    all_shared c.from_listed.result c.loop-alloc.elements (λ (es : List _). Elements g.E.Element.one g.E.Element.behind_one c.args.self.now es c.skip.new.self)
    all c.from_listed.ensures
