use Rattle.std.proofs.Common.{◌≡◌, [], ◌∷◌, sym, ap, ◌∙◌, List, length, refl, arith}
use Rattle.pc_syntax.specs.Written.{written}
use Rattle.uspec_parser.specs.{Operands.{whole, only, formula_of, Grouped}, Grouping.{grouped_before, written_grouping, operands_before}}
use Rattle.uspec_parser.{specs.declared.operands.Link.{Link}, proofs.{GroupedBefore.{grouped_before-push, group-operands}, Steps.{ok_map}}}
use Rattle.uspec_parser.proofs.operands.formula_of.Goals as goal

pub loop-link-preserved : goal.loop-link-preserved
loop-link-preserved c =
    let left = c.pop.new.self.items in
    let g = written_grouping c.loop-link.grouping in
    ap (grouped_before left) c.in_ok-grouping.ensures ∙ sym (grouped_before-push left c.in-Some.link g)
    ∙ ap (λ (js : List Link). grouped_before js g) (sym c.in-Some.ensures.items) ∙ c.loop-link.invariant

none_left : (js : List Link) (g : Grouped) → length js ≡ 0 → grouped_before js g ≡ g
none_left [] g e = refl
none_left (j ∷ js) g e = absurd (omega arith)

pub returns : goal.returns
returns c =
    let g = written_grouping c.loop-link.grouping in
    let operands = c.args.operands.items in
    let last = only (written c.args.last) in
    let none : length c.loop-link.before.items ≡ 0 = omega (arith, c.in_default.ensures.cases) in
    let same = sym (none_left c.loop-link.before.items g none) ∙ c.loop-link.invariant ∙ sym (group-operands operands last) in
    ok_map c.formula.result (λ f. written f ≡ whole g) (λ f. written f ≡ formula_of (operands_before operands last)) c.formula.ensures
    (λ f e. e ∙ ap whole same)
