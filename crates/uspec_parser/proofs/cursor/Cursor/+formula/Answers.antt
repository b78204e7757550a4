use Rattle.std.proofs.Common.{◌≡◌, ◌<◌, true, false, List, length, sym, subst, ap, ◌∙◌, arith}
use Rattle.pc_syntax.specs.Written.{written, not_, forall_, exists_}
use Rattle.uspec_parser.specs.{Terminals.{Lexeme}, Operands.{only, chain, formula_of}, Grouping.{operands_before}, declared.operands.Link.{Link}}
use Rattle.uspec_parser.specs.Descent.{start, next, connective, Atom, Operand, Row, Tail}
use Rattle.uspec_parser.proofs.Shorter.{operand_no_longer, behind_connective, behind_no_longer}
use Rattle.uspec_parser.proofs.Steps.{row_pushed, ok_map, negated, bracketed, bound, atom, RowOf}
use Rattle.uspec_parser.proofs.cursor.Cursor.+formula.Goals as goal

pub operand-returns-in_ok-inner-in-Not : goal.operand-returns-in_ok-inner-in-Not
operand-returns-in_ok-inner-in-Not t c =
    let inner = written c.in_ok-inner-in-Not.inner in
    ok_map c.negation.result (λ f. written f ≡ not_ inner) (λ f. Operand c.args.self.now (written f) c.operand.new.self) c.negation.ensures
    (λ f e. negated c.args.self.now c.skip.new.self c.operand.new.self inner (written f)
    (sym c.next.ensures ∙ c.in-Not.is) c.skip.ensures c.in_ok-inner-in-Not.ensures e)

pub operand-returns-in_ok-inner-in-Open : goal.operand-returns-in_ok-inner-in-Open
operand-returns-in_ok-inner-in-Open t c =
    bracketed c.args.self.now c.skip-in-Open.new.self c.formula.new.self c.skip-in-Open-2.new.self (written c.in_ok-inner-in-Open.inner)
    (sym c.next.ensures ∙ c.in-Open.is) c.skip-in-Open.ensures c.in_ok-inner-in-Open.ensures c.skip-in-Open-2.ensures

pub operand-returns-in_ok-head-in-Forall : goal.operand-returns-in_ok-head-in-Forall
operand-returns-in_ok-head-in-Forall t c =
    let h = c.in_ok-head-in-Forall.head in
    let body = written c.in_ok-head-in-Forall.body in
    ok_map c.forall.result (λ f. written f ≡ forall_ h.at h.sort h.name body) (λ f. Operand c.args.self.now (written f) c.quantified.new.self)
    c.forall.ensures
    (λ f e. bound true c.args.self.now c.quantified.new.self body (written f) h (ap start (sym c.next.ensures ∙ c.in-Forall.is))
    c.in_ok-head-in-Forall.ensures.head c.in_ok-head-in-Forall.ensures.body e)

pub operand-returns-in_ok-head-in-Exists : goal.operand-returns-in_ok-head-in-Exists
operand-returns-in_ok-head-in-Exists t c =
    let h = c.in_ok-head-in-Exists.head in
    let body = written c.in_ok-head-in-Exists.body in
    ok_map c.exists.result (λ f. written f ≡ exists_ h.at h.sort h.name body) (λ f. Operand c.args.self.now (written f) c.quantified-in-Exists.new.self)
    c.exists.ensures
    (λ f e. bound false c.args.self.now c.quantified-in-Exists.new.self body (written f) h (ap start (sym c.next.ensures ∙ c.in-Exists.is))
    c.in_ok-head-in-Exists.ensures.head c.in_ok-head-in-Exists.ensures.body e)

pub operand-returns-in_default : goal.operand-returns-in_default
operand-returns-in_default t c =
    ok_map c.atom.result (λ f. Atom (next c.args.self.now) c.args.self.now (written f) c.atom.new.self)
    (λ f. Operand c.args.self.now (written f) c.atom.new.self)
    c.atom.ensures
    (λ f a. atom c.next.result c.args.self.now c.atom.new.self (written f) c.next.ensures c.in_default.not-Not
    c.in_default.not-Open c.in_default.not-Forall c.in_default.not-Exists a)

pub formula-loop-connective-init : goal.formula-loop-connective-init
formula-loop-connective-init t c = (
  operand_no_longer c.in_ok-last.ensures,
  λ more rest tail.
      subst (λ (js : List Link). Row c.args.self.now (operands_before js more) rest) (sym c.new-operands.ensures.items)
      (Row.row c.in_ok-last.ensures tail),
)

pub formula-loop-connective-smaller : goal.formula-loop-connective-smaller
formula-loop-connective-smaller t c =
    let first = behind_connective c.loop-connective.self c.in-Some.connective (ap connective (sym c.next.ensures) ∙ c.in-Some.ensures) in
    let left = ap length c.skip.ensures in
    let after = operand_no_longer c.in_ok-last-2.ensures in
    let all : length c.operand-in-Some.new.self < length c.loop-connective.self = omega arith in
    all

pub formula-loop-connective-preserved : goal.formula-loop-connective-preserved
formula-loop-connective-preserved t c =
    let first = behind_no_longer c.loop-connective.self in
    let left = ap length c.skip.ensures in
    let after = operand_no_longer c.in_ok-last-2.ensures in
    let op = c.in-Some.connective in
    let last = written c.loop-connective.last in
    let items = c.loop-connective.operands.items in
    let j : Link = record { operand = c.loop-connective.last; connective = c.in-Some.connective } in (
      omega (arith, c.loop-connective.invariant.0),
      λ more rest tail.
          let operand = subst (λ (xs : List Lexeme). Operand xs (written c.in_ok-last-2.last) c.operand-in-Some.new.self)
          c.skip.ensures c.in_ok-last-2.ensures in
          let longer = Tail.goes_on {w = last} op (ap connective (sym c.next.ensures) ∙ c.in-Some.ensures) operand tail in
          let all = c.loop-connective.invariant.1 (chain last op more) rest longer in
          row_pushed c.args.self.now rest c.push.new.self.items items j more c.in_ok-push.ensures.items all,
    )

pub formula-returns : goal.formula-returns
formula-returns t c =
    let last = written c.loop-connective.last in
    let l = operands_before c.loop-connective.operands.items (only last) in
    let ended = Tail.ends {w = last} (ap connective (sym c.next.ensures) ∙ c.in_default.ensures) in
    let row = c.loop-connective.invariant.1 (only last) c.loop-connective.self ended in
    ok_map c.formula_of.result (λ f. written f ≡ formula_of l) (λ f. RowOf c.args.self.now (written f) c.loop-connective.self)
    c.formula_of.ensures (λ f e. (l, row, e))
