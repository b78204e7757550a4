use Rattle.std.{proofs.{Common.{sym, ◌∙◌, arith}, lemmas.Bool.{MatchBool-at_false}}, specs.Prelude.{MatchOption}}
use Rattle.pc_ground.specs.{declared.literal.Literal.TheVariants.{Edge}, Literals.{IsConsistent}}
use Rattle.order_graph.{specs.Clashes.{JoinsNone, IsClash}, proofs.{IsClash.{start_clash, end_clash, cycle_clash}, OneMore.{more}, Results.{if_ok}}}
use Rattle.order_graph.proofs.{Represents.{leads_reach}, TakesEdge.{known_consistent}, ClashOf.{edge_free, pairs_told, none_to}}
use Rattle.order_graph.proofs.clashes.edge_clash.Goals as goal

pub returns-then-reaches : goal.returns-then-reaches
returns-then-reaches c =
    let wide = c.requires.sized.1 in let b_in = c.requires.b_in in
    known_consistent c.args.literals.now c.args.a c.args.b c.requires.represents.consistent
    ((c.requires.represents.reach c.args.a c.args.b c.requires.a_in (omega arith)).0 (sym c.reaches.ensures ∙ c.if-reaches.true))

pub returns-then-is_missing : goal.returns-then-is_missing
returns-then-is_missing c =
    start_clash c.args.literals.now c.args.a c.args.b
    ((c.requires.represents.missing c.args.a c.requires.a_in).0 (sym c.is_missing.ensures ∙ c.if-is_missing.true))

pub returns-then-is_missing-2 : goal.returns-then-is_missing-2
returns-then-is_missing-2 c =
    end_clash c.args.literals.now c.args.a c.args.b
    ((c.requires.represents.missing c.args.b c.requires.b_in).0 (sym c.is_missing-2.ensures ∙ c.if-is_missing-2.true))

pub way-requires-clause-there : goal.way-requires-clause-there
way-requires-clause-there c =
    let wide = c.requires.sized.1 in let a_in = c.requires.a_in in
    (leads_reach c.args.nodes c.args.table.now c.args.literals.now c.requires.represents c.args.b c.args.a c.requires.b_in (omega arith)).0
    (sym c.leads_to.ensures ∙ c.if-leads_to.true)

pub returns-then-leads_to : goal.returns-then-leads_to
returns-then-leads_to c = rw c.from_vec.ensures (cycle_clash c.args.literals.now c.args.a c.args.b c.in_ok-cycle.cycle.items c.in_ok-cycle.ensures)

pub returns-then-not-joins_denied : goal.returns-then-not-joins_denied
returns-then-not-joins_denied c =
    let ls = c.args.literals.now in
    let told = pairs_told c.args.nodes c.args.table.now ls c.args.a c.args.b c.requires.represents c.requires.sized.1 c.requires.a_in c.requires.b_in
    (sym c.is_missing.ensures ∙ c.if-is_missing.false) (sym c.is_missing-2.ensures ∙ c.if-is_missing-2.false) (sym c.leads_to.ensures ∙ c.if-leads_to.false)
    c.joins_denied.result c.joins_denied.ensures in
    let C : Type 0 = IsConsistent (more ls (Edge c.args.a c.args.b)) in
    MatchBool-at_false (C → ⊥) C c.if-not-joins_denied.true told

pub returns : goal.returns
returns c =
    let v = c.args.table.now in let ls = c.args.literals.now in
    let ms = more ls (Edge c.args.a c.args.b) in
    if_ok (λ found. MatchOption found (JoinsNone ls c.args.a c.args.b) (IsClash ms)) (λ found. MatchOption found (IsConsistent ms) (IsClash ms))
    c.path_clash.result c.path_clash.ensures
    (λ found h. none_to (IsClash ms) found h
    (edge_free c.args.nodes v ls c.args.a c.args.b c.requires.represents c.requires.sized.1 c.requires.a_in c.requires.b_in
    (sym c.is_missing.ensures ∙ c.if-is_missing.false) (sym c.is_missing-2.ensures ∙ c.if-is_missing-2.false) (sym c.leads_to.ensures ∙ c.if-leads_to.false)))
