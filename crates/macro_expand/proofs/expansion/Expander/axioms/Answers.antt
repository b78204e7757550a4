use Rattle.std.proofs.Common.{subst, arith}
use Rattle.pc_syntax.specs.{Written.{Written, written_item}, Expansion.{IsExpanded}}
use Rattle.macro_expand.{specs.Tables.{expansion_by_all, OfAxiom}, proofs.Expansions.{item_of_axiom}}
use Rattle.macro_expand.proofs.expansion.Expander.axioms.Goals as goal

pub expand_body-requires-clause-expanded : goal.expand_body-requires-clause-expanded
expand_body-requires-clause-expanded c =
    let P : Written → Type 0 = λ w. IsExpanded (expansion_by_all c.args.self.now.macros.now w) in
    subst (λ x. OfAxiom P (written_item x)) c.in-Axiom.is
    (item_of_axiom P c.args.items.now c.loop-item.item-index c.item-item.result (omega arith) c.item-item.is c.requires.expanded)
