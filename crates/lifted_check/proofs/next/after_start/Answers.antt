use Rattle.std.proofs.Common.{ap, true, false, ◌∙◌, List, ℕ, ◌∷◌, [], ◌++◌}
use Rattle.pc_common.proofs.Bools.{clash}
use Rattle.lifted_check.proofs.Texts.{start_next}
use Rattle.lifted_check.proofs.next.after_start.Goals as goal

pub returns-then-is_first : goal.returns-then-is_first
returns-then-is_first c = λ q lines st.
    ap (λ (ls : List (List ℕ)). ls ++ c.args.line.now ∷ []) st ∙ ap (λ (l : List ℕ). l ∷ []) (c.is_first.ensures.0 c.if-is_first.true)

pub returns-else-is_first : goal.returns-else-is_first
returns-else-is_first c = λ q lines st begins. clash (c.is_first.ensures.1 (start_next q lines c.args.line.now st begins)) c.if-is_first.false
