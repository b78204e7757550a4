use Rattle.std.proofs.Common.{◌≡◌, map, List, subst, ◌∙◌}
use Rattle.ll_grammar.specs.{Rules.{Derives}, FirstFault.{IsAnswer}}
use Rattle.litmus_reader.specs.{Terminals.{terminal_of as terminal_spec}, Phrases.{rules}, declared.terminal.Terminal.{Terminal}}
use Rattle.litmus_reader.{specs.declared.phrase.Phrase.TheVariants.{Test}, proofs.SyntaxFaults.{answer}}
use Rattle.litmus_reader.proofs.syntax.syntax_fault.Goals as goal

pub returns : goal.returns
returns c =
    let read : c.deref.result.now ≡ map terminal_spec c.args.tokens.now = c.deref.ensures.value ∙ c.in_ok-terminals.ensures in
    rw c.fault_place.ensures
    (answer c.args.tokens.now c.in_ok-first_fault.field-0
    (subst (λ (cs : List Terminal). IsAnswer (Derives rules Test) cs c.in_ok-first_fault.field-0) read c.in_ok-first_fault.ensures))
