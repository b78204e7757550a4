use Rattle.std.proofs.{Common.{[], ◌∷◌, sym, subst, ◌∙◌, List}, lemmas.List.{append-nil}}
use Rattle.pc_syntax.specs.declared.term.Arg.{Arg}
use Rattle.uspec_parser.{specs.{Terminals.{Lexeme}, Descent.{Arguments, argument, Arguments.{ends, goes_on}}}, proofs.Pushed.{pushed, all_shared}}
use Rattle.uspec_parser.proofs.cursor.Cursor.arguments.Goals as goal

pub loop-alloc-preserved : goal.loop-alloc-preserved
loop-alloc-preserved c = λ more rest others.
    let left = subst (λ (xs : List Lexeme). Arguments xs more rest) c.skip.ensures others in
    let all = c.loop-alloc.invariant (argument c.loop-alloc.self ∷ more) rest
    (goes_on (sym c.is_argument_next.ensures ∙ c.loop-alloc-test.true) left) in
    subst (λ (args : List Arg). Arguments c.args.self.now args rest)
    (pushed c.push.new.self c.loop-alloc.args more c.in_ok-argument.field-0 (argument c.loop-alloc.self) c.in_ok-push.ensures c.in_ok-argument.ensures) all

pub returns : goal.returns
returns c =
    let all =
    subst (λ (args : List Arg). Arguments c.args.self.now args c.loop-alloc.self) (append-nil c.loop-alloc.args)
    (c.loop-alloc.invariant [] c.loop-alloc.self (ends (sym c.is_argument_next.ensures ∙ c.loop-alloc-test.false))) in
    all_shared c.from_listed.result c.loop-alloc.args (λ (args : List Arg). Arguments c.args.self.now args c.loop-alloc.self) all c.from_listed.ensures
