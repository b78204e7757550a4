use Rattle.refutation.specs.Steps.{plain_leaf}
use Rattle.tree_check.proofs.Steps.{stands_open, no_close, did_close}
use Rattle.tree_check.proofs.branches.Branches.close.Goals as goal

pub returns-then-not-closes : goal.returns-then-not-closes
returns-then-not-closes c = λ v t opens st.
    let op = stands_open c.args.self.now _ _ _ _ _ c.self.view_is c.if-not-self.false v t opens st in
    no_close v t (plain_leaf c.args.leaf) c.self.inside.facts _ opens op.2
    (λ ps has closes. let yes = (c.closes.ensures t ps op.1 has).1 closes in let no = c.if-not-closes.true in cc)

pub returns : goal.returns
returns c = λ v t opens st.
    let op = stands_open c.args.self.now _ _ _ _ _ c.self.view_is c.if-not-self.false v t opens st in
    did_close v t (plain_leaf c.args.leaf) c.self.inside.facts _ opens c.args.self.now c.open_next.new.self st op.2
    (λ ps has. (c.closes.ensures t ps op.1 has).0 c.if-not-closes.false) (λ ps rest old. c.in_ok-open_next.ensures v t ps rest old)
