use Rattle.std.proofs.Common.{sym, ◌∙◌}
use Rattle.pc_ground.{specs.Keys.{key_node}, proofs.{Cuts.{words_form, words_cuts, no_name}, ReadableNodes.{readable, named_text, named_in, named_by, formed}}}
use Rattle.pc_ground.proofs.node_text.NodeText.read.Goals as goal

pub returns-in_default-clause-readable : goal.returns-in_default-clause-readable
returns-in_default-clause-readable c = readable c.args.self.now c.show_kept.ensures

pub returns-in_default-clause-again : goal.returns-in_default-clause-again
returns-in_default-clause-again c = λ a inside is. c.in_default.ensures (formed c.args.self.now c.args.word.now a c.show_kept.ensures inside is)

pub returns-in-Some-find_node-clause-read : goal.returns-in-Some-find_node-clause-read
returns-in-Some-find_node-clause-read c = (
  named_in c.args.self.now c.in-Some.words (key_node c.in-Some-find_node.key) c.in-Some-find_node.key.in_range.1 c.in-Some-find_node.ensures,
  named_text c.args.self.now c.args.word.now c.in-Some.words (key_node c.in-Some-find_node.key) c.show_kept.ensures.stages
      c.in-Some.ensures c.in-Some-find_node.ensures,
)

pub returns-in-Some-find_node-clause-readable : goal.returns-in-Some-find_node-clause-readable
returns-in-Some-find_node-clause-readable c = readable c.args.self.now c.show_kept.ensures

pub returns-in-Some-find_node-clause-again : goal.returns-in-Some-find_node-clause-again
returns-in-Some-find_node-clause-again c = λ a inside is.
    (readable c.args.self.now c.show_kept.ensures).apart (key_node c.in-Some-find_node.key) a
    (named_in c.args.self.now c.in-Some.words (key_node c.in-Some-find_node.key) c.in-Some-find_node.key.in_range.1 c.in-Some-find_node.ensures) inside
    (sym (named_text c.args.self.now c.args.word.now c.in-Some.words (key_node c.in-Some-find_node.key) c.show_kept.ensures.stages
    c.in-Some.ensures c.in-Some-find_node.ensures) ∙ is)

pub returns-in-None-clause-read : goal.returns-in-None-clause-read
returns-in-None-clause-read c = (
  words_form c.in-Some.ensures (sym c.is_name.ensures.value ∙ c.if-is_name.true),
  λ a inside is. c.in-None.ensures a inside.core_in_range
      (named_by c.args.self.now c.args.word.now c.in-Some.words a c.show_kept.ensures.small c.show_kept.ensures.stages c.in-Some.ensures inside is),
)

pub returns-in-None-clause-readable : goal.returns-in-None-clause-readable
returns-in-None-clause-readable c = readable c.args.self.now c.show_kept.ensures

pub returns-in-None-clause-again : goal.returns-in-None-clause-again
returns-in-None-clause-again c = λ a inside is.
    c.in-None.ensures a inside.core_in_range
    (named_by c.args.self.now c.args.word.now c.in-Some.words a c.show_kept.ensures.small c.show_kept.ensures.stages c.in-Some.ensures inside is)

pub returns-in-None-2-clause-read : goal.returns-in-None-2-clause-read
returns-in-None-2-clause-read c = no_name (words_cuts c.in-Some.ensures) (sym c.is_name.ensures.value ∙ c.if-is_name.false)

pub returns-in-None-2-clause-readable : goal.returns-in-None-2-clause-readable
returns-in-None-2-clause-readable c = readable c.args.self.now c.show_kept.ensures

pub returns-in-None-2-clause-again : goal.returns-in-None-2-clause-again
returns-in-None-2-clause-again c = λ a inside is.
    c.in-None-2.ensures a inside.core_in_range
    (named_by c.args.self.now c.args.word.now c.in-Some.words a c.show_kept.ensures.small c.show_kept.ensures.stages c.in-Some.ensures inside is)
