use Rattle.std.proofs.Common.{◌∙◌, ap}
use Rattle.pc_ground.{specs.{Keys.{key_node}, Numbers.{seen}}, proofs.{Nodes.{key_eq}, MapKeys.{keys_put}, KeyNumbers.{seen_key, few_keys}}}
use Rattle.pc_ground.proofs.numbering.Numbering.see.Goals as goal

pub returns : goal.returns
returns c =
    let put = keys_put key_eq c.args.key tt c.self.inside.keys.entries in
    rw (c.in_ok-insert.ensures.entries, put) (seen_key _ c.args.key ∙ ap (λ ns. seen ns (key_node c.args.key)) c.self.view_is)

pub invariant_of-self-2 : goal.invariant_of-self-2
invariant_of-self-2 c = few_keys _ c.in_ok-insert.ensures.unique
