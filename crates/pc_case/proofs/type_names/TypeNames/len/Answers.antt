use Rattle.std.proofs.Common.{◌∙◌, sym, ap, length, arith}
use Rattle.pc_case.proofs.Pieces.{length-cuts}
use Rattle.pc_case.proofs.type_names.TypeNames.len.Goals as goal

pub returns-clause-value : goal.returns-clause-value
returns-clause-value c =
    let t = c.self.inside in
    c.len.ensures ∙ t.ends.ok.0 ∙ sym (length-cuts t.bytes.items 0 t.ends.items) ∙ ap length c.self.view_is

pub returns-clause-bound : goal.returns-clause-bound
returns-clause-bound c =
    let t = c.self.inside in
    omega (arith, ap length c.self.view_is, length-cuts t.bytes.items 0 t.ends.items, t.ends.ok, t.ends.small)
