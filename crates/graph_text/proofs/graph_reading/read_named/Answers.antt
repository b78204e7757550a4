use Rattle.std.proofs.Common.{refl, subst}
use Rattle.pc_common.specs.Lines.{Names}
use Rattle.pc_ground.specs.NodeForm.{AreReadable}
use Rattle.graph_text.{specs.GraphReading.{AreGraphLines}, proofs.WholeGraphs.{whole_read, whole_again, refused_read, refused_again}}
use Rattle.graph_text.proofs.graph_reading.read_named.Goals as goal

pub returns-in-Whole-clause-read : goal.returns-in-Whole-clause-read
returns-in-Whole-clause-read g c =
    let h = c.in-Whole.ensures _ _ _ (c.in_ok-feed.ensures.took _ _ _ c.new-2.ensures) in
    whole_read g.K.Named.names c.args.body.now h.1.made.lines c.in-Whole.judge.graph c.into_graph.result c.into_graph.ensures.nodes c.into_graph.ensures.edges
    h.1.made.text_is h.1.stand.1.taken

pub returns-in-Whole-clause-again : goal.returns-in-Whole-clause-again
returns-in-Whole-clause-again g c =
    let h = c.in-Whole.ensures _ _ _ (c.in_ok-feed.ensures.took _ _ _ c.new-2.ensures) in
    whole_again g.K.Named.names c.args.body.now h.1.made.lines c.in-Whole.judge.graph c.into_graph.result c.into_graph.ensures.nodes c.into_graph.ensures.edges
    h.1.made.are_lines h.1.made.text_is h.1.stand.1

pub returns-in-Refused-clause-read : goal.returns-in-Refused-clause-read
returns-in-Refused-clause-read g c =
    refused_read (AreGraphLines g.K.Named.names) (AreGraphLines g.K.Named.names) _ c.args.body.now c.in-Refused.line refl
    (c.in-Refused.ensures _ _ _ (c.in_ok-feed.ensures.took _ _ _ c.new-2.ensures))

pub returns-in-Refused-clause-again : goal.returns-in-Refused-clause-again
returns-in-Refused-clause-again g c =
    let P : Names → Type 0 = λ ns. AreReadable ns in
    λ graph of_text. refused_again g.K.Named.names c.args.body.now c.in-Refused.line graph (subst P c.requires c.show_readable.ensures)
    (refused_read (AreGraphLines g.K.Named.names) (AreGraphLines g.K.Named.names) _ c.args.body.now c.in-Refused.line refl
    (c.in-Refused.ensures _ _ _ (c.in_ok-feed.ensures.took _ _ _ c.new-2.ensures))) of_text
