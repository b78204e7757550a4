use Rattle.std.proofs.{Common.{◌∙◌}, lemmas.List.{length-map}}
use Rattle.axiom_core.proofs.{Numbered.{kept_flagged}, SameCores.{core_of_flags}}
use Rattle.axiom_core.proofs.cores.core_of.Goals as goal

pub refuted_by-requires-clause-size : goal.refuted_by-requires-clause-size
refuted_by-requires-clause-size g c = c.requires.size ∙ length-map c.args.front.now.axioms _

pub refuted_by-requires-clause-forbidden : goal.refuted_by-requires-clause-forbidden
refuted_by-requires-clause-forbidden g c = c.requires.forbidden

pub all_shown-requires-clause-tried : goal.all_shown-requires-clause-tried
all_shown-requires-clause-tried g c = c.requires

pub all_shown-requires-clause-flagged : goal.all_shown-requires-clause-flagged
all_shown-requires-clause-flagged g c = kept_flagged c.args.flags.now c.in_ok-kept.kept c.in_ok-kept.ensures

pub returns : goal.returns
returns g c =
    core_of_flags c.args.front.now c.args.flags.now c.in_ok-kept.kept c.in_ok-refuted.refuted c.in_ok-without.without c.requires c.in_ok-kept.ensures
    c.in_ok-refuted.ensures c.in_ok-without.ensures
