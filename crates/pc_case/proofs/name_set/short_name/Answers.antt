use Rattle.std.proofs.{Common.{◌∙◌, ◌++◌, ap, sym, length, drop, replicate, set, Some, None, if◌then◌else◌}, lemmas.Bool.{le-leb}}
use Rattle.pc_case.{specs.NameSets.{padded}, proofs.ShortNames.{is_padded}}
use Rattle.pc_case.proofs.name_set.short_name.Goals as goal

pub returns : goal.returns
returns c =
    let name = c.args.name.now in let fits = c.if-length-gt15.false in
    ap (λ bytes. Some (set (bytes ++ drop (length name) (replicate 16 0)) 15 (length name))) c.copy_from_slice.ensures.after
    ∙ ap Some (is_padded name fits)
    ∙ ap (λ b. if b then Some (padded name) else None) (sym (le-leb (length name) 15 fits))
