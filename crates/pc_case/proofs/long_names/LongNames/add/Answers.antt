use Rattle.std.{proofs.Common.{rules, ◌≡◌, ◌&&◌, ◌||◌, true, false, sym, ap, ◌∙◌, Bool}, specs.{Prelude.{is_ok}, List.{list_any}, Map.{keys_of}}}
use Rattle.pc_common.specs.Names.{same_name}
use Rattle.pc_case.{specs.NameSets.{is_known}, proofs.Lookups.{name_written, name_first, key_put, or_false}}
use Rattle.pc_case.proofs.long_names.LongNames.add.Goals as goal

pub returns-in_err-insert-in-Some : goal.returns-in_err-insert-in-Some
returns-in_err-insert-in-Some c = λ other.
    let done : Bool = is_ok c.from_residual-in_err-insert-in-Some.result in
    let failed : done ≡ false = search rules in
    let name = c.args.name.now in let old = c.in-Some.known.now in
    name_written c.args.self.now.by_length.entries _ name other old c.insert.new.self done (c.get_mut.follows.holds c.insert.new.self).0
    (sym c.in-Some.ensures.value)
    (ap (λ es. list_any (λ k. same_name other k.items) (keys_of es)) c.in_err-insert-in-Some.ensures.err
    ∙ or_false (is_known old other) ∙ ap (λ b. is_known old other || (b && same_name name other)) (sym failed))

pub returns-in_ok-insert-in-Some : goal.returns-in_ok-insert-in-Some
returns-in_ok-insert-in-Some c = λ other.
    let name = c.args.name.now in let old = c.in-Some.known.now in
    name_written c.args.self.now.by_length.entries _ name other old c.insert.new.self true (c.get_mut.follows.holds c.insert.new.self).0
    (sym c.in-Some.ensures.value)
    (key_put (λ k. k.items) other old c.insert.new.self c.in_ok-name.name name c.in_ok-name.ensures.items c.in_ok-insert-in-Some.ensures.updates)

pub returns-in_ok-insert-in-None-2 : goal.returns-in_ok-insert-in-None-2
returns-in_ok-insert-in-None-2 c = λ other.
    let name = c.args.name.now in let set = c.insert-in-None.new.self in
    name_first c.args.self.now.by_length c.insert-in-None-2.new.self name other set (sym c.in-None.ensures.value)
    (rw (sym c.get_mut.follows.holds-at-none) c.in_ok-insert-in-None-2.ensures.updates)
    (key_put (λ k. k.items) other c.new-known.result set c.in_ok-name.name name c.in_ok-name.ensures.items c.in_ok-insert-in-None.ensures.updates
    ∙ ap (λ es. list_any (λ k. same_name other k.items) (keys_of es) || same_name name other) c.new-known.ensures.empty)
