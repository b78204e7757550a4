use Rattle.std.proofs.{Common.{◌≡◌}, lemmas.Map.Entries.{entries_from_clone}}
use Rattle.pc_case.proofs.stated.ValueTable.copy.Goals as goal

pub invariant_of-result : goal.invariant_of-result
invariant_of-result c = λ pa.
    let entries : c.in_ok-clone.field-0.entries ≡ c.self.inside.by_address.entries =
    entries_from_clone _ _ (λ x y e. e) (λ v w e. e) c.self.inside.by_address.entries c.in_ok-clone.field-0.entries c.in_ok-clone.ensures.cases in
    rw (entries, c.from_vec.ensures, c.in_ok-listed.ensures.items, c.as_slice.ensures.value) (c.self.invariant pa)
