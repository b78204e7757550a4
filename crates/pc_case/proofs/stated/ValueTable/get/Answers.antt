use Rattle.std.{proofs.Common.{map, ap, ◌∙◌}, specs.Option.{option_map}}
use Rattle.pc_case.specs.{Plain.{address_at, plain_value, stated_value}, contracts.address.AddressPartialEq.TheImpl.{eq-value as address_eq}}
use Rattle.pc_case.proofs.Values.{lookup_stated, address_eq_flips}
use Rattle.pc_common.specs.Addresses.{stated_at}
use Rattle.pc_case.proofs.stated.ValueTable.get.Goals as goal

pub returns : goal.returns
returns c =
    ap (option_map plain_value) (c.copied.ensures ∙ c.get.ensures.value)
    ∙ lookup_stated address_eq.it address_eq_flips c.args.pa c.self.inside.by_address.entries (map stated_value c.self.inside.listed) c.self.invariant
    ∙ ap (λ ss. stated_at ss (address_at c.args.pa)) c.self.view_is
