use Rattle.std.{proofs.Common.{◌≡◌, List, Option, subst, sym, ◌∙◌}, specs.Map.{lookup}}
use Rattle.pc_case.specs.{declared.stated.Stated.{Stated}, contracts.address.AddressPartialEq.TheImpl.{eq-value as address_eq}}
use Rattle.pc_common.specs.declared.value.Value.{Value}
use Rattle.litmus_reader.{specs.Values.{IsValueAt}, proofs.ValueFacts.{value_at}}
use Rattle.litmus_reader.proofs.values.Values.get.Goals as goal

pub returns : goal.returns
returns c =
    let es = c.self.inside.by_address.entries in
    let found : c.copied.result ≡ lookup (address_eq.it c.args.pa) es = c.copied.ensures ∙ c.get.ensures.value in
    subst (λ (o : Option Value). IsValueAt c.args.self.now c.args.pa o) (sym found)
    (subst (λ (lines : List Stated). IsValueAt lines c.args.pa (lookup (address_eq.it c.args.pa) es)) c.self.view_is (value_at c.args.pa es))
