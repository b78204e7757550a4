-- What the code answers at a token.
use Rattle.std.specs.Prelude.{◌≡◌, Option}
use Rattle.x86_litmus.specs.{Spots.{Step}, Plain.{plain_spot, plain_some}, declared.{item.Item.{Item}, spot.Spot.{Spot}}}

-- the answer is this step
abbrev pub IsStep : Step → Spot × Option Item → Type 0
IsStep s r = (plain_spot r.0 ≡ s.next) × (plain_some r.1 ≡ s.item)
