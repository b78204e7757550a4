-- The first fault of two parts, from that of the first.
use Rattle.std.{proofs.Common.{◌≡◌, Option, Some, None, refl}, specs.Option.{option_or}}
use Rattle.pc_syntax.specs.Fault.{Fault}
use Rattle.scope_check.specs.FirstFault.{IsNoneOr}

-- a part without fault is passed
pub pass : (a b : Option Fault) → a ≡ None → option_or a b ≡ b
pass None b h = refl
pass (Some f) b h = cc

-- the fault of the first part is the first
pub or_first : (a b given : Option Fault) → IsNoneOr a given → IsNoneOr (option_or a b) given
or_first a b None h = tt
or_first None b (Some f) h = cc
or_first (Some x) b (Some f) h = h
