-- Where the first fault is none, none of its parts is one.
use Rattle.std.{proofs.Common.{◌≡◌, Bool, true, false, Option, Some, None, cond, refl}, specs.Option.{option_or}}

module _ {A : Type 0} where
  pub none_first : (a b : Option A) → option_or a b ≡ None → a ≡ None
  none_first None b h = refl
  none_first (Some x) b h = cc

  pub none_second : (a b : Option A) → option_or a b ≡ None → b ≡ None
  none_second None b h = h
  none_second (Some x) b h = cc

  -- a fault that comes where a test is true
  pub none_where : (b : Bool) (x : A) → cond b (Some x) None ≡ None → b ≡ false
  none_where true x h = cc
  none_where false x h = refl

  -- a fault that comes where a test is false
  pub none_unless : (b : Bool) (x : A) → cond b None (Some x) ≡ None → b ≡ true
  none_unless true x h = refl
  none_unless false x h = cc
