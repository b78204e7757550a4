use Rattle.command_base.proofs.{ListingForm.{listing_form}, OneCase.{one_first_fault}}
use Rattle.command_base.proofs.laws.one_listing_fault.Goals as goal

pub returns : goal.returns
returns c = one_first_fault listing_form
