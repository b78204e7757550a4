use Rattle.command_base.proofs.{ListingForm.{listing_form}, OneCase.{no_fault_said}}
use Rattle.command_base.proofs.laws.no_listing_fault.Goals as goal

pub returns : goal.returns
returns c = no_fault_said listing_form
