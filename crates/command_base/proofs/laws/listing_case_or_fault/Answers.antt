use Rattle.command_base.proofs.{ListingForm.{listing_form}, OneCase.{case_or_first_fault}}
use Rattle.command_base.proofs.laws.listing_case_or_fault.Goals as goal

pub returns : goal.returns
returns c = case_or_first_fault listing_form
