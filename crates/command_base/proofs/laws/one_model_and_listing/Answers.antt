use Rattle.command_base.proofs.{ListingForm.{listing_form}, OneCase.{one_said}}
use Rattle.command_base.proofs.laws.one_model_and_listing.Goals as goal

pub returns : goal.returns
returns c = one_said listing_form
