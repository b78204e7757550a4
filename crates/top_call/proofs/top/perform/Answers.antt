use Rattle.std.proofs.Common.{refl}
use Rattle.command_base.specs.{Inputs.{plain_inputs}, Command.{check, verify, find_core, check_listing, verify_listing, sweep_rows, verify_lifted, ask_query, lift_tree}}
use Rattle.top_call.proofs.WordsOutcomes.{reading_told, gen_told}
use Rattle.top_call.proofs.top.perform.Goals as goal

pub returns-in-Check : goal.returns-in-Check
returns-in-Check g c = rw c.in-Check.is (reading_told (check c.in-Check.version (plain_inputs c.in-Check.inputs)) refl c.check.ensures.outcome c.answer.ensures)

pub returns-in-Verify : goal.returns-in-Verify
returns-in-Verify g c = rw c.in-Verify.is (reading_told (verify (plain_inputs c.in-Verify.inputs) c.in-Verify.certificate.now) refl c.verify.ensures c.answer-in-Verify.ensures)

pub returns-in-Core : goal.returns-in-Core
returns-in-Core g c = rw c.in-Core.is (reading_told (find_core (plain_inputs c.in-Core.inputs)) refl c.find_core.ensures.outcome c.answer-in-Core.ensures)

pub returns-in-CheckListing : goal.returns-in-CheckListing
returns-in-CheckListing g c = rw c.in-CheckListing.is (reading_told (check_listing (plain_inputs c.in-CheckListing.inputs)) refl c.check-in-CheckListing.ensures.outcome c.answer-in-CheckListing.ensures)

pub returns-in-VerifyListing : goal.returns-in-VerifyListing
returns-in-VerifyListing g c = rw c.in-VerifyListing.is (reading_told (verify_listing (plain_inputs c.in-VerifyListing.inputs) c.in-VerifyListing.certificate.now) refl c.verify-in-VerifyListing.ensures c.answer-in-VerifyListing.ensures)

pub returns-in-Sweep : goal.returns-in-Sweep
returns-in-Sweep g c = rw c.in-Sweep.is (reading_told (sweep_rows (plain_inputs c.in-Sweep.inputs)) refl c.sweep_files.ensures.outcome c.answer-in-Sweep.ensures)

pub returns-in-VerifyLifted : goal.returns-in-VerifyLifted
returns-in-VerifyLifted g c = rw c.in-VerifyLifted.is (reading_told (verify_lifted (plain_inputs c.in-VerifyLifted.inputs) c.in-VerifyLifted.certificate.now) refl c.verify_lifted.ensures c.answer-in-VerifyLifted.ensures)

pub returns-in-Ask : goal.returns-in-Ask
returns-in-Ask g c = rw c.in-Ask.is (reading_told (ask_query (plain_inputs c.in-Ask.inputs) c.in-Ask.query.now) refl c.ask_files.ensures.outcome c.answer-in-Ask.ensures)

pub returns-in-Lift : goal.returns-in-Lift
returns-in-Lift g c = rw c.in-Lift.is (reading_told (lift_tree (plain_inputs c.in-Lift.inputs) c.in-Lift.certificate.now) refl c.lift_files.ensures c.answer-in-Lift.ensures)

pub returns-in-Gen : goal.returns-in-Gen
returns-in-Gen g c = rw c.in-Gen.is (gen_told c.in-Gen.n c.generate.ensures c.answer-in-Gen.ensures)
