use Rattle.std.proofs.{Common.{refl}, lemmas.Result.{err_from_is_err_and}}
use Rattle.x86_litmus.proofs.CaseOps.{case_ops}
use Rattle.pc_front.proofs.PartsOf.{axioms_within, are_stages, parts_are, front_is}
use Rattle.command_base.{specs.Fronts.{front_of_parts}, proofs.ListingForm.{model_end, fault_end}}
use Rattle.command_base.proofs.listing_parts.read_listing_parts.Goals as goal

pub returns-in_err-model-clause-err : goal.returns-in_err-model-clause-err
returns-in_err-model-clause-err c =
    let end = err_from_is_err_and c.from_residual.result c.from_residual.ensures.1 in
    rw (end.1, end.2) (model_end c.args.model_bytes.now c.args.bytes.now c.in_err-model.field-0.0 c.in_err-model.ensures.err)

pub returns-in-Err-clause-err : goal.returns-in-Err-clause-err
returns-in-Err-clause-err c =
    let ok = c.in_ok-model.ensures.ok in
    rw c.end_of.ensures
    (fault_end c.args.model_bytes.now c.args.bytes.now ok.0 c.in-Err.fault (record { model = ok.1; no_fault = ok.2.no_fault }) c.in-Err.ensures.err)

pub parts_of-requires-clause-named : goal.parts_of-requires-clause-named
parts_of-requires-clause-named c =
    let ok = c.in_ok-model.ensures.ok in are_stages ok.0 ok.2.no_fault c.in_ok-model.model ok.2 ok.1

pub parts_of-requires-clause-within : goal.parts_of-requires-clause-within
parts_of-requires-clause-within c =
    let ok = c.in_ok-model.ensures.ok in axioms_within ok.0 ok.2.no_fault c.in_ok-model.model ok.2

pub returns-in-Ok-clause-ok : goal.returns-in-Ok-clause-ok
returns-in-Ok-clause-ok c =
    let ok = c.in_ok-model.ensures.ok in
    let is = c.parts_of.ensures in
    let parts = c.parts_of.result in record {
      m = ok.0;
      c = c.in-Ok.case;
      says_model = record { model = ok.1; no_fault = ok.2.no_fault };
      says_case = c.in-Ok.ensures.ok;
      front_of =
          front_is ok.0 c.in-Ok.case parts (front_of_parts parts) (parts_are ok.0 c.in-Ok.case c.in_ok-model.model parts ok.2 is.0 is.1 is.2) refl refl refl;
      kept = case_ops c.args.bytes.now c.in-Ok.case c.in-Ok.ensures.ok;
    }
