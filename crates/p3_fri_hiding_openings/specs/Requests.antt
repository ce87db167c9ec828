-- Requests to a scheme that hides: as requests to the scheme inside it, and what an opening leaves
-- of their data.
use Rattle.std.specs.Prelude.{true, if◌then◌else◌}
use Rattle.p3_pcs.specs.declared.requests.OpeningRequest.{OpeningRequest}
use Rattle.p3_pcs.specs.Requests.{Request}
use Rattle.p3_fri_hiding_openings.specs.declared.data.HidingFriPcsProverData.{HidingFriPcsProverData}

-- what an opening leaves of a datum: private data counts as opened, preprocessing is as it was
abbrev pub after_opening : {T : Type 0} → HidingFriPcsProverData T → HidingFriPcsProverData T
after_opening d = record d { opened = if d.preprocessed then d.opened else true }

module _ {T E : Type 0} where
  -- a request for the data inside
  abbrev pub inside : Request (HidingFriPcsProverData T) E → Request T E
  inside r = record { datum = r.datum.inner; points = r.points }

  -- the same behind the same borrow
  abbrev pub inner_request : OpeningRequest (HidingFriPcsProverData T) E → OpeningRequest T E
  inner_request r = record {
    prover_data = record {
      ref_ptr = r.prover_data.ref_ptr;
      ghost_name = r.prover_data.ghost_name;
      now = r.prover_data.now.inner;
    };
    points = r.points;
  }
