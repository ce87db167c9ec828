use Rattle.std.proofs.Common.{◌∙◌}
use Rattle.sha256_lanes.proofs.Ends.{end_is}
use Rattle.sha256_lanes.proofs.padding.padded_end.Goals as goal

pub returns : goal.returns
returns c = end_is c.args.len c.length_place-place.result _ _ c.length_place-place.ensures.place
    (c.copy_from_slice.ensures.after ∙ c.to_be_bytes-bits.ensures)
