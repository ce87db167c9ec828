use Rattle.std.proofs.Common.{◌≡◌, ◌≤◌, ◌+◌, ◌^◌, ℕ, sym}
use Rattle.std.specs.Int.{IsPowerOfTwo}
use Rattle.p3_uni_stark_prover.proofs.Finishing.{refuted}
use Rattle.p3_uni_stark_prover.proofs.Fitting.{power_tested, bound_named, no_power, no_trace}
use Rattle.p3_uni_stark_prover.proofs.Fitting.{fits_exactly}
use Rattle.p3_uni_stark_prover.proofs.room.has_room.Goals as goal

pub returns-then-not-is_power_of_two-clause-exactly :
    goal.returns-then-not-is_power_of_two-clause-exactly
returns-then-not-is_power_of_two-clause-exactly g c =
    no_power g.F.TwoAdicField.TWO_ADICITY c.args.log_blowup c.args.hides c.args.air.now
    c.args.height (refuted c.is_power_of_two.result (IsPowerOfTwo c.args.height)
    (power_tested c.args.height c.is_power_of_two.result c.is_power_of_two.ensures)
    c.if-not-is_power_of_two.true)

pub log2_strict_usize-log_height-requires : goal.log2_strict_usize-log_height-requires
log2_strict_usize-log_height-requires g c = record {
  power_of_two = (power_tested c.args.height c.is_power_of_two.result
      c.is_power_of_two.ensures).0 c.if-not-is_power_of_two.false;
}

pub returns-then-not-are_within-clause-exactly : goal.returns-then-not-are_within-clause-exactly
returns-then-not-are_within-clause-exactly g c =
    no_trace g.F.TwoAdicField.TWO_ADICITY c.args.log_blowup c.args.hides c.args.air.now
    c.args.height c.log2_strict_usize-log_height.result
    (sym c.log2_strict_usize-log_height.ensures.power) c.with_hiding-rows.result
    c.with_hiding-rows.ensures
    (refuted c.are_within.result
    (c.with_hiding-rows.result + c.args.log_blowup ≤ g.F.TwoAdicField.TWO_ADICITY)
    (bound_named c.are_within.result (c.with_hiding-rows.result + c.args.log_blowup)
    c.TWO_ADICITY.result g.F.TwoAdicField.TWO_ADICITY c.TWO_ADICITY.ensures c.are_within.ensures)
    c.if-not-are_within.true)

pub returns-clause-exactly : goal.returns-clause-exactly
returns-clause-exactly g c =
    fits_exactly g.F.TwoAdicField.TWO_ADICITY c.args.log_blowup c.args.hides c.args.air.now
    c.args.height c.log2_strict_usize-log_height.result
    (sym c.log2_strict_usize-log_height.ensures.power) c.with_hiding-rows.result
    c.in_ok-log_chunks.log_chunks c.with_hiding-chunks.result c.with_hiding-rows.ensures
    ((bound_named c.are_within.result (c.with_hiding-rows.result + c.args.log_blowup)
    c.TWO_ADICITY.result g.F.TwoAdicField.TWO_ADICITY c.TWO_ADICITY.ensures
    c.are_within.ensures).0 c.if-not-are_within.false) c.in_ok-log_chunks.ensures.needed
    c.with_hiding-chunks.ensures c.are_within-2.result
    (bound_named c.are_within-2.result
    (c.log2_strict_usize-log_height.result + c.with_hiding-chunks.result) c.TWO_ADICITY-2.result
    g.F.TwoAdicField.TWO_ADICITY c.TWO_ADICITY-2.ensures c.are_within-2.ensures)
