use Rattle.std.proofs.Common.{◌≡◌, ◌^◌, sym, ◌∙◌, arith, subst}
use Rattle.p3_mmcs.specs.Batch.{max_height, dimensions_of, AreBelow}
use Rattle.p3_mmcs.proofs.Heights.{max_height-power}
use Rattle.algebra.specs.Nested.{nested}
use Rattle.p3_fri_prover.proofs.Batches.{indices_below, batch_opened}
use Rattle.p3_field_core.proofs.IndexPowers.{exponent_at_most}
use Rattle.p3_fri_prover.proofs.prover.openings.open_input.Goals as goal

pub log2_strict_usize-log_height-requires : goal.log2_strict_usize-log_height-requires
log2_strict_usize-log_height-requires g c =
    let datum = c.args.prover_data.now in
    let p = max_height-power (dimensions_of (g.M.Mmcs.committed datum)) (g.met.M.Mmcs.heights_law datum) in
    record { power_of_two = (p.0, c.get_max_height.ensures ∙ p.1) }

pub overflow_sub-log_max_height : goal.overflow_sub-log_max_height
overflow_sub-log_max_height g c =
    exponent_at_most c.log2_strict_usize-log_height.result c.args.log_max_height
    (omega (arith, c.log2_strict_usize-log_height.ensures.power, c.get_max_height.ensures, c.requires.height))

pub open_multi_batch-requires : goal.open_multi_batch-requires
open_multi_batch-requires g c =
    let log = c.log2_strict_usize-log_height.result in
    let top = c.args.log_max_height in
    let matrices = g.M.Mmcs.committed c.args.prover_data.now in
    let is : 2 ^ log ≡ max_height (dimensions_of matrices) =
    c.log2_strict_usize-log_height.ensures.power ∙ c.get_max_height.ensures in
    record {
      below = subst (AreBelow (max_height (dimensions_of matrices))) (sym c.deref.ensures.value)
          (indices_below (g.M.Mmcs.opens c.args.mmcs.now) top log c.args.positions.now
          c.in_ok-indices.indices.items matrices is
          (exponent_at_most log top (omega (arith, is, c.requires.height))) c.in_ok-indices.ensures
          c.requires.positions);
    }

pub returns : goal.returns
returns g c =
    let log = c.log2_strict_usize-log_height.result in
    let top = c.args.log_max_height in
    let opens = g.M.Mmcs.opens c.args.mmcs.now in
    let matrices = g.M.Mmcs.committed c.args.prover_data.now in
    let own = g.M.Mmcs.commitment_of c.args.prover_data.now in
    let rows = nested c.in_ok-opened_values.opened_values.items in
    let path = c.in_ok-opened_values.opening_proof in
    let is : 2 ^ log ≡ max_height (dimensions_of matrices) =
    c.log2_strict_usize-log_height.ensures.power ∙ c.get_max_height.ensures in
    let indices : c.deref.result.now ≡ c.in_ok-indices.indices.items = c.deref.ensures.value in
    batch_opened opens top log c.args.positions.now c.in_ok-indices.indices.items matrices is
    (exponent_at_most log top (omega (arith, is, c.requires.height))) c.in_ok-indices.ensures own
    (record { rows = rows; path = path })
    (rw indices at c.in_ok-opened_values.ensures.rows)
    (rw indices at c.in_ok-opened_values.ensures.opens)
