use Rattle.std.proofs.Common.{◌≡◌, ◌^◌, length, sym, ◌∙◌, arith}
use Rattle.std.specs.Int.{IsPowerOfTwo}
use Rattle.std.proofs.lemmas.Bool.{leb-true, le-leb}
use Rattle.p3_matrix.specs.Matrix.{rows}
use Rattle.p3_fri_openings.specs.Rounds.{log_height}
use Rattle.p3_fri_openings.proofs.Log2.{log2_is}
use Rattle.p3_fri_openings.proofs.Passes.{failed, not_tested, power_tested}
use Rattle.p3_fri_openings.proofs.openable.has_coset.Goals as goal

pub returns-then-not-is_power_of_two : goal.returns-then-not-is_power_of_two
returns-then-not-is_power_of_two g c = failed (λ coset.
    let power : IsPowerOfTwo c.height-height.result =
    (coset.power.0, c.height-height.ensures ∙ coset.power.1) in
    not_tested c.is_power_of_two.result
    (power_tested c.height-height.result c.is_power_of_two.result c.is_power_of_two.ensures)
    c.if-not-is_power_of_two.true power)

pub log2_strict_usize-requires : goal.log2_strict_usize-requires
log2_strict_usize-requires g c = record {
  power_of_two =
      (power_tested c.height-height.result c.is_power_of_two.result c.is_power_of_two.ensures).0
      c.if-not-is_power_of_two.false;
}

pub returns : goal.returns
returns g c =
    let size : 2 ^ c.log2_strict_usize.result ≡ length (rows c.args.matrix.now) =
    c.log2_strict_usize.ensures.power ∙ c.height-height.ensures in
    let log : c.log2_strict_usize.result ≡ log_height c.args.matrix.now =
    log2_is (length (rows c.args.matrix.now)) c.log2_strict_usize.result size in (
      λ t.
          let below = leb-true c.log2_strict_usize.result c.TWO_ADICITY.result t in
          record {
            power = (c.log2_strict_usize.result, sym size);
            within = omega (arith, below, log, c.TWO_ADICITY.ensures);
          },
      λ coset.
          le-leb c.log2_strict_usize.result c.TWO_ADICITY.result
          (omega (arith, coset.within, log, c.TWO_ADICITY.ensures)),
    )
