use Rattle.std.proofs.Common.{◌≡◌, ◌≤◌, ◌+◌, ◌^◌, All, length, take}
use Rattle.p3_matrix.specs.Matrix.{rows, matrix_width}
use Rattle.p3_fri_masks.specs.QuotientLdes.{first_width}
use Rattle.p3_fri_masks_tests.proofs.ldes.assert_can_be_masked.Given as goal

abbrev pub invariant-loop-chunk : goal.invariant-loop-chunk
invariant-loop-chunk g l =
    let first = take l.chunk-index l.chunks in
    record {
      heights : All (λ e. length (rows e.1) ≡ 2 ^ e.0.log_size) first;
      widths : All (λ e. matrix_width e.1 ≡ first_width l.chunks) first;
      within : All (λ e. e.0.log_size + 1 + l.log_blowup ≤ g.F.TwoAdicField.TWO_ADICITY) first;
    }
