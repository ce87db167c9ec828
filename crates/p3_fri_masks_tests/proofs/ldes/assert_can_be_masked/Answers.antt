use Rattle.std.proofs.Common.{◌≡◌, ◌<◌, ◌≤◌, ◌+◌, ◌^◌, length, sym, ◌∙◌, rules, arith}
use Rattle.std.proofs.lemmas.List.{get_or-map}
use Rattle.p3_matrix.specs.Matrix.{rows, matrix_width}
use Rattle.p3_fri_masks.specs.QuotientLdes.{first_width}
use Rattle.p3_fri_masks.proofs.Firsts.{one_more_holds, all_hold}
use Rattle.p3_fri_masks_tests.proofs.ldes.assert_can_be_masked.Goals as goal

pub loop-chunk-preserved : goal.loop-chunk-preserved
loop-chunk-preserved g c =
    let chunks = c.args.chunks.now in
    let i = c.loop-chunk.chunk-index in
    let below : i < length chunks = omega arith in
    let some : 0 < length chunks = omega (arith, below) in
    record {
      heights = one_more_holds (λ e. length (rows e.1) ≡ 2 ^ e.0.log_size) chunks i
          c.chunk-item.result c.loop-chunk.invariant.heights below c.chunk-item.is
          (sym c.height.ensures ∙ c.if-height-size.false ∙ c.size.ensures);
      widths = one_more_holds (λ e. matrix_width e.1 ≡ first_width chunks) chunks i
          c.chunk-item.result c.loop-chunk.invariant.widths below c.chunk-item.is
          (sym c.width.ensures.columns ∙ c.if-width.false ∙ c.width-else-height-size.ensures.columns
          ∙ sym (get_or-map (λ e. matrix_width e.1) chunks 0 c.index-chunks-0.result 0 some));
      within = one_more_holds
          (λ e. e.0.log_size + 1 + c.args.log_blowup ≤ g.F.TwoAdicField.TWO_ADICITY) chunks i
          c.chunk-item.result c.loop-chunk.invariant.within below c.chunk-item.is
          (omega (arith, c.log_size.ensures, c.TWO_ADICITY-else-TWO_ADICITY-log_blowup.ensures, c.if-TWO_ADICITY-log_blowup-2.false));
    }

pub returns : goal.returns
returns g c =
    let chunks = c.args.chunks.now in
    let i = c.loop-chunk.chunk-index in
    let all : length chunks ≤ i = omega arith in
    record {
      some = search rules;
      heights = all_hold (λ e. length (rows e.1) ≡ 2 ^ e.0.log_size) chunks i
          c.loop-chunk.invariant.heights all;
      widths = all_hold (λ e. matrix_width e.1 ≡ first_width chunks) chunks i
          c.loop-chunk.invariant.widths all;
      within = all_hold (λ e. e.0.log_size + 1 + c.args.log_blowup ≤ g.F.TwoAdicField.TWO_ADICITY)
          chunks i c.loop-chunk.invariant.within all;
      disjoint = c.are_apart.ensures c.if-not-are_apart.false;
    }
