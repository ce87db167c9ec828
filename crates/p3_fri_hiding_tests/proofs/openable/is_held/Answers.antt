use Rattle.std.proofs.Common.{◌≡◌, ◌≤◌, ◌^◌, ℕ, All, length, sym, subst, ◌∙◌, arith}
use Rattle.p3_matrix.specs.Matrix.{rows, matrix_width}
use Rattle.p3_fri_hiding_openings.specs.Data.{hidden_columns}
use Rattle.p3_fri_openings.specs.Rounds.{HasCoset}
use Rattle.p3_fri_openings.proofs.Log2.{log2_is}
use Rattle.p3_fri_hiding_tests.proofs.Each.{one_more, to_the_end}
use Rattle.p3_fri_hiding_tests.proofs.openable.is_held.Goals as goal

pub loop-matrix-preserved : goal.loop-matrix-preserved
loop-matrix-preserved c =
    let matrices = c.committed_matrices-matrices.result.now in
    let hidden = c.hidden_columns-hidden.result in
    let matrix = c.matrix-item.result in
    let k = c.in-Some.coset.log_size in
    let size : 2 ^ k ≡ length (rows matrix) =
    sym c.size.ensures ∙ c.if-size-height.false ∙ c.height-height.ensures in
    let wide : hidden ≤ matrix_width matrix = omega arith in
    record {
      cosets = one_more (HasCoset 27) matrices c.loop-matrix.matrix-index matrix
          c.loop-matrix-test.true c.matrix-item.is c.loop-matrix.invariant.cosets
          (record {
            power = (k, sym size);
            within = subst (λ n. n ≤ 27) (log2_is (length (rows matrix)) k size)
                c.in-Some.coset.within_two_adicity;
          });
      wide = one_more (λ m. hidden ≤ matrix_width m) matrices c.loop-matrix.matrix-index matrix
          c.loop-matrix-test.true c.matrix-item.is c.loop-matrix.invariant.wide wide;
    }

pub returns-clause-held : goal.returns-clause-held
returns-clause-held c = λ t. record {
  as_many = omega arith;
  blowup = omega arith;
  cosets = subst (λ ms. All (HasCoset 27) ms) c.committed_matrices-matrices.ensures
      (to_the_end (HasCoset 27) c.committed_matrices-matrices.result.now
      c.loop-matrix.matrix-index c.loop-matrix-test.false c.loop-matrix.invariant.cosets);
}

pub returns-clause-wide : goal.returns-clause-wide
returns-clause-wide c = λ t.
    let hidden : ℕ = c.hidden_columns-hidden.result in
    subst (λ ms. All (λ m. hidden_columns c.args.codewords c.args.held.now ≤ matrix_width m) ms)
    c.committed_matrices-matrices.ensures
    (subst (λ (n : ℕ). All (λ m. n ≤ matrix_width m) c.committed_matrices-matrices.result.now)
    c.hidden_columns-hidden.ensures (to_the_end (λ m. hidden ≤ matrix_width m)
    c.committed_matrices-matrices.result.now c.loop-matrix.matrix-index c.loop-matrix-test.false
    c.loop-matrix.invariant.wide))
