use Rattle.std.proofs.Common.{◌≡◌, ◌≤◌, ◌+◌, length, map, ap, subst, ◌∙◌}
use Rattle.std.proofs.Math.ListN.{length-map}
use Rattle.std.specs.Int.{IsPowerOfTwo}
use Rattle.algebra.specs.Nested.{lists}
use Rattle.p3_matrix.specs.Matrix.{rows as matrix_rows, matrix_width}
use Rattle.p3_uni_stark_prover.proofs.Finishing.{refuted}
use Rattle.p3_uni_stark_prover.proofs.Fitting.{power_tested, bound_named}
use Rattle.p3_uni_stark_verifier.specs.Chunks.{hiding_bits}
use Rattle.p3_uni_stark_system.specs.Keys.{IsKeyOf, HaveRoom}
use Rattle.p3_uni_stark_system.proofs.Held.{held_key}
use Rattle.p3_uni_stark_system.proofs.Keys.{widths_of, no_power, no_room, numbers_fault}
use Rattle.p3_uni_stark_system.proofs.preprocessing.commit_numbers.Goals as goal

pub returns-then-not-is_power_of_two-clause-refused :
    goal.returns-then-not-is_power_of_two-clause-refused
returns-then-not-is_power_of_two-clause-refused g c =
    no_power g.P.UnivariateStarkPcs.ZK g.F.TwoAdicField.TWO_ADICITY
    (g.P.TwoAdicStarkPcs.log_blowup c.args.scheme.now)
    (lists c.args.numbers.now) (length c.args.numbers.now)
    (length-map c.args.numbers.now (λ row. row.items))
    (refuted c.is_power_of_two.result (IsPowerOfTwo (length c.args.numbers.now))
    (power_tested (length c.args.numbers.now) c.is_power_of_two.result c.is_power_of_two.ensures)
    c.if-not-is_power_of_two.true)

pub log2_strict_usize-log_height-requires : goal.log2_strict_usize-log_height-requires
log2_strict_usize-log_height-requires g c = record {
  power_of_two = (power_tested (length c.args.numbers.now) c.is_power_of_two.result
      c.is_power_of_two.ensures).0 c.if-not-is_power_of_two.false;
}

pub returns-then-not-has_room-clause-refused : goal.returns-then-not-has_room-clause-refused
returns-then-not-has_room-clause-refused g c =
    subst (λ b. ¬ HaveRoom g.P.UnivariateStarkPcs.ZK g.F.TwoAdicField.TWO_ADICITY b
    (lists c.args.numbers.now)) c.log_blowup-log_blowup.ensures
    (no_room g.P.UnivariateStarkPcs.ZK g.F.TwoAdicField.TWO_ADICITY c.log_blowup-log_blowup.result
    (lists c.args.numbers.now) (length c.args.numbers.now)
    (length-map c.args.numbers.now (λ row. row.items)) c.log2_strict_usize-log_height.result
    c.with_hiding.result c.log2_strict_usize-log_height.ensures.power
    (c.with_hiding.ensures
    ∙ ap (λ b. c.log2_strict_usize-log_height.result + hiding_bits b) c.ZK.ensures)
    (refuted c.has_room.result
    (c.with_hiding.result + c.log_blowup-log_blowup.result ≤ g.F.TwoAdicField.TWO_ADICITY)
    (bound_named c.has_room.result (c.with_hiding.result + c.log_blowup-log_blowup.result)
    c.TWO_ADICITY.result g.F.TwoAdicField.TWO_ADICITY c.TWO_ADICITY.ensures c.has_room.ensures)
    c.if-not-has_room.true))

pub matrix_of_rows-requires-clause-widths : goal.matrix_of_rows-requires-clause-widths
matrix_of_rows-requires-clause-widths g c =
    widths_of g.F.PrimeField64.canonical c.args.width (lists c.as_slice.result.now)
    (lists c.args.numbers.now)
    (ap (λ rows. map (map g.F.PrimeField64.canonical) (lists rows)) c.as_slice.ensures.value
    ∙ c.in-Ok.ensures.numbers) (c.have_width.ensures.0 c.if-not-have_width.false)

pub returns-in-Ok-commit_matrix-clause-key : goal.returns-in-Ok-commit_matrix-clause-key
returns-in-Ok-commit_matrix-clause-key g c = record {
  rows = matrix_rows c.in_ok-matrix.matrix;
  are_numbers = ap (map (map g.F.PrimeField64.canonical))
      (c.in_ok-matrix.ensures.rows ∙ ap lists c.as_slice.ensures.value) ∙ c.in-Ok.ensures.numbers;
  is_key = subst (λ w. IsKeyOf (g.P.Pcs.rules c.commit_matrix.new.scheme)
      g.P.UnivariateStarkPcs.ZK (λ k d. (d.shift ≡ g.F.Field.ONE) × (d.log_size ≡ k)) w
      (matrix_rows c.in_ok-matrix.matrix) c.in-Ok-commit_matrix.committed.key)
      c.in_ok-matrix.ensures.width
      (held_key (g.P.Pcs.rules c.commit_matrix.new.scheme) g.P.UnivariateStarkPcs.ZK
      (λ k d. (d.shift ≡ g.F.Field.ONE) × (d.log_size ≡ k))
      (g.P.UnivariateStarkPcs.stark_rules c.commit_matrix.new.scheme)
      c.log2_strict_usize-log_height.result (matrix_width c.in_ok-matrix.matrix)
      (matrix_rows c.in_ok-matrix.matrix) c.in-Ok-commit_matrix.committed.key
      c.in-Ok-commit_matrix.committed.prover_data c.in-Ok-commit_matrix.ensures.held);
}

pub returns-clause-refused : goal.returns-clause-refused
returns-clause-refused g c =
    numbers_fault (g.P.UnivariateStarkPcs.stark_rules c.args.scheme.now)
    g.P.UnivariateStarkPcs.ZK (λ k d. (d.shift ≡ g.F.Field.ONE) × (d.log_size ≡ k))
    c.log2_strict_usize-log_height.result c.in_ok-matrix.matrix (lists c.in-Ok.rows.items)
    (c.in_ok-matrix.ensures.rows ∙ ap lists c.as_slice.ensures.value) g.F.PrimeField64.ORDER_U64
    g.F.TwoAdicField.TWO_ADICITY (g.P.TwoAdicStarkPcs.log_blowup c.args.scheme.now)
    g.F.PrimeField64.canonical c.args.width
    (lists c.args.numbers.now) c.in-Ok.ensures.numbers c.in-Err-commit_matrix.error
    c.in-Err-commit_matrix.ensures.refused
