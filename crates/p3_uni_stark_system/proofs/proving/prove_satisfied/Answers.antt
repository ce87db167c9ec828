use Rattle.std.proofs.Common.{◌≡◌, ◌+◌, ◌^◌, length, ap, sym, subst, ◌∙◌, refl, arith}
use Rattle.std.proofs.Math.ListN.{length-map}
use Rattle.std.proofs.lemmas.Grind.{common_steps}
use Rattle.algebra.specs.Nested.{lists}
use Rattle.p3_matrix.specs.Matrix.{rows as matrix_rows}
use Rattle.p3_pcs.specs.Scheme.{kept_since}
use Rattle.p3_uni_stark_prover.proofs.Fitting.{same_power}
use Rattle.p3_uni_stark_prover.specs.Held.{HoldPreprocessed}
use Rattle.p3_uni_stark_verifier.specs.Chunks.{hiding_bits}
use Rattle.p3_uni_stark_system.specs.Keys.{ColumnsFault, IsKeyOf}
use Rattle.p3_uni_stark_system.proofs.Held.{held_key, held_rows, held_columns, key_kept}
use Rattle.p3_uni_stark_system.proofs.Statements.{fits_trace, key_known, satisfied_named}
use Rattle.p3_uni_stark_verifier.specs.declared.proof.Statement.{Statement}
use Rattle.p3_air_plain.specs.Elements.{owned_assigned}
use Rattle.p3_pcs.specs.Scheme.{AreKept}
use Rattle.p3_uni_stark_system.specs.Proved.{IsStatementOf}
use Rattle.p3_uni_stark_system.specs.Keys.{AreHeld}
use Rattle.p3_uni_stark_system.proofs.proving.prove_satisfied.Given.{Over}
use Rattle.p3_uni_stark_system.proofs.proving.prove_satisfied.Goals as goal
use Rattle.p3_uni_stark_system.proofs.proving.prove_satisfied.Goals.{After-prove}

pub commit_rows-committed-requires-clause-room : goal.commit_rows-committed-requires-clause-room
commit_rows-committed-requires-clause-room g c =
    let n = length c.args.given.now.trace.items in
    let power : n ≡ 2 ^ c.log2_strict_usize-log_height.result = grind (arith, common_steps) in
    fits_trace g.F.TwoAdicField.TWO_ADICITY (g.P.TwoAdicStarkPcs.log_blowup c.args.scheme.now)
    g.P.UnivariateStarkPcs.ZK c.args.air.now n c.log2_strict_usize-log_height.result
    c.requires.room power

pub returns-in-Err-clause-refused : goal.returns-in-Err-clause-refused
returns-in-Err-clause-refused g c = (
  c.log2_strict_usize-log_height.result,
  subst (λ rows. ColumnsFault (g.P.UnivariateStarkPcs.stark_rules c.args.scheme.now)
      g.P.UnivariateStarkPcs.ZK (λ k d. (d.shift ≡ g.F.Field.ONE) × (d.log_size ≡ k))
      c.log2_strict_usize-log_height.result (lists rows) c.in-Err.error) c.as_slice-rows.ensures.value
      c.in-Err.ensures.refused,
)

pub prove-requires-clause-statement : goal.prove-requires-clause-statement
prove-requires-clause-statement g c = record {
  well_formed = c.requires.well_formed;
  public_count = ap length c.as_slice-3.ensures.value ∙ c.requires.satisfied.shape.counts.values;
  periodic_count = ap length c.as_slice-2.ensures.value
      ∙ sym (length-map c.args.given.now.periodic.items (λ column. column.items))
      ∙ c.requires.satisfied.shape.counts.columns;
  preprocessed = key_known (g.P.Pcs.rules c.commit_rows-committed.new.scheme) g.P.UnivariateStarkPcs.ZK
      (λ k d. (d.shift ≡ g.F.Field.ONE) × (d.log_size ≡ k))
      (g.P.UnivariateStarkPcs.stark_rules c.commit_rows-committed.new.scheme)
      c.log2_strict_usize-log_height.result c.args.air.now.layout.preprocessed_width
      (lists c.as_slice-rows.result.now) c.in-Ok.preprocessed.key c.in-Ok.preprocessed.prover_data
      c.in-Ok.ensures.held;
}

pub prove-requires-clause-preprocessed : goal.prove-requires-clause-preprocessed
prove-requires-clause-preprocessed g c = λ k power.
    let n = length c.args.given.now.trace.items in
    let rows_are = ap length c.in-Ok-matrix_of_rows.ensures.rows in
    let is : n ≡ 2 ^ c.log2_strict_usize-log_height.result = grind (arith, common_steps) in
    let also : n ≡ 2 ^ k = grind (arith, common_steps, rows_are, power) in
    subst (λ j. HoldPreprocessed (g.P.Pcs.rules c.commit_rows-committed.new.scheme)
    (g.P.UnivariateStarkPcs.stark_rules c.commit_rows-committed.new.scheme)
    (λ d. (d.shift ≡ g.F.Field.ONE) × (d.log_size ≡ j + hiding_bits g.P.UnivariateStarkPcs.ZK)) j
    c.args.air.now.layout.preprocessed_width c.in-Ok.preprocessed.key
    c.in-Ok.preprocessed.prover_data)
    (same_power c.log2_strict_usize-log_height.result k n is also)
    (held_columns (g.P.Pcs.rules c.commit_rows-committed.new.scheme) g.P.UnivariateStarkPcs.ZK
    (λ k d. (d.shift ≡ g.F.Field.ONE) × (d.log_size ≡ k))
    (g.P.UnivariateStarkPcs.stark_rules c.commit_rows-committed.new.scheme)
    c.log2_strict_usize-log_height.result c.args.air.now.layout.preprocessed_width
    (lists c.as_slice-rows.result.now) c.in-Ok.preprocessed.key c.in-Ok.preprocessed.prover_data
    c.in-Ok.ensures.held)

kept : (g : Over) (c : After-prove g) → AreKept (g.P.Pcs.rules c.args.scheme.now) (g.P.Pcs.rules c.prove.new.scheme)
kept g c =
    let rules = g.P.Pcs.rules in
    kept_since (rules c.args.scheme.now) (rules c.commit_rows-committed.new.scheme)
    (rules c.prove.new.scheme)
    (g.met.P.Pcs.keeps_law c.args.scheme.now c.commit_rows-committed.new.scheme
    c.commit_rows-committed.ensures.kept) c.prove.ensures.kept

-- the statement that is proved
abbrev stated : (g : Over) → After-prove g → Statement g.row.F.Denot g.row.Com.Denot
stated g c = record {
  air = c.args.air;
  preprocessed = c.in-Ok.preprocessed.key;
  periodic = c.as_slice-2.result;
  public_values = c.as_slice-3.result;
}

is_stated : (g : Over) (c : After-prove g) → IsStatementOf c.args.air.now (owned_assigned c.args.given.now) (stated g c)
is_stated g c = record {
  air_is = refl;
  values_are = c.as_slice-3.ensures.value;
  periodic_are = ap lists c.as_slice-2.ensures.value;
}

pub returns-in-Ok-prove-clause-kept : goal.returns-in-Ok-prove-clause-kept
returns-in-Ok-prove-clause-kept g c = kept g (goal.at.returns-in-Ok-prove-clause-kept g c).After-prove

pub returns-in-Ok-prove-clause-proved : goal.returns-in-Ok-prove-clause-proved
returns-in-Ok-prove-clause-proved g c =
    let n = length c.args.given.now.trace.items in
    let is : n ≡ 2 ^ c.log2_strict_usize-log_height.result = grind (arith, common_steps) in
    let rows = (c.in-Ok-matrix_of_rows.ensures.rows ∙ ap lists c.as_slice.ensures.value) in record {
      statement = stated g (goal.at.returns-in-Ok-prove-clause-proved g c).After-prove;
      is_of = is_stated g (goal.at.returns-in-Ok-prove-clause-proved g c).After-prove;
      is_key = subst (λ rows. IsKeyOf (g.P.Pcs.rules c.prove.new.scheme) g.P.UnivariateStarkPcs.ZK
          (λ k d. (d.shift ≡ g.F.Field.ONE) × (d.log_size ≡ k)) c.args.air.now.layout.preprocessed_width
          (lists rows) c.in-Ok.preprocessed.key) c.as_slice-rows.ensures.value
          (key_kept (g.P.Pcs.rules c.commit_rows-committed.new.scheme)
          (g.P.Pcs.rules c.prove.new.scheme) c.prove.ensures.kept g.P.UnivariateStarkPcs.ZK
          (λ k d. (d.shift ≡ g.F.Field.ONE) × (d.log_size ≡ k)) c.args.air.now.layout.preprocessed_width
          (lists c.as_slice-rows.result.now) c.in-Ok.preprocessed.key
          (held_key (g.P.Pcs.rules c.commit_rows-committed.new.scheme) g.P.UnivariateStarkPcs.ZK
          (λ k d. (d.shift ≡ g.F.Field.ONE) × (d.log_size ≡ k))
          (g.P.UnivariateStarkPcs.stark_rules c.commit_rows-committed.new.scheme)
          c.log2_strict_usize-log_height.result c.args.air.now.layout.preprocessed_width
          (lists c.as_slice-rows.result.now) c.in-Ok.preprocessed.key c.in-Ok.preprocessed.prover_data
          c.in-Ok.ensures.held));
      accepts = c.in-Ok-prove.ensures.complete c.log2_strict_usize-log_height.result
          (lists c.as_slice-rows.result.now)
          (ap length rows ∙ length-map c.args.given.now.trace.items (λ row. row.items) ∙ is)
          (held_rows (g.P.Pcs.rules c.commit_rows-committed.new.scheme) g.P.UnivariateStarkPcs.ZK
          (λ k d. (d.shift ≡ g.F.Field.ONE) × (d.log_size ≡ k))
          (g.P.UnivariateStarkPcs.stark_rules c.commit_rows-committed.new.scheme)
          c.log2_strict_usize-log_height.result c.args.air.now.layout.preprocessed_width
          (lists c.as_slice-rows.result.now) c.in-Ok.preprocessed.key c.in-Ok.preprocessed.prover_data
          c.in-Ok.ensures.held)
          (satisfied_named g.F.Field.ops c.args.air.now (matrix_rows c.in-Ok-matrix_of_rows.trace)
          (lists c.args.given.now.trace.items) (lists c.as_slice-rows.result.now)
          (lists c.args.given.now.preprocessed.items) c.as_slice-3.result.now
          c.args.given.now.public_values.items (lists c.as_slice-2.result.now)
          (lists c.args.given.now.periodic.items) rows (ap lists c.as_slice-rows.ensures.value)
          c.as_slice-3.ensures.value (ap lists c.as_slice-2.ensures.value) c.requires.satisfied);
      state = c.in-Ok-prove.ensures.state;
    }

pub returns-in-Err-prove-clause-kept : goal.returns-in-Err-prove-clause-kept
returns-in-Err-prove-clause-kept g c = kept g (goal.at.returns-in-Err-prove-clause-kept g c).After-prove

pub returns-in-Err-prove-clause-refused : goal.returns-in-Err-prove-clause-refused
returns-in-Err-prove-clause-refused g c =
    let n = length c.args.given.now.trace.items in
    let is : n ≡ 2 ^ c.log2_strict_usize-log_height.result = grind (arith, common_steps) in
    let rows = (c.in-Ok-matrix_of_rows.ensures.rows ∙ ap lists c.as_slice.ensures.value) in record {
      statement = stated g (goal.at.returns-in-Err-prove-clause-refused g c).After-prove;
      is_of = is_stated g (goal.at.returns-in-Err-prove-clause-refused g c).After-prove;
      log_height = c.log2_strict_usize-log_height.result;
      height = length-map c.args.given.now.trace.items (λ row. row.items) ∙ is;
      trace = c.in-Ok-matrix_of_rows.trace;
      are_rows = rows;
      preprocessed = c.in-Ok.preprocessed.prover_data;
      before = c.commit_rows-committed.new.scheme;
      is_before = c.commit_rows-committed.ensures.kept;
      are_held = subst (λ rows. AreHeld (g.P.Pcs.rules c.commit_rows-committed.new.scheme)
          g.P.UnivariateStarkPcs.ZK (λ k d. (d.shift ≡ g.F.Field.ONE) × (d.log_size ≡ k))
          (g.P.UnivariateStarkPcs.stark_rules c.commit_rows-committed.new.scheme)
          c.log2_strict_usize-log_height.result c.args.air.now.layout.preprocessed_width (lists rows)
          c.in-Ok.preprocessed.key c.in-Ok.preprocessed.prover_data) c.as_slice-rows.ensures.value
          c.in-Ok.ensures.held;
      refusal = c.in-Err-prove.ensures.refused c.log2_strict_usize-log_height.result
          (ap length rows ∙ length-map c.args.given.now.trace.items (λ row. row.items) ∙ is);
    }
