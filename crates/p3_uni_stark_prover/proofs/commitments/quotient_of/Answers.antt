use Rattle.std.proofs.Common.{◌≢◌, ◌^◌, sym, subst, ◌∙◌, arith}
use Rattle.algebra.specs.Field.{pow}
use Rattle.p3_field_core.specs.Basis.{unit_vector}
use Rattle.p3_periodic.specs.Views.{rows_if_any}
use Rattle.p3_uni_stark_quotient.specs.Given.{OnCoset, FitsCoset}
use Rattle.p3_uni_stark_quotient.proofs.Honest.{cosets_off}
use Rattle.p3_uni_stark_verifier.specs.Setting.{StarkFields}
use Rattle.p3_uni_stark_prover.proofs.Fits.{given_same, fits_coset, rows_moved}
use Rattle.p3_uni_stark_prover.proofs.commitments.quotient_of.Given.{Over}
use Rattle.std.proofs.lemmas.Result.{IfOk-from_err}
use Rattle.p3_uni_stark_prover.proofs.commitments.quotient_of.Goals as goal

abbrev fields_of : (g : Over) → StarkFields g.row.F.Denot g.row.EF.Denot
fields_of g = record {
  base = g.F.Field.ops;
  ext = g.EF.Field.ops;
  lift = g.EF.ExtensionField.lift;
  root = g.F.TwoAdicField.root;
  two_adicity = g.F.TwoAdicField.TWO_ADICITY;
  generator = g.F.Field.GENERATOR;
  dimension = g.EF.ExtensionField.DIMENSION;
  basis = λ e. g.EF.ExtensionField.of_coefficients
      (unit_vector g.F.Field.ops g.EF.ExtensionField.DIMENSION e);
  canonical = g.F.PrimeField64.canonical;
}

pub chunks_on_coset-requires-clause-columns : goal.chunks_on_coset-requires-clause-columns
chunks_on_coset-requires-clause-columns g c =
    subst (λ (on : OnCoset g.row.F.Denot).
    FitsCoset c.args.statement.now.air.now.layout (2 ^ c.args.prepared.now.coset.log_size) on)
    (sym (given_same c.args.statement.now c.in_ok-trace_rows.trace_rows c.as_ref.result
    c.in_ok-preprocessed_rows.preprocessed_rows c.as_ref.ensures.value c.as_ref-2.result
    c.args.prepared.now.periodic c.as_ref-2.ensures.value))
    (fits_coset (g.P.Pcs.rules c.args.scheme.now)
    (g.P.UnivariateStarkPcs.stark_rules c.args.scheme.now) g.P.UnivariateStarkPcs.embed
    g.P.UnivariateStarkPcs.point c.args.prepared.now.coset (2 ^ c.args.prepared.now.coset.log_size) c.args.statement.now
    (rows_if_any c.args.prepared.now.periodic) c.args.trace.now c.args.preprocessed.now
    c.requires.readings c.in_ok-trace_rows.trace_rows
    c.in_ok-preprocessed_rows.preprocessed_rows c.in_ok-trace_rows.ensures.values
    c.in_ok-preprocessed_rows.ensures.values)

pub chunks_on_coset-requires-clause-off : goal.chunks_on_coset-requires-clause-off
chunks_on_coset-requires-clause-off g c =
    let within = c.args.prepared.now.coset.within_two_adicity in
    let size = c.requires.size in
    cosets_off g.F.Field.ops g.met.F.Field.laws g.F.TwoAdicField.TWO_ADICITY
    g.F.TwoAdicField.root g.met.F.TwoAdicField.roots_law c.args.prepared.now.coset.shift
    (subst (λ x. pow g.F.Field.ops x (2 ^ g.F.TwoAdicField.TWO_ADICITY) ≢ g.F.Field.ops.one)
    (sym c.requires.shift) c.requires.off) c.args.prepared.now.log_height c.args.prepared.now.coset.log_size
    (omega (arith, within, size)) within

pub returns-clause-quotient : goal.returns-clause-quotient
returns-clause-quotient g c = record {
  trace_rows = c.in_ok-trace_rows.trace_rows;
  trace_read = c.in_ok-trace_rows.ensures.values;
  preprocessed_rows = c.in_ok-preprocessed_rows.preprocessed_rows;
  preprocessed_read = c.in_ok-preprocessed_rows.ensures.values;
  pairs = c.in_ok-chunks.ensures.domains;
  rows_are = c.in_ok-chunks.ensures.rows
      ∙ rows_moved g.EF.ExtensionField.coefficients (fields_of g)
      c.args.statement.now.air.now c.args.prepared.now.log_height c.args.prepared.now.log_num_chunks c.args.alpha _ _
      (given_same c.args.statement.now c.in_ok-trace_rows.trace_rows c.as_ref.result
      c.in_ok-preprocessed_rows.preprocessed_rows c.as_ref.ensures.value c.as_ref-2.result
      c.args.prepared.now.periodic c.as_ref-2.ensures.value) c.args.prepared.now.coset.log_size c.requires.size
      c.args.prepared.now.coset.shift c.requires.shift;
}

pub returns-clause-extendable : goal.returns-clause-extendable
returns-clause-extendable g c = c.requires.room c.in_ok-chunks.chunks.items
    c.in_ok-chunks.ensures.domains

-- of what is answered no refusal is said
pub returns-clause-refused : goal.returns-clause-refused
returns-clause-refused g c = tt

-- where nothing is answered nothing is said of the answer
pub returns-in_err-chunks-clause-quotient : goal.returns-in_err-chunks-clause-quotient
returns-in_err-chunks-clause-quotient g c =
    IfOk-from_err c.from_residual-in_err-chunks.result _ c.from_residual-in_err-chunks.ensures.0

pub returns-in_err-chunks-clause-extendable : goal.returns-in_err-chunks-clause-extendable
returns-in_err-chunks-clause-extendable g c =
    IfOk-from_err c.from_residual-in_err-chunks.result _ c.from_residual-in_err-chunks.ensures.0
