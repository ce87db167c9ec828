use Rattle.std.proofs.Common.{◌+◌, ◌<◌, All, subst, refl, arith}
use Rattle.p3_field_core.specs.Basis.{unit_vector}
use Rattle.p3_periodic.specs.Columns.{HasPeriod}
use Rattle.p3_uni_stark_verifier.specs.Setting.{StarkFields}
use Rattle.p3_uni_stark_phases.specs.Refusals.{PeriodicRefusal}
use Rattle.p3_uni_stark_prover.specs.Refused.{PreparationRefusal}
use Rattle.p3_uni_stark_prover.proofs.Preparing.{needs_then, counted_then, within_then}
use Rattle.p3_uni_stark_prover.proofs.Preparing.{trace_points, fewer_points, periodic_there}
use Rattle.p3_uni_stark_prover.proofs.Refusals.{handed_on, generator_refused, periodic_refused}
use Rattle.p3_uni_stark_prover.proofs.preparation.prepare.Given.{Over}
use Rattle.std.proofs.lemmas.Result.{IfOk-from_err}
use Rattle.p3_uni_stark_prover.proofs.preparation.prepare.Goals as goal

abbrev fields_of : (g : Over) → StarkFields g.row.F.Denot g.row.EF.Denot
fields_of g = record {
  base = g.F.Field.ops;
  ext = g.EF.Field.ops;
  lift = g.EF.ExtensionField.lift;
  root = g.F.TwoAdicField.root;
  two_adicity = g.F.TwoAdicField.TWO_ADICITY;
  generator = g.F.Field.GENERATOR;
  dimension = g.EF.ExtensionField.DIMENSION;
  basis = λ e. g.EF.ExtensionField.of_coefficients
      (unit_vector g.F.Field.ops g.EF.ExtensionField.DIMENSION e);
  canonical = g.F.PrimeField64.canonical;
}

pub overflow_add-log_height : goal.overflow_add-log_height
overflow_add-log_height g c =
    let within = within_then g.P.UnivariateStarkPcs.ZK c.ZK.result c.ZK-2.result
    c.args.statement.now.air.now c.in_ok-log_chunks.log_chunks
    c.with_hiding-log_num_chunks.result c.ZK.ensures c.ZK-2.ensures
    c.in_ok-log_chunks.ensures.needed c.with_hiding-log_num_chunks.ensures c.args.log_height
    g.F.TwoAdicField.TWO_ADICITY c.requires.room in
    let few = g.met.F.TwoAdicField.two_adicity_law in
    let small : c.args.log_height + c.with_hiding-log_num_chunks.result < 64 =
    omega (arith, within, few) in
    omega (arith, small)

pub quotient_coset-requires : goal.quotient_coset-requires
quotient_coset-requires g c = record {
  within_two_adicity = within_then g.P.UnivariateStarkPcs.ZK c.ZK.result c.ZK-2.result
      c.args.statement.now.air.now c.in_ok-log_chunks.log_chunks
      c.with_hiding-log_num_chunks.result c.ZK.ensures c.ZK-2.ensures
      c.in_ok-log_chunks.ensures.needed c.with_hiding-log_num_chunks.ensures c.args.log_height
      g.F.TwoAdicField.TWO_ADICITY c.requires.room;
}

pub returns-in_err-coset-clause-refused : goal.returns-in_err-coset-clause-refused
returns-in_err-coset-clause-refused g c =
    handed_on c.from_residual-in_err-coset.result _ _
    (PreparationRefusal (fields_of g) c.args.statement.now c.args.log_height)
    c.from_residual-in_err-coset.ensures.1 c.in_err-coset.ensures.refused
    (generator_refused (fields_of g) c.args.statement.now c.args.log_height)

pub periodic_on_coset-requires-clause-sizes : goal.periodic_on_coset-requires-clause-sizes
periodic_on_coset-requires-clause-sizes g c =
    fewer_points (fields_of g) _ _ _ _ _ _ _ _ _ _
    (g.met.P.TwoAdicStarkPcs.polynomials_law c.args.scheme.now) c.subgroup-rows.result
    c.in_ok-coset.coset c.args.log_height c.with_hiding-log_num_chunks.result
    c.subgroup-rows.ensures.size c.in_ok-coset.ensures.size c.in_ok-coset.ensures.shift

pub returns-in_err-periodic-clause-refused : goal.returns-in_err-periodic-clause-refused
returns-in_err-periodic-clause-refused g c =
    handed_on c.from_residual-in_err-periodic.result _
    (PeriodicRefusal ((g.P.Pcs.rules c.args.scheme.now).domain_size c.subgroup-rows.result)
    c.args.statement.now.periodic.now)
    (PreparationRefusal (fields_of g) c.args.statement.now c.args.log_height)
    c.from_residual-in_err-periodic.ensures.1 c.in_err-periodic.ensures.refused
    (periodic_refused (fields_of g) c.args.statement.now c.args.log_height
    ((g.P.Pcs.rules c.args.scheme.now).domain_size c.subgroup-rows.result)
    (trace_points (fields_of g) _ _ _ _ _ _ _ _ _ _
    (g.met.P.TwoAdicStarkPcs.polynomials_law c.args.scheme.now) c.subgroup-rows.result
    c.in_ok-coset.coset c.args.log_height c.with_hiding-log_num_chunks.result
    c.subgroup-rows.ensures.size c.in_ok-coset.ensures.size c.in_ok-coset.ensures.shift))

pub returns-clause-prepared : goal.returns-clause-prepared
returns-clause-prepared g c =
    let laws = g.met.P.TwoAdicStarkPcs.polynomials_law c.args.scheme.now in (
      c.in_ok-log_chunks.log_chunks,
      record {
        needs = needs_then g.P.UnivariateStarkPcs.ZK c.ZK.result c.ZK-2.result
            c.args.statement.now.air.now c.in_ok-log_chunks.log_chunks
            c.with_hiding-log_num_chunks.result c.ZK.ensures c.ZK-2.ensures
            c.in_ok-log_chunks.ensures.needed c.with_hiding-log_num_chunks.ensures;
        num_chunks = counted_then g.P.UnivariateStarkPcs.ZK c.ZK.result c.ZK-2.result
            c.args.statement.now.air.now c.in_ok-log_chunks.log_chunks
            c.with_hiding-log_num_chunks.result c.ZK.ensures c.ZK-2.ensures
            c.in_ok-log_chunks.ensures.needed c.with_hiding-log_num_chunks.ensures;
        within = within_then g.P.UnivariateStarkPcs.ZK c.ZK.result c.ZK-2.result
            c.args.statement.now.air.now c.in_ok-log_chunks.log_chunks
            c.with_hiding-log_num_chunks.result c.ZK.ensures c.ZK-2.ensures
            c.in_ok-log_chunks.ensures.needed c.with_hiding-log_num_chunks.ensures
            c.args.log_height g.F.TwoAdicField.TWO_ADICITY c.requires.room;
        shift_is = c.in_ok-coset.ensures.shift;
        size = c.in_ok-coset.ensures.size;
        off = c.in_ok-coset.ensures.off;
        periods = subst (λ n. All (HasPeriod n) c.args.statement.now.periodic.now)
            (trace_points (fields_of g) _ _ _ _ _ _ _ _ _ _ laws c.subgroup-rows.result
            c.in_ok-coset.coset c.args.log_height c.with_hiding-log_num_chunks.result
            c.subgroup-rows.ensures.size c.in_ok-coset.ensures.size c.in_ok-coset.ensures.shift)
            (c.in_ok-periodic.ensures.periods refl);
        periodic = λ i. periodic_there (fields_of g) _ _ _ _ _ _ _ _ _ _ laws
            c.subgroup-rows.result c.in_ok-coset.coset c.args.log_height
            c.with_hiding-log_num_chunks.result c.subgroup-rows.ensures.size
            c.in_ok-coset.ensures.size c.in_ok-coset.ensures.shift
            c.args.statement.now.periodic.now _ i (c.in_ok-periodic.ensures.values i);
        some_row = c.in_ok-periodic.ensures.some_row;
        widths = c.in_ok-periodic.ensures.widths;
      },
    )

-- of what is answered no refusal is said
pub returns-clause-refused : goal.returns-clause-refused
returns-clause-refused g c = tt

-- where nothing is answered nothing is said of the answer
pub returns-in_err-coset-clause-height : goal.returns-in_err-coset-clause-height
returns-in_err-coset-clause-height g c =
    IfOk-from_err c.from_residual-in_err-coset.result _ c.from_residual-in_err-coset.ensures.0

pub returns-in_err-coset-clause-prepared : goal.returns-in_err-coset-clause-prepared
returns-in_err-coset-clause-prepared g c =
    IfOk-from_err c.from_residual-in_err-coset.result _ c.from_residual-in_err-coset.ensures.0

pub returns-in_err-periodic-clause-height : goal.returns-in_err-periodic-clause-height
returns-in_err-periodic-clause-height g c =
    IfOk-from_err c.from_residual-in_err-periodic.result _ c.from_residual-in_err-periodic.ensures.0

pub returns-in_err-periodic-clause-prepared : goal.returns-in_err-periodic-clause-prepared
returns-in_err-periodic-clause-prepared g c =
    IfOk-from_err c.from_residual-in_err-periodic.result _ c.from_residual-in_err-periodic.ensures.0
