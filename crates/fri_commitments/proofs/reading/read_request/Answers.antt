use Rattle.std.proofs.lemmas.Result.{IfOk-from_err}
use Rattle.std.proofs.Common.{◌≢◌, [], refl, sym, subst}
use Rattle.std.specs.Prelude.{IsOk}
use Rattle.std.specs.List.{flat_map}
use Rattle.algebra.specs.Nested.{nested}
use Rattle.hex.specs.Hex.{decode_of}
use Rattle.fri_commitments.specs.Read.{ArePoints}
use Rattle.fri_commitments.specs.Requests.{AreBatches}
use Rattle.fri_commitments.proofs.Requested.{have_points}
use Rattle.fri_numbers.proofs.Listed.{HaveNumbers}
use Rattle.fri_statement.specs.Setting.{SchemeFields}
use Rattle.fri_verification.proofs.Fields.{fields_of}
use Rattle.fri_commitments.proofs.reading.read_request.Given.{Over}
use Rattle.fri_commitments.proofs.reading.read_request.Goals as goal

-- both fields
abbrev fields : (g : Over) → SchemeFields g.row.F.Denot g.row.F-Extension.Denot
fields g = fields_of g.F.Field g.F.PrimeField64 g.F.TwoAdicField g.F.ElementBytes
    g.F.Extension.Field g.F.Extension.ExtensionField g.F.Extension.ElementBytes

numbered : (g : Over) → HaveNumbers (fields g)
numbered g = record {
  below = g.met.F.PrimeField64.canonical_below;
  again = g.met.F.PrimeField64.multiple_canonical;
  numbers = g.met.F.PrimeField64.canonical_multiple;
  count = g.met.F.Extension.ExtensionField.dimension_law;
  same = g.met.F.Extension.ExtensionField.coefficients_injective;
  made = g.met.F.Extension.ExtensionField.of_coefficients_law;
}

pub returns-clause-well_formed : goal.returns-clause-well_formed
returns-clause-well_formed g c =
    let r = c.args.request.now in
    let batches = r.commitments.items in
    let points = nested c.in_ok-points.points.items in
    let listed = subst (λ bs. ArePoints (fields g) points bs) c.deref.ensures.value c.in_ok-points.ensures.points in
    record {
      context = subst (λ t. IsOk (decode_of t)) c.deref-3.ensures
          (subst (λ d. IsOk d) (sym c.in_ok-context.ensures.bytes) refl);
      committed = record {
        parameters = c.requires.provers;
        batches = subst (λ bs. AreBatches (fields g) c.args.hides r.parameters.log_blowup bs) c.deref-2.ensures.value
            c.in_ok-batches.ensures.well_formed;
      };
      points = have_points (fields g) (numbered g) points batches listed.numbers listed.some_points;
      some_matrix = subst (λ bs. flat_map (λ b. b.matrices.items) bs ≢ []) c.deref-4.ensures.value
          (c.have_matrix.ensures.0 c.if-not-have_matrix.false);
    }

-- where nothing is answered nothing is said of the answer
pub returns-in_err-points-clause-read : goal.returns-in_err-points-clause-read
returns-in_err-points-clause-read g c = IfOk-from_err c.from_residual.result _ c.from_residual.ensures.0

pub returns-in_err-points-clause-points : goal.returns-in_err-points-clause-points
returns-in_err-points-clause-points g c = IfOk-from_err c.from_residual.result _ c.from_residual.ensures.0

pub returns-in_err-points-clause-context : goal.returns-in_err-points-clause-context
returns-in_err-points-clause-context g c = IfOk-from_err c.from_residual.result _ c.from_residual.ensures.0

pub returns-in_err-points-clause-well_formed : goal.returns-in_err-points-clause-well_formed
returns-in_err-points-clause-well_formed g c = IfOk-from_err c.from_residual.result _ c.from_residual.ensures.0

pub returns-in_err-batches-clause-read : goal.returns-in_err-batches-clause-read
returns-in_err-batches-clause-read g c = IfOk-from_err c.from_residual-in_err-batches.result _ c.from_residual-in_err-batches.ensures.0

pub returns-in_err-batches-clause-points : goal.returns-in_err-batches-clause-points
returns-in_err-batches-clause-points g c = IfOk-from_err c.from_residual-in_err-batches.result _ c.from_residual-in_err-batches.ensures.0

pub returns-in_err-batches-clause-context : goal.returns-in_err-batches-clause-context
returns-in_err-batches-clause-context g c = IfOk-from_err c.from_residual-in_err-batches.result _ c.from_residual-in_err-batches.ensures.0

pub returns-in_err-batches-clause-well_formed : goal.returns-in_err-batches-clause-well_formed
returns-in_err-batches-clause-well_formed g c = IfOk-from_err c.from_residual-in_err-batches.result _ c.from_residual-in_err-batches.ensures.0

pub returns-in_err-context-clause-read : goal.returns-in_err-context-clause-read
returns-in_err-context-clause-read g c = IfOk-from_err c.from_residual-in_err-context.result _ c.from_residual-in_err-context.ensures.0

pub returns-in_err-context-clause-points : goal.returns-in_err-context-clause-points
returns-in_err-context-clause-points g c = IfOk-from_err c.from_residual-in_err-context.result _ c.from_residual-in_err-context.ensures.0

pub returns-in_err-context-clause-context : goal.returns-in_err-context-clause-context
returns-in_err-context-clause-context g c = IfOk-from_err c.from_residual-in_err-context.result _ c.from_residual-in_err-context.ensures.0

pub returns-in_err-context-clause-well_formed : goal.returns-in_err-context-clause-well_formed
returns-in_err-context-clause-well_formed g c = IfOk-from_err c.from_residual-in_err-context.result _ c.from_residual-in_err-context.ensures.0
