use Rattle.std.proofs.lemmas.List.{map-append}
use Rattle.std.proofs.lemmas.List.Elements.{All-map, All-push}
use Rattle.std.proofs.Common.{◌++◌, ◌∷◌, [], All, map, length, append_assoc, ap, sym, subst, ◌∙◌, arith, false}
use Rattle.std.specs.List.{AllZip}
use Rattle.algebra.specs.Field.{multiple}
use Rattle.algebra.proofs.Lists.{all_zip-push}
use Rattle.p3_fri_extensions.proofs.Batches.{in_middle, nothing_left}
use Rattle.fri_schemes.specs.Rows.{FitsRows}
use Rattle.fri_numbers.specs.Listed.{IsListedBy}
use Rattle.fri_numbers.specs.Elements.{record_of}
use Rattle.fri_numbers.specs.Shapes.{IsMatrixBelow}
use Rattle.fri_numbers.proofs.Failed.{malformed}
use Rattle.fri_numbers.proofs.Kept.{pairs_mapped}
use Rattle.fri_numbers.proofs.matrices.evaluations_of_all.Goals as goal

pub loop-matrix-init : goal.loop-matrix-init
loop-matrix-init g c =
    let given = c.into_iter-matrix-iterator.ensures.into_iter_gives in
    record {
      fit = subst (λ es. All (λ e. FitsRows g.F.TwoAdicField.TWO_ADICITY false c.args.log_blowup e.0.log_size e.1) es)
          (sym c.in_ok-all.ensures.items) (λ i d h. absurd (omega (arith, h)));
      listed = subst (λ es. AllZip (λ e m. IsListedBy (λ n. multiple g.F.Field.ops n) (λ d. g.F.PrimeField64.canonical d.shift) (λ d. d.log_size) false e
          (record_of g.F.PrimeField64.canonical m)) es []) (sym c.in_ok-all.ensures.items) tt;
      well_formed = λ i d h. absurd (omega (arith, h));
      whole = given.0;
      count = given.1 ∙ c.args.matrices.ok.0 ∙ ap length (sym given.0);
    }

pub loop-matrix-preserved : goal.loop-matrix-preserved
loop-matrix-preserved g c =
    let pushed = c.in_ok-push.ensures.items in
    let step = c.in-Some.ensures.steps.0 in
    let fewer = c.in-Some.ensures.steps.1 in
    let counted = ap length step in
    let before = c.loop-matrix.invariant.count in
    record {
      fit = subst (λ es. All (λ e. FitsRows g.F.TwoAdicField.TWO_ADICITY false c.args.log_blowup e.0.log_size e.1) es)
          (sym pushed)
          (All-push (λ e. FitsRows g.F.TwoAdicField.TWO_ADICITY false c.args.log_blowup e.0.log_size e.1) c.loop-matrix.all.items
          c.in_ok-evaluations_of.field-0 c.loop-matrix.invariant.fit c.in_ok-evaluations_of.ensures.fits);
      listed = subst (λ es. AllZip (λ e m. IsListedBy (λ n. multiple g.F.Field.ops n) (λ d. g.F.PrimeField64.canonical d.shift) (λ d. d.log_size) false e
          (record_of g.F.PrimeField64.canonical m)) es (c.loop-matrix.yielded ++ c.in-Some.matrix ∷ [])) (sym pushed)
          (all_zip-push (λ e m. IsListedBy (λ n. multiple g.F.Field.ops n) (λ d. g.F.PrimeField64.canonical d.shift) (λ d. d.log_size) false e
          (record_of g.F.PrimeField64.canonical m)) c.loop-matrix.all.items c.loop-matrix.yielded c.in_ok-evaluations_of.field-0 c.in-Some.matrix
          c.loop-matrix.invariant.listed c.in_ok-evaluations_of.ensures.listed);
      well_formed = All-push (λ m. IsMatrixBelow g.F.PrimeField64.ORDER_U64 g.F.TwoAdicField.TWO_ADICITY false c.args.log_blowup
          (record_of g.F.PrimeField64.canonical m)) c.loop-matrix.yielded c.in-Some.matrix c.loop-matrix.invariant.well_formed
          c.in_ok-evaluations_of.ensures.well_formed;
      whole = append_assoc c.loop-matrix.yielded _ c.next.new.self.rest.items
          ∙ ap (λ t. c.loop-matrix.yielded ++ t) (sym step) ∙ c.loop-matrix.invariant.whole;
      count = omega arith;
    }

pub returns-clause-listed : goal.returns-clause-listed
returns-clause-listed g c =
    let all = nothing_left c.loop-matrix.yielded c.loop-matrix.matrix-iterator.rest.items c.args.matrices.items
    c.loop-matrix.matrix-iterator.rest.len c.loop-matrix.invariant.count c.in-None.ensures.steps.0 c.loop-matrix.invariant.whole in
    pairs_mapped (IsListedBy (λ n. multiple g.F.Field.ops n) (λ d. g.F.PrimeField64.canonical d.shift) (λ d. d.log_size) false)
    (record_of g.F.PrimeField64.canonical) c.loop-matrix.all.items c.args.matrices.items (rw (← all) c.loop-matrix.invariant.listed)

pub returns-clause-well_formed : goal.returns-clause-well_formed
returns-clause-well_formed g c =
    let all = nothing_left c.loop-matrix.yielded c.loop-matrix.matrix-iterator.rest.items c.args.matrices.items
    c.loop-matrix.matrix-iterator.rest.len c.loop-matrix.invariant.count c.in-None.ensures.steps.0 c.loop-matrix.invariant.whole in
    All-map (IsMatrixBelow g.F.PrimeField64.ORDER_U64 g.F.TwoAdicField.TWO_ADICITY false c.args.log_blowup)
    (record_of g.F.PrimeField64.canonical) c.args.matrices.items (rw (← all) c.loop-matrix.invariant.well_formed)

pub returns-in_err-evaluations_of-clause-refused : goal.returns-in_err-evaluations_of-clause-refused
returns-in_err-evaluations_of-clause-refused g c =
    let record_by = record_of g.F.PrimeField64.canonical in
    malformed _ _ _ c.from_residual-in_err-evaluations_of.ensures.1
    (λ whole. c.in_err-evaluations_of.ensures.refused
    (in_middle (IsMatrixBelow g.F.PrimeField64.ORDER_U64 g.F.TwoAdicField.TWO_ADICITY false c.args.log_blowup)
    (map record_by c.loop-matrix.yielded) (record_by c.in-Some.matrix) (map record_by c.next.new.self.rest.items)
    (subst (λ ms. All (IsMatrixBelow g.F.PrimeField64.ORDER_U64 g.F.TwoAdicField.TWO_ADICITY false c.args.log_blowup) ms)
    (ap (map record_by) (sym c.loop-matrix.invariant.whole ∙ ap (λ t. c.loop-matrix.yielded ++ t) c.in-Some.ensures.steps.0)
    ∙ map-append record_by c.loop-matrix.yielded (c.in-Some.matrix ∷ c.next.new.self.rest.items)) whole)))
