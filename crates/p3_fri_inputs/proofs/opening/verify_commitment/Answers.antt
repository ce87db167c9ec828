use Rattle.std.proofs.Common.{◌≡◌, ◌<◌, ◌≤◌, ◌∙◌, length, map, subst, sym, ap, refl, arith}
use Rattle.std.proofs.Common.{All, inr, ◌↔◌}
use Rattle.std.proofs.lemmas.Bool.{false≢true}
use Rattle.std.proofs.lemmas.List.{length-map}
use Rattle.std.specs.List.{Any}
use Rattle.algebra.specs.Nested.{nested}
use Rattle.algebra.proofs.Nested.{length-nested}
use Rattle.p3_mmcs.specs.Batch.{max_height, AreBelow, HavePowerHeights}
use Rattle.p3_fri_relation.specs.Heights.{log_height, dimensions, opened_index}
use Rattle.p3_fri_relation.specs.Inputs.{OpensInput}
use Rattle.p3_fri_pow.specs.Counts.{IsWrongCount}
use Rattle.p3_fri_relation.specs.Views.{matrix_claim}
use Rattle.p3_fri_inputs.specs.Claims.{claim_of, input_of}
use Rattle.p3_fri_inputs.proofs.Places.{at_mapped}
use Rattle.p3_fri_inputs.proofs.Openings.{all_of_claim}
use Rattle.p3_fri_inputs.proofs.Opened.{at_mapped_zip, opened_as, power_heights, indices_below}
use Rattle.p3_fri_inputs.proofs.opening.verify_commitment.Given.{Over}
use Rattle.p3_fri_inputs.proofs.opening.verify_commitment.Goals.{In_default, After-deref-6}
use Rattle.p3_fri_inputs.proofs.opening.verify_commitment.Goals as goal

-- the batch's matrices are within the greatest log height
heights : (g : Over) (c : In_default g)
    → All
    (λ m. log_height c.args.setting.now.log_blowup m ≤ c.args.setting.now.log_global_max_height)
    (claim_of (λ domain. domain.log_size) c.index-claims-batch.result).matrices
heights g c =
    let s = c.args.setting.now in
    all_of_claim (λ domain. domain.log_size)
    (λ m. log_height s.log_blowup m ≤ s.log_global_max_height) s.claims.now
    c.requires.heights c.args.batch c.requires.batch c.index-claims-batch.is

-- the dimensions and indices that are passed are those of the batch's matrices
dimensions_passed : (g : Over) (c : After-deref-6 g) → c.deref-4.result.now
    ≡ map (dimensions c.args.setting.now.log_blowup)
    (claim_of (λ domain. domain.log_size) c.index-claims-batch.result).matrices
dimensions_passed g c =
    c.deref-4.ensures.value ∙ c.in_ok-dims.ensures
    ∙ ap (λ xs. map (dimensions c.args.setting.now.log_blowup)
    (map (matrix_claim (λ domain. domain.log_size)) xs)) c.deref-2.ensures.value

indices_passed : (g : Over) (c : After-deref-6 g) → c.deref-5.result.now
    ≡ map (opened_index c.args.setting.now.log_blowup c.args.setting.now.log_global_max_height
    (claim_of (λ domain. domain.log_size) c.index-claims-batch.result).matrices)
    c.args.setting.now.indices.now
indices_passed g c =
    let s = c.args.setting.now in
    c.deref-5.ensures.value ∙ c.in_ok-opened.ensures
    ∙ ap (λ xs. map (opened_index s.log_blowup s.log_global_max_height
    (map (matrix_claim (λ domain. domain.log_size)) xs)) s.indices.now) c.deref-3.ensures.value

-- the scheme is asked whether the batch's openings are its matrices'
asked : (g : Over) (c : After-deref-6 g)
    → (g.InputMmcs.Mmcs.opens c.args.input_mmcs.now c.index-claims-batch.result.commitment
    c.deref-4.result.now c.deref-5.result.now (nested c.deref-6.result.now)
    c.index-openings-batch.result.opening_proof)
    ↔ OpensInput (g.InputMmcs.Mmcs.opens c.args.input_mmcs.now) c.args.setting.now.log_blowup
    c.args.setting.now.log_global_max_height c.args.setting.now.indices.now
    (claim_of (λ domain. domain.log_size) c.index-claims-batch.result)
    (input_of c.index-openings-batch.result)
asked g c =
    let s = c.args.setting.now in
    opened_as (g.InputMmcs.Mmcs.opens c.args.input_mmcs.now) s.log_blowup
    s.log_global_max_height s.indices.now
    (claim_of (λ domain. domain.log_size) c.index-claims-batch.result)
    (input_of c.index-openings-batch.result) _ _ _
    (dimensions_passed g c) (indices_passed g c) (ap nested c.deref-6.ensures.value)

pub returns-then-got-indices : goal.returns-then-got-indices
returns-then-got-indices g c =
    let s = c.args.setting.now in
    let opening = c.index-openings-batch.result in
    inr (λ alpha. at_mapped input_of (λ o. IsWrongCount (length s.indices.now) (length o.rows)
    (length s.indices.now) c.len-got.result) s.openings.now c.args.batch opening
    (omega (arith, c.requires.batch, c.requires.count)) c.index-openings-batch.is
    (record {
      expected_is = refl;
      got_is = c.len-got.ensures ∙ opening.opened_values.ok.0
          ∙ sym (length-nested opening.opened_values.items);
      differ = λ q. c.if-got-indices.true (sym q);
    }))

pub returns-in-Some : goal.returns-in-Some
returns-in-Some g c =
    let s = c.args.setting.now in
    let claim = c.index-claims-batch.result in
    let any = c.in-Some.ensures.1 in
    inr (λ alpha. at_mapped_zip (claim_of (λ domain. domain.log_size)) input_of
    (λ p. Any (λ rows. IsWrongCount (length p.0.matrices) (length rows) c.len-expected.result
    c.in-Some.got) p.1.rows) s.claims.now s.openings.now c.args.batch c.requires.count
    c.requires.batch c.index-claims-batch.is c.index-openings-batch.is
    (subst (Any (λ rows. IsWrongCount (length (map (matrix_claim (λ domain. domain.log_size))
    claim.matrices.items)) (length rows) c.len-expected.result c.in-Some.got))
    (ap nested c.deref.ensures.value) (
      any.0,
      any.1,
      any.2,
      any.3,
      record {
        expected_is = c.len-expected.ensures ∙ claim.matrices.ok.0
            ∙ sym (length-map claim.matrices.items (matrix_claim (λ domain. domain.log_size)));
        got_is = sym any.4;
        differ = λ q. c.in-Some.ensures.0 (sym q);
      },
    )))

pub claimed_dimensions-requires : goal.claimed_dimensions-requires
claimed_dimensions-requires g c =
    let within = heights g (goal.at.claimed_dimensions-requires g c).In_default in
    record {
      heights = subst (λ xs. All (λ m. log_height c.args.setting.now.log_blowup m < 64)
          (map (matrix_claim (λ domain. domain.log_size)) xs)) (sym c.deref-2.ensures.value)
          (λ k m l. omega (
            arith,
            within k m l,
            c.requires.within_two_adicity,
            g.met.F.TwoAdicField.two_adicity_law,
          ));
    }

pub opened_indices-requires-clause-heights : goal.opened_indices-requires-clause-heights
opened_indices-requires-clause-heights g c =
    let s = c.args.setting.now in
    subst (λ xs. All (λ m. log_height s.log_blowup m ≤ s.log_global_max_height)
    (map (matrix_claim (λ domain. domain.log_size)) xs)) (sym c.deref-3.ensures.value)
    (heights g (goal.at.opened_indices-requires-clause-heights g c).In_default)

pub verify_multi_batch-requires-clause-heights : goal.verify_multi_batch-requires-clause-heights
verify_multi_batch-requires-clause-heights g c =
    let at = goal.at.verify_multi_batch-requires-clause-heights g c in
    subst HavePowerHeights (sym (dimensions_passed g at.After-deref-6))
    (power_heights c.args.setting.now.log_blowup
    (claim_of (λ domain. domain.log_size) c.index-claims-batch.result).matrices)

pub verify_multi_batch-requires-clause-below : goal.verify_multi_batch-requires-clause-below
verify_multi_batch-requires-clause-below g c =
    let s = c.args.setting.now in
    let at = goal.at.verify_multi_batch-requires-clause-below g c in
    let ms = (claim_of (λ domain. domain.log_size) c.index-claims-batch.result).matrices in
    subst (λ dims. AreBelow (max_height dims) c.deref-5.result.now)
    (sym (dimensions_passed g at.After-deref-6))
    (subst (AreBelow (max_height (map (dimensions s.log_blowup) ms)))
    (sym (indices_passed g at.After-deref-6))
    (indices_below s.log_blowup ms s.log_global_max_height s.indices.now
    (heights g at.In_default) c.requires.below))

pub returns-in-Ok : goal.returns-in-Ok
returns-in-Ok g c =
    let s = c.args.setting.now in
    at_mapped_zip (claim_of (λ domain. domain.log_size)) input_of
    (λ p. OpensInput (g.InputMmcs.Mmcs.opens c.args.input_mmcs.now) s.log_blowup
    s.log_global_max_height s.indices.now p.0 p.1) s.claims.now s.openings.now
    c.args.batch c.requires.count c.requires.batch c.index-claims-batch.is
    c.index-openings-batch.is
    ((asked g (goal.at.returns-in-Ok g c).After-deref-6).0 (c.in-Ok.ensures.opens.0 refl))

pub returns : goal.returns
returns g c =
    let s = c.args.setting.now in
    let wrong = at_mapped_zip (claim_of (λ domain. domain.log_size)) input_of
    (λ p. ¬ OpensInput (g.InputMmcs.Mmcs.opens c.args.input_mmcs.now) s.log_blowup
    s.log_global_max_height s.indices.now p.0 p.1) s.claims.now s.openings.now
    c.args.batch c.requires.count c.requires.batch c.index-claims-batch.is
    c.index-openings-batch.is
    (λ h. false≢true (c.in-Err.ensures.opens.1
    ((asked g (goal.at.returns g c).After-deref-6).1 h))) in
    inr (λ alpha. (c.args.batch, wrong.0, wrong.1, wrong.2, wrong.3))
