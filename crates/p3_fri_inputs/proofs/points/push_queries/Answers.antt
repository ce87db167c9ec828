use Rattle.std.proofs.Common.{◌≡◌, ◌++◌, ◌∙◌, ℕ, get_or, subst, ap, arith}
use Rattle.std.proofs.Common.{All, below_more}
use Rattle.std.proofs.lemmas.List.{get_or_default}
use Rattle.algebra.proofs.Growing.{joined_pushed, joined_end}
use Rattle.p3_fri_relation.specs.Setting.{Fields}
use Rattle.p3_fri_relation.specs.Heights.{log_height, matrices_of}
use Rattle.p3_fri_relation.specs.QuotientSums.{point_read}
use Rattle.p3_fri_relation.specs.Views.{claims_of}
use Rattle.p3_fri_inputs.specs.Claims.{distances, IsApart}
use Rattle.p3_fri_inputs.proofs.Places.{of_some, of_none}
use Rattle.p3_fri_inputs.proofs.Queries.{apart_agree, distances_agree, met_by_query}
use Rattle.p3_fri_inputs.proofs.points.push_queries.Given.{Over}
use Rattle.p3_fri_inputs.proofs.points.push_queries.Goals as goal

abbrev fields_of : (g : Over) → Fields g.row.F.Denot g.row.EF.Denot
fields_of g = record {
  base = g.F.Field.ops;
  ext = g.EF.Field.ops;
  lift = g.EF.ExtensionField.lift;
  coefficients = g.EF.ExtensionField.coefficients;
  degree = g.EF.ExtensionField.DIMENSION;
  root = g.F.TwoAdicField.root;
  two_adicity = g.F.TwoAdicField.TWO_ADICITY;
  shift = g.F.Field.GENERATOR;
}

pub returns-in-Some : goal.returns-in-Some
returns-in-Some g c =
    let place = c.in-Some.place in
    let zero = g.F.Field.ops.zero in
    let lift = g.EF.ExtensionField.lift in
    met_by_query (fields_of g) c.args.log_blowup c.args.log_global_max_height
    (claims_of (λ domain. domain.log_size) c.args.claims.now) c.args.indices.now c.loop-j.j
    (λ h. lift (get_or c.read_points.new.read h zero)) place.0 place.1 place.2
    c.requires.heights c.loop-j-test.true (λ h low. ap lift (c.read_points.ensures h zero low))
    (of_some c.in_ok-place.field-0 place _ _ c.in-Some.is c.in_ok-place.ensures)

pub loop-j-preserved : goal.loop-j-preserved
loop-j-preserved g c =
    let ms = matrices_of (claims_of (λ domain. domain.log_size) c.args.claims.now) in
    let b = c.args.log_blowup in
    let x = λ (q : ℕ). point_read (fields_of g) c.args.log_global_max_height q in
    let indices = c.args.indices.now in
    let j = c.loop-j.j in
    let q = get_or indices j 0 in
    let below = c.loop-j-test.true in
    let y = λ (h : ℕ).
    g.EF.ExtensionField.lift (get_or c.read_points.new.read h g.F.Field.ops.zero) in
    let agree : All (λ m. y (log_height b m) ≡ x q (log_height b m)) ms =
    λ k m l. ap g.EF.ExtensionField.lift (c.read_points.ensures (log_height b (get_or ms k m))
    g.F.Field.ops.zero (c.requires.heights k m l)) in
    let known = of_none c.in_ok-place.field-0 _ _ c.in_default.is c.in_ok-place.ensures in
    let old = c.loop-j.differences.items in
    record {
      long = c.read_points.auto.read ∙ c.loop-j.invariant.long;
      apart = below_more (λ i. (d : ℕ) → All (IsApart b (x (get_or indices i d))) ms) j
          c.loop-j.invariant.apart
          (λ d. subst (λ p. All (IsApart b (x p)) ms) (get_or_default indices j 0 d below)
          (apart_agree b y (x q) ms agree known.0));
      pushed = joined_pushed (λ q. distances g.EF.Field.ops b (x q) ms) indices j q
          c.args.differences.now.items old c.push_claims.new.differences.items below
          (get_or_default indices j 0 q below) c.loop-j.invariant.pushed
          (known.1 ∙ ap (λ ds. old ++ ds) (distances_agree b g.EF.Field.ops y (x q) ms agree));
    }

pub returns : goal.returns
returns g c =
    let ms = matrices_of (claims_of (λ domain. domain.log_size) c.args.claims.now) in (
      λ i l d. c.loop-j.invariant.apart i (omega (arith, l)) d,
      joined_end (λ q. distances g.EF.Field.ops c.args.log_blowup
          (point_read (fields_of g) c.args.log_global_max_height q) ms) c.args.indices.now
          c.loop-j.j c.args.differences.now.items c.loop-j.differences.items c.loop-j-test.false
          c.loop-j.invariant.pushed,
    )
