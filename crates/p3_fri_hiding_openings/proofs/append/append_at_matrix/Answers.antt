use Rattle.std.proofs.Common.{◌≡◌, ◌≤◌, ◌/◌, ℕ, length, ◌∙◌, refl, sym, subst}
use Rattle.std.proofs.lemmas.List.{length-map}
use Rattle.algebra.specs.Nested.{lists}
use Rattle.p3_fri_masks.specs.Budget.{required_height}
use Rattle.p3_pcs.specs.Claims.{point_claim}
use Rattle.p3_fri_relation.specs.Views.{matrix_claim}
use Rattle.p3_fri_hiding_openings.proofs.Places.{right_of_all, when_none}
use Rattle.p3_fri_hiding_openings.proofs.Faulty.{budget_met}
use Rattle.p3_fri_hiding_openings.proofs.append.append_at_matrix.Goals as goal

pub returns-in-Ok-clause-fits : goal.returns-in-Ok-clause-fits
returns-in-Ok-clause-fits g c =
    let points = c.args.claim.now.points in
    let counted = c.len-num_opening_points.ensures ∙ points.ok.0
    ∙ sym (length-map points.items point_claim) in
    record {
      budget = budget_met c.args.num_queries g.EF.ExtensionField.DIMENSION
          c.len-num_opening_points.result c.size-mask_height.result
          (matrix_claim (λ d. d.log_size) c.args.claim.now) counted c.size-mask_height.ensures
          (subst (λ (n : ℕ). required_height c.args.num_queries n c.len-num_opening_points.result
          ≤ c.size-mask_height.result / 2) c.DIMENSION.ensures
          (c.is_budget_met.ensures.0 c.if-not-is_budget_met.false));
      nest = right_of_all (λ values. length values ≡ c.args.expected) _ (lists c.args.random.now)
          (length-map c.args.random.now (λ vector. vector.items)
          ∙ c.if-random-num_opening_points.false ∙ counted)
          (when_none c.wrong_count.result _ _ c.wrong_count.ensures c.in_default.not-Some);
    }

pub returns-then-random-num_opening_points-clause-stands :
    goal.returns-then-random-num_opening_points-clause-stands
returns-then-random-num_opening_points-clause-stands g c =
    let points = c.args.claim.now.points in (
      refl,
      refl,
      record {
        expected_is = c.len-num_opening_points.ensures ∙ points.ok.0
            ∙ sym (length-map points.items point_claim);
        got_is = sym (length-map c.args.random.now (λ vector. vector.items));
        differ = λ same. c.if-random-num_opening_points.true (sym same);
      },
    )
