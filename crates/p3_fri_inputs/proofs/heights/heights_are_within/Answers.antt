use Rattle.std.proofs.Common.{◌≡◌, ◌<◌, ◌≤◌, ◌∙◌, length, map, subst, sym, ap, refl, arith, All}
use Rattle.std.proofs.lemmas.List.{length-map}
use Rattle.std.proofs.lemmas.Bool.{true≢false, false≢true}
use Rattle.p3_field_core.specs.declared.coset.TwoAdicMultiplicativeCoset.{TwoAdicMultiplicativeCoset as Coset}
use Rattle.p3_fri_relation.specs.Setting.{MatrixClaim}
use Rattle.p3_fri_relation.specs.Heights.{log_height}
use Rattle.p3_fri_relation.specs.Views.{matrix_claim, claims_of}
use Rattle.p3_fri_inputs.specs.Claims.{claim_of}
use Rattle.p3_fri_inputs.proofs.Places.{holds_next, all_of_parts}
use Rattle.p3_fri_inputs.proofs.Openings.{all_of_one}
use Rattle.algebra.proofs.Lists.{entry_of_map}
use Rattle.p3_fri_inputs.proofs.heights.heights_are_within.Goals as goal

pub returns-then-not-are_within : goal.returns-then-not-are_within
returns-then-not-are_within g c =
    let size = λ (domain : Coset g.row.F.Denot g.row.F-Prepared.Denot g.F.TwoAdicField g.F.Field g.F.PartialEq g.F.Add g.F.Sub g.F.Mul g.F.Neg). domain.log_size in
    let claims = c.args.claims.now in
    let i = c.loop-batch.batch in
    let cs = claims_of size claims in
    let it = c.index-claims-batch.result in
    let is = c.index-claims-batch.is in
    let below : i < length claims = c.loop-batch-test.true in
    let here : i < length cs = omega (arith, below, length-map claims (claim_of size)) in
    let e = claim_of size it in
    let is_c = entry_of_map (claim_of size) claims i it below is in
    let items : c.deref.result.now ≡ it.matrices.items =
    c.deref.ensures.value ∙ ap (λ x. x.matrices.items) (sym is) in
    let b = c.args.log_blowup in
    let fits = λ (m : MatrixClaim g.row.EF.Denot). log_height b m ≤ c.args.bound in (
      λ ok. absurd (false≢true ok),
      λ all. absurd (true≢false (sym (c.are_within.ensures.1
          (subst (λ xs. All fits (map (matrix_claim size) xs)) (sym items)
          (all_of_one fits cs all i e here is_c))) ∙ c.if-not-are_within.true)),
    )

pub loop-batch-preserved : goal.loop-batch-preserved
loop-batch-preserved g c =
    let size = λ (domain : Coset g.row.F.Denot g.row.F-Prepared.Denot g.F.TwoAdicField g.F.Field g.F.PartialEq g.F.Add g.F.Sub g.F.Mul g.F.Neg). domain.log_size in
    let claims = c.args.claims.now in
    let i = c.loop-batch.batch in
    let cs = claims_of size claims in
    let it = c.index-claims-batch.result in
    let is = c.index-claims-batch.is in
    let below : i < length claims = c.loop-batch-test.true in
    let here : i < length cs = omega (arith, below, length-map claims (claim_of size)) in
    let e = claim_of size it in
    let is_c = entry_of_map (claim_of size) claims i it below is in
    let items : c.deref.result.now ≡ it.matrices.items =
    c.deref.ensures.value ∙ ap (λ x. x.matrices.items) (sym is) in
    let b = c.args.log_blowup in
    let fits = λ (m : MatrixClaim g.row.EF.Denot). log_height b m ≤ c.args.bound in
    holds_next (claim_of size) (λ d. All fits d.matrices) claims i it below is c.loop-batch.invariant
    (subst (λ xs. All fits (map (matrix_claim size) xs)) items
    (c.are_within.ensures.0 c.if-not-are_within.false))

pub returns : goal.returns
returns g c =
    let size = λ (domain : Coset g.row.F.Denot g.row.F-Prepared.Denot g.F.TwoAdicField g.F.Field g.F.PartialEq g.F.Add g.F.Sub g.F.Mul g.F.Neg). domain.log_size in
    let claims = c.args.claims.now in
    let i = c.loop-batch.batch in
    let cs = claims_of size claims in
    let b = c.args.log_blowup in
    let fits = λ (m : MatrixClaim g.row.EF.Denot). log_height b m ≤ c.args.bound in (
      λ ok. all_of_parts (claim_of size) (λ d. d.matrices) fits claims i (omega arith)
          c.loop-batch.invariant,
      λ all. refl,
    )
