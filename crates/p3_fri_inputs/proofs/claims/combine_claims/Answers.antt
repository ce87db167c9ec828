use Rattle.std.proofs.Common.{All, ◌++◌, ◌∷◌, ◌<◌, ◌∙◌, [], length, map, ap, sym, subst, arith}
use Rattle.std.proofs.lemmas.List.{length-map, map-append}
use Rattle.algebra.specs.Nested.{lists}
use Rattle.p3_field_core.specs.declared.coset.TwoAdicMultiplicativeCoset.{TwoAdicMultiplicativeCoset as Coset}
use Rattle.p3_fri_relation.specs.Setting.{CommitmentClaim}
use Rattle.p3_fri_relation.specs.Views.{matrix_claim, claims_of}
use Rattle.p3_fri_inputs.specs.Claims.{claim_of, combined_values, IsWithin}
use Rattle.algebra.proofs.Growing.{mapped_more, mapped_end}
use Rattle.algebra.proofs.Lists.{entry_of_map}
use Rattle.p3_fri_inputs.proofs.Openings.{all_of_one}
use Rattle.std.proofs.lemmas.Result.{IfOk-from_err}
use Rattle.p3_fri_inputs.proofs.claims.combine_claims.Goals as goal

pub combine_claim-requires : goal.combine_claim-requires
combine_claim-requires g c =
    let size = λ (domain : Coset g.row.F.Denot g.row.F-Prepared.Denot g.F.TwoAdicField g.F.Field g.F.PartialEq g.F.Add g.F.Sub g.F.Mul g.F.Neg). domain.log_size in
    let claims = c.args.claims.now in
    let i = c.loop-batch.batch in
    let cs = claims_of size claims in
    let it = c.index-claims-batch.result in
    let is = c.index-claims-batch.is in
    let below : i < length claims = c.loop-batch-test.true in
    let here : i < length cs = omega (arith, below, length-map claims (claim_of size)) in
    let e = claim_of size it in
    let is_c = entry_of_map (claim_of size) claims i it below is in
    let items = c.deref.ensures.value ∙ ap (λ x. x.matrices.items) (sym is) in
    record {
      within = subst (λ xs. All (IsWithin c.args.ladder.now.powers.len) (map (matrix_claim size) xs))
          (sym items) (all_of_one (IsWithin c.args.ladder.now.powers.len) cs c.requires i e here is_c);
    }

pub loop-batch-preserved : goal.loop-batch-preserved
loop-batch-preserved g c =
    let size = λ (domain : Coset g.row.F.Denot g.row.F-Prepared.Denot g.F.TwoAdicField g.F.Field g.F.PartialEq g.F.Add g.F.Sub g.F.Mul g.F.Neg). domain.log_size in
    let claims = c.args.claims.now in
    let i = c.loop-batch.batch in
    let cs = claims_of size claims in
    let it = c.index-claims-batch.result in
    let is = c.index-claims-batch.is in
    let below : i < length claims = c.loop-batch-test.true in
    let here : i < length cs = omega (arith, below, length-map claims (claim_of size)) in
    let e = claim_of size it in
    let is_c = entry_of_map (claim_of size) claims i it below is in
    let under = λ (d : CommitmentClaim g.row.EF.Denot g.row.Com.Denot).
    combined_values g.EF.Field.ops c.args.ladder.now.alpha d.matrices in
    let old = c.loop-batch.combined.items in
    let new = c.in_ok-combine_claim.field-0 in
    mapped_more under cs i e (lists old) (lists c.push.new.self.items) here is_c
    c.loop-batch.invariant
    (ap lists c.in_ok-push.ensures.items ∙ map-append (λ v. v.items) old (new ∷ [])
    ∙ ap (λ v. lists old ++ v ∷ []) (c.in_ok-combine_claim.ensures
    ∙ ap (λ xs. combined_values g.EF.Field.ops c.args.ladder.now.alpha (map (matrix_claim size) xs))
    (c.deref.ensures.value ∙ ap (λ x. x.matrices.items) (sym is))))

pub returns : goal.returns
returns g c =
    let size = λ (domain : Coset g.row.F.Denot g.row.F-Prepared.Denot g.F.TwoAdicField g.F.Field g.F.PartialEq g.F.Add g.F.Sub g.F.Mul g.F.Neg). domain.log_size in
    let under = λ (d : CommitmentClaim g.row.EF.Denot g.row.Com.Denot).
    combined_values g.EF.Field.ops c.args.ladder.now.alpha d.matrices in
    mapped_end under (claims_of size c.args.claims.now) c.loop-batch.batch [] (lists c.loop-batch.combined.items)
    (omega (arith, length-map c.args.claims.now (claim_of size))) c.loop-batch.invariant

-- where nothing is answered nothing is said of the answer
pub returns-in_err-combine_claim : goal.returns-in_err-combine_claim
returns-in_err-combine_claim g c =
    IfOk-from_err c.from_residual-in_err-combine_claim.result _ c.from_residual-in_err-combine_claim.ensures.0

pub returns-in_err-push : goal.returns-in_err-push
returns-in_err-push g c =
    IfOk-from_err c.from_residual-in_err-push.result _ c.from_residual-in_err-push.ensures.0
