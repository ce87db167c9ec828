use Rattle.std.proofs.Common.{◌≡◌, ◌<◌, ◌∙◌, length, map, sym, ap, arith, eqb, true, false}
use Rattle.std.proofs.lemmas.List.{length-map}
use Rattle.std.proofs.lemmas.List.Folds.{list_any_at, list_any_none}
use Rattle.p3_field_core.specs.declared.coset.TwoAdicMultiplicativeCoset.{TwoAdicMultiplicativeCoset as Coset}
use Rattle.p3_fri_relation.specs.Setting.{MatrixClaim, CommitmentClaim}
use Rattle.p3_fri_relation.specs.Heights.{log_height, has_height}
use Rattle.p3_fri_relation.specs.Views.{matrix_claim, claims_of}
use Rattle.p3_fri_inputs.specs.Claims.{claim_of}
use Rattle.p3_fri_inputs.proofs.Places.{holds_next, holds_of_all}
use Rattle.p3_fri_inputs.proofs.LogHeights.{any_joined}
use Rattle.algebra.proofs.Lists.{entry_of_map}
use Rattle.p3_fri_inputs.proofs.heights.has_height.Goals as goal

pub returns-then-some_has_height : goal.returns-then-some_has_height
returns-then-some_has_height g c =
    let size = λ (domain : Coset g.row.F.Denot g.row.F-Prepared.Denot g.F.TwoAdicField g.F.Field g.F.PartialEq g.F.Add g.F.Sub g.F.Mul g.F.Neg). domain.log_size in
    let claims = c.args.claims.now in
    let i = c.loop-batch.batch in
    let cs = claims_of size claims in
    let it = c.index-claims-batch.result in
    let is = c.index-claims-batch.is in
    let below : i < length claims = c.loop-batch-test.true in
    let here : i < length cs = omega (arith, below, length-map claims (claim_of size)) in
    let e = claim_of size it in
    let is_c = entry_of_map (claim_of size) claims i it below is in
    let items : c.deref.result.now ≡ it.matrices.items =
    c.deref.ensures.value ∙ ap (λ x. x.matrices.items) (sym is) in
    let b = c.args.log_blowup in
    let h = c.args.height in
    let p = λ (m : MatrixClaim g.row.EF.Denot). eqb (log_height b m) h in
    let has = λ (d : CommitmentClaim g.row.EF.Denot g.row.Com.Denot). has_height b d.matrices h in
    let t : has e ≡ true =
    ap (λ xs. has_height b (map (matrix_claim size) xs) h) (sym items)
    ∙ sym c.some_has_height.ensures ∙ c.if-some_has_height.true in
    sym (any_joined p (λ d. d.matrices) cs ∙ list_any_at has cs i e here (ap has (sym is_c) ∙ t))

pub loop-batch-preserved : goal.loop-batch-preserved
loop-batch-preserved g c =
    let size = λ (domain : Coset g.row.F.Denot g.row.F-Prepared.Denot g.F.TwoAdicField g.F.Field g.F.PartialEq g.F.Add g.F.Sub g.F.Mul g.F.Neg). domain.log_size in
    let claims = c.args.claims.now in
    let i = c.loop-batch.batch in
    let cs = claims_of size claims in
    let it = c.index-claims-batch.result in
    let is = c.index-claims-batch.is in
    let below : i < length claims = c.loop-batch-test.true in
    let here : i < length cs = omega (arith, below, length-map claims (claim_of size)) in
    let e = claim_of size it in
    let is_c = entry_of_map (claim_of size) claims i it below is in
    let items : c.deref.result.now ≡ it.matrices.items =
    c.deref.ensures.value ∙ ap (λ x. x.matrices.items) (sym is) in
    let b = c.args.log_blowup in
    let h = c.args.height in
    let p = λ (m : MatrixClaim g.row.EF.Denot). eqb (log_height b m) h in
    let has = λ (d : CommitmentClaim g.row.EF.Denot g.row.Com.Denot). has_height b d.matrices h in
    let t : has e ≡ false =
    ap (λ xs. has_height b (map (matrix_claim size) xs) h) (sym items)
    ∙ sym c.some_has_height.ensures ∙ c.if-some_has_height.false in
    holds_next (claim_of size) (λ d. has d ≡ false) claims i it below is c.loop-batch.invariant t

pub returns : goal.returns
returns g c =
    let size = λ (domain : Coset g.row.F.Denot g.row.F-Prepared.Denot g.F.TwoAdicField g.F.Field g.F.PartialEq g.F.Add g.F.Sub g.F.Mul g.F.Neg). domain.log_size in
    let claims = c.args.claims.now in
    let i = c.loop-batch.batch in
    let cs = claims_of size claims in
    let b = c.args.log_blowup in
    let h = c.args.height in
    let p = λ (m : MatrixClaim g.row.EF.Denot). eqb (log_height b m) h in
    let has = λ (d : CommitmentClaim g.row.EF.Denot g.row.Com.Denot). has_height b d.matrices h in
    sym (any_joined p (λ d. d.matrices) cs
    ∙ list_any_none has cs
    (holds_of_all (claim_of size) (λ d. has d ≡ false) claims i (omega arith) c.loop-batch.invariant))
