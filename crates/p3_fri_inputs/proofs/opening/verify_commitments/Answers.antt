use Rattle.std.proofs.Common.{◌∙◌, get_or, subst, sym, arith, below_more}
use Rattle.std.proofs.lemmas.List.{length-map, get_or_default}
use Rattle.std.specs.List.{zip}
use Rattle.p3_field_core.specs.declared.coset.TwoAdicMultiplicativeCoset.{TwoAdicMultiplicativeCoset as Coset}
use Rattle.p3_fri_relation.specs.Setting.{CommitmentClaim, InputOpening}
use Rattle.p3_fri_relation.specs.Inputs.{OpensInput}
use Rattle.p3_fri_relation.specs.Views.{claims_of, inputs_opened}
use Rattle.p3_fri_inputs.specs.Claims.{claim_of, input_of}
use Rattle.p3_fri_inputs.proofs.Opened.{all_zip_from}
use Rattle.p3_fri_inputs.proofs.opening.verify_commitments.Goals as goal

pub loop-batch-preserved : goal.loop-batch-preserved
loop-batch-preserved g c =
    let s = c.args.setting.now in
    let size = λ (domain : Coset g.row.F.Denot g.row.F-Prepared.Denot g.F.TwoAdicField g.F.Field g.F.PartialEq g.F.Add g.F.Sub g.F.Mul g.F.Neg). domain.log_size in
    let claims = s.claims.now in
    let openings = s.openings.now in
    let cs = claims_of size claims in
    let inputs = inputs_opened openings in
    let opens = OpensInput (g.InputMmcs.Mmcs.opens c.args.input_mmcs.now) s.log_blowup
    s.log_global_max_height s.indices.now in
    let i = c.loop-batch.batch in
    let at = c.in_ok-verify_commitment.ensures in
    below_more (λ j. (d : CommitmentClaim g.row.EF.Denot g.row.InputMmcs-Commitment.Denot × InputOpening g.row.F.Denot g.row.InputMmcs-MultiProof.Denot)
    → opens (get_or (zip cs inputs) j d).0 (get_or (zip cs inputs) j d).1) i c.loop-batch.invariant
    (λ d. subst (λ p. opens p.0 p.1) (sym at.2 ∙ get_or_default (zip cs inputs) i at.0 d at.1) at.3)

pub returns : goal.returns
returns g c =
    let s = c.args.setting.now in
    let size = λ (domain : Coset g.row.F.Denot g.row.F-Prepared.Denot g.F.TwoAdicField g.F.Field g.F.PartialEq g.F.Add g.F.Sub g.F.Mul g.F.Neg). domain.log_size in
    let claims = s.claims.now in
    let openings = s.openings.now in
    let cs = claims_of size claims in
    let inputs = inputs_opened openings in
    let opens = OpensInput (g.InputMmcs.Mmcs.opens c.args.input_mmcs.now) s.log_blowup
    s.log_global_max_height s.indices.now in
    let i = c.loop-batch.batch in
    all_zip_from opens cs inputs
    (length-map openings input_of ∙ c.requires.count ∙ sym (length-map claims (claim_of size)))
    (λ j l d. c.loop-batch.invariant j (omega (arith, l, length-map claims (claim_of size))) d)
