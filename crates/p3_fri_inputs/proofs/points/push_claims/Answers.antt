use Rattle.std.proofs.Common.{◌≡◌, ◌++◌, ◌<◌, ◌∙◌, ℕ, length, map, get_or, sym, ap, arith, All}
use Rattle.std.proofs.lemmas.List.{length-map}
use Rattle.algebra.specs.Field.{sub}
use Rattle.p3_field_core.specs.declared.coset.TwoAdicMultiplicativeCoset.{TwoAdicMultiplicativeCoset as Coset}
use Rattle.p3_fri_relation.specs.Setting.{MatrixClaim, CommitmentClaim}
use Rattle.p3_fri_relation.specs.Heights.{log_height}
use Rattle.p3_fri_relation.specs.Faults.{At}
use Rattle.p3_fri_relation.specs.Views.{claims_of}
use Rattle.p3_fri_inputs.specs.Claims.{claim_of, distances, IsApart}
use Rattle.p3_fri_inputs.proofs.Places.{at_mapped, holds_next, all_of_parts, of_some}
use Rattle.p3_fri_inputs.proofs.Places.{of_none}
use Rattle.algebra.proofs.Growing.{joined_pushed, joined_end}
use Rattle.algebra.proofs.Lists.{entry_of_map}
use Rattle.p3_fri_inputs.proofs.Openings.{joined_twice, all_of_one}
use Rattle.p3_fri_inputs.proofs.points.push_claims.Goals as goal

pub push_commitment-requires : goal.push_commitment-requires
push_commitment-requires g c =
    let size = λ (domain : Coset g.row.F.Denot g.row.F-Prepared.Denot g.F.TwoAdicField g.F.Field g.F.PartialEq g.F.Add g.F.Sub g.F.Mul g.F.Neg). domain.log_size in
    let claims = c.args.claims.now in
    let i = c.loop-batch.batch in
    let cs = claims_of size claims in
    let it = c.index-claims-batch.result in
    let is = c.index-claims-batch.is in
    let below : i < length claims = c.loop-batch-test.true in
    let here : i < length cs = omega (arith, below, length-map claims (claim_of size)) in
    let e = claim_of size it in
    let is_c = entry_of_map (claim_of size) claims i it below is in
    record {
      heights = all_of_one (λ m. log_height c.args.log_blowup m < length c.args.read.now) cs
          c.requires i e here is_c;
    }

pub returns-in-Some : goal.returns-in-Some
returns-in-Some g c =
    let size = λ (domain : Coset g.row.F.Denot g.row.F-Prepared.Denot g.F.TwoAdicField g.F.Field g.F.PartialEq g.F.Add g.F.Sub g.F.Mul g.F.Neg). domain.log_size in
    let claims = c.args.claims.now in
    let i = c.loop-batch.batch in
    let cs = claims_of size claims in
    let it = c.index-claims-batch.result in
    let is = c.index-claims-batch.is in
    let below : i < length claims = c.loop-batch-test.true in
    let here : i < length cs = omega (arith, below, length-map claims (claim_of size)) in
    let e = claim_of size it in
    let is_c = entry_of_map (claim_of size) claims i it below is in
    let b = c.args.log_blowup in
    let read = λ (h : ℕ). g.EF.ExtensionField.lift (get_or c.args.read.now h g.F.Field.ops.zero) in
    let under = λ (d : CommitmentClaim g.row.EF.Denot g.row.Com.Denot).
    distances g.EF.Field.ops b read d.matrices in
    at_mapped (claim_of size) (λ d. At c.in-Some.matrix (λ m. At c.in-Some.point (λ z.
    z.point ≡ read (log_height b m)) m.points) d.matrices) claims i it below is
    (of_some c.in_ok-matrix.field-0 (c.in-Some.matrix, c.in-Some.point) _ _ c.in-Some.is
    c.in_ok-matrix.ensures)

pub loop-batch-preserved : goal.loop-batch-preserved
loop-batch-preserved g c =
    let size = λ (domain : Coset g.row.F.Denot g.row.F-Prepared.Denot g.F.TwoAdicField g.F.Field g.F.PartialEq g.F.Add g.F.Sub g.F.Mul g.F.Neg). domain.log_size in
    let claims = c.args.claims.now in
    let i = c.loop-batch.batch in
    let cs = claims_of size claims in
    let it = c.index-claims-batch.result in
    let is = c.index-claims-batch.is in
    let below : i < length claims = c.loop-batch-test.true in
    let here : i < length cs = omega (arith, below, length-map claims (claim_of size)) in
    let e = claim_of size it in
    let is_c = entry_of_map (claim_of size) claims i it below is in
    let b = c.args.log_blowup in
    let read = λ (h : ℕ). g.EF.ExtensionField.lift (get_or c.args.read.now h g.F.Field.ops.zero) in
    let under = λ (d : CommitmentClaim g.row.EF.Denot g.row.Com.Denot).
    distances g.EF.Field.ops b read d.matrices in
    let known = of_none c.in_ok-matrix.field-0 _ _ c.in_default.is c.in_ok-matrix.ensures in
    record {
      apart = holds_next (claim_of size) (λ d. All (IsApart b read) d.matrices) claims i it below is
          c.loop-batch.invariant.apart known.0;
      pushed = joined_pushed under cs i e c.args.differences.now.items c.loop-batch.differences.items
          c.push_commitment.new.differences.items here is_c c.loop-batch.invariant.pushed known.1;
    }

pub returns : goal.returns
returns g c =
    let size = λ (domain : Coset g.row.F.Denot g.row.F-Prepared.Denot g.F.TwoAdicField g.F.Field g.F.PartialEq g.F.Add g.F.Sub g.F.Mul g.F.Neg). domain.log_size in
    let claims = c.args.claims.now in
    let i = c.loop-batch.batch in
    let cs = claims_of size claims in
    let b = c.args.log_blowup in
    let read = λ (h : ℕ). g.EF.ExtensionField.lift (get_or c.args.read.now h g.F.Field.ops.zero) in
    let under = λ (d : CommitmentClaim g.row.EF.Denot g.row.Com.Denot).
    distances g.EF.Field.ops b read d.matrices in
    let distance = λ (m : MatrixClaim g.row.EF.Denot).
    map (λ z. sub g.EF.Field.ops z.point (read (log_height b m))) m.points in (
      all_of_parts (claim_of size) (λ d. d.matrices) (IsApart b read) claims i (omega arith)
          c.loop-batch.invariant.apart,
      joined_end under cs i c.args.differences.now.items c.loop-batch.differences.items
          (omega (arith, length-map claims (claim_of size))) c.loop-batch.invariant.pushed
          ∙ ap (λ ds. c.args.differences.now.items ++ ds)
          (sym (joined_twice distance (λ d. d.matrices) cs)),
    )
