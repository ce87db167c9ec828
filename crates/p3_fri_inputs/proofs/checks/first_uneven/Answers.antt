use Rattle.std.proofs.Common.{◌≡◌, ◌<◌, ◌∙◌, List, length, map, subst, sym, ap, arith, All}
use Rattle.std.proofs.lemmas.List.{length-map}
use Rattle.p3_field_core.specs.declared.coset.TwoAdicMultiplicativeCoset.{TwoAdicMultiplicativeCoset as Coset}
use Rattle.p3_fri_relation.specs.Setting.{MatrixClaim}
use Rattle.p3_fri_relation.specs.Heights.{width}
use Rattle.p3_fri_pow.specs.Counts.{IsWrongCount}
use Rattle.p3_fri_relation.specs.Faults.{At}
use Rattle.p3_fri_relation.specs.Views.{matrix_claim, claims_of}
use Rattle.p3_fri_inputs.specs.Claims.{claim_of, IsEven}
use Rattle.p3_fri_inputs.proofs.Places.{at_mapped, holds_next, all_of_parts}
use Rattle.algebra.proofs.Lists.{entry_of_map}
use Rattle.p3_fri_inputs.proofs.checks.first_uneven.Goals as goal

pub returns-in-Some : goal.returns-in-Some
returns-in-Some g c =
    let size = λ (domain : Coset g.row.F.Denot g.row.F-Prepared.Denot g.F.TwoAdicField g.F.Field g.F.PartialEq g.F.Add g.F.Sub g.F.Mul g.F.Neg). domain.log_size in
    let claims = c.args.claims.now in
    let i = c.loop-batch.batch in
    let cs = claims_of size claims in
    let it = c.index-claims-batch.result in
    let is = c.index-claims-batch.is in
    let below : i < length claims = c.loop-batch-test.true in
    let here : i < length cs = omega (arith, below, length-map claims (claim_of size)) in
    let e = claim_of size it in
    let is_c = entry_of_map (claim_of size) claims i it below is in
    let items : c.deref.result.now ≡ it.matrices.items =
    c.deref.ensures.value ∙ ap (λ x. x.matrices.items) (sym is) in
    let found = λ (ms : List (MatrixClaim g.row.EF.Denot)). At c.in-Some.matrix (λ m. At c.in-Some.point (λ z.
    IsWrongCount (width m) (length z.values) c.in-Some.expected c.in-Some.got) m.points) ms in
    at_mapped (claim_of size) (λ d. found d.matrices) claims i it below is
    (subst (λ xs. found (map (matrix_claim size) xs)) items c.in-Some.ensures)

pub loop-batch-preserved : goal.loop-batch-preserved
loop-batch-preserved g c =
    let size = λ (domain : Coset g.row.F.Denot g.row.F-Prepared.Denot g.F.TwoAdicField g.F.Field g.F.PartialEq g.F.Add g.F.Sub g.F.Mul g.F.Neg). domain.log_size in
    let claims = c.args.claims.now in
    let i = c.loop-batch.batch in
    let cs = claims_of size claims in
    let it = c.index-claims-batch.result in
    let is = c.index-claims-batch.is in
    let below : i < length claims = c.loop-batch-test.true in
    let here : i < length cs = omega (arith, below, length-map claims (claim_of size)) in
    let e = claim_of size it in
    let is_c = entry_of_map (claim_of size) claims i it below is in
    let items : c.deref.result.now ≡ it.matrices.items =
    c.deref.ensures.value ∙ ap (λ x. x.matrices.items) (sym is) in
    holds_next (claim_of size) (λ d. All IsEven d.matrices) claims i it below is
    c.loop-batch.invariant
    (subst (λ xs. All IsEven (map (matrix_claim size) xs)) items c.in_default.ensures)

pub returns : goal.returns
returns g c =
    let size = λ (domain : Coset g.row.F.Denot g.row.F-Prepared.Denot g.F.TwoAdicField g.F.Field g.F.PartialEq g.F.Add g.F.Sub g.F.Mul g.F.Neg). domain.log_size in
    let claims = c.args.claims.now in
    let i = c.loop-batch.batch in
    let cs = claims_of size claims in
    all_of_parts (claim_of size) (λ d. d.matrices) IsEven claims i (omega arith)
    c.loop-batch.invariant
