use Rattle.std.proofs.Common.{◌≡◌, ◌<◌, ◌≤◌, ◌∙◌, length, map, subst, sym, ap, arith, All}
use Rattle.std.proofs.lemmas.List.{length-map}
use Rattle.p3_field_core.specs.declared.coset.TwoAdicMultiplicativeCoset.{TwoAdicMultiplicativeCoset as Coset}
use Rattle.p3_fri_relation.specs.Heights.{width}
use Rattle.p3_fri_relation.specs.Views.{matrix_claim, claims_of}
use Rattle.p3_fri_inputs.specs.Claims.{claim_of}
use Rattle.p3_fri_inputs.proofs.Places.{holds_next, all_of_parts}
use Rattle.algebra.proofs.Lists.{entry_of_map}
use Rattle.p3_fri_inputs.proofs.claims.greatest_width.Goals as goal

pub loop-batch-preserved : goal.loop-batch-preserved
loop-batch-preserved g c =
    let size = λ (domain : Coset g.row.F.Denot g.row.F-Prepared.Denot g.F.TwoAdicField g.F.Field g.F.PartialEq g.F.Add g.F.Sub g.F.Mul g.F.Neg). domain.log_size in
    let claims = c.args.claims.now in
    let i = c.loop-batch.batch in
    let cs = claims_of size claims in
    let it = c.index-claims-batch.result in
    let is = c.index-claims-batch.is in
    let below : i < length claims = c.loop-batch-test.true in
    let here : i < length cs = omega (arith, below, length-map claims (claim_of size)) in
    let e = claim_of size it in
    let is_c = entry_of_map (claim_of size) claims i it below is in
    let items : c.deref.result.now ≡ it.matrices.items =
    c.deref.ensures.value ∙ ap (λ x. x.matrices.items) (sym is) in
    let new = c.max-greatest.result in
    let own = c.greatest_width_of.result in
    let within = subst (λ xs. All (λ m. width m ≤ own) (map (matrix_claim size) xs)) items
    c.greatest_width_of.ensures in
    holds_next (claim_of size) (λ d. All (λ m. width m ≤ new) d.matrices) claims i it below is
    (λ j l d k m q. omega (arith, c.loop-batch.invariant j l d k m q, c.max-greatest.ensures))
    (λ k m q. omega (arith, within k m q, c.max-greatest.ensures))

pub returns : goal.returns
returns g c =
    let size = λ (domain : Coset g.row.F.Denot g.row.F-Prepared.Denot g.F.TwoAdicField g.F.Field g.F.PartialEq g.F.Add g.F.Sub g.F.Mul g.F.Neg). domain.log_size in
    let claims = c.args.claims.now in
    let i = c.loop-batch.batch in
    let cs = claims_of size claims in
    all_of_parts (claim_of size) (λ d. d.matrices) (λ m. width m ≤ c.loop-batch.greatest) claims i
    (omega arith) c.loop-batch.invariant
