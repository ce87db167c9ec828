use Rattle.std.proofs.Common.{◌≡◌, ◌≢◌, ◌<◌, ◌∙◌, [], length, map, sym, ap, arith, eqb}
use Rattle.std.proofs.lemmas.List.{length-map, nil_from_length}
use Rattle.std.proofs.lemmas.Bool.{eqb-true, eqb-false}
use Rattle.p3_field_core.specs.declared.coset.TwoAdicMultiplicativeCoset.{TwoAdicMultiplicativeCoset as Coset}
use Rattle.p3_pcs.specs.Claims.{point_claim}
use Rattle.p3_fri_relation.specs.Views.{matrix_claim}
use Rattle.p3_fri_inputs.proofs.Places.{at_mapped, holds_next, holds_of_all}
use Rattle.algebra.proofs.Lists.{entry_of_map}
use Rattle.p3_fri_inputs.proofs.checks.matrix_without_points.Goals as goal

pub returns-then-is_empty : goal.returns-then-is_empty
returns-then-is_empty g c =
    let size = λ (domain : Coset g.row.F.Denot g.row.F-Prepared.Denot g.F.TwoAdicField g.F.Field g.F.PartialEq g.F.Add g.F.Sub g.F.Mul g.F.Neg). domain.log_size in
    let matrices = c.args.matrices.now in
    let k = c.loop-k.k in
    let f = matrix_claim size in
    let ms = map f matrices in
    let r = c.index-matrices-k.result in
    let is = c.index-matrices-k.is in
    let below : k < length matrices = c.loop-k-test.true in
    let here : k < length ms = omega (arith, below, length-map matrices f) in
    let m = f r in
    let is_m = entry_of_map f matrices k r below is in
    let none : r.points.len ≡ 0 =
    eqb-true r.points.len 0 (ap (λ x. eqb x.points.len 0) is ∙ sym c.is_empty.ensures ∙ c.if-is_empty.true) in
    at_mapped f (λ m. m.points ≡ []) matrices k r below is
    (nil_from_length m.points
    (length-map r.points.items point_claim ∙ sym r.points.ok.0 ∙ none))

pub loop-k-preserved : goal.loop-k-preserved
loop-k-preserved g c =
    let size = λ (domain : Coset g.row.F.Denot g.row.F-Prepared.Denot g.F.TwoAdicField g.F.Field g.F.PartialEq g.F.Add g.F.Sub g.F.Mul g.F.Neg). domain.log_size in
    let matrices = c.args.matrices.now in
    let k = c.loop-k.k in
    let f = matrix_claim size in
    let ms = map f matrices in
    let r = c.index-matrices-k.result in
    let is = c.index-matrices-k.is in
    let below : k < length matrices = c.loop-k-test.true in
    let here : k < length ms = omega (arith, below, length-map matrices f) in
    let m = f r in
    let is_m = entry_of_map f matrices k r below is in
    let some = eqb-false r.points.len 0
    (ap (λ x. eqb x.points.len 0) is ∙ sym c.is_empty.ensures ∙ c.if-is_empty.false) in
    holds_next f (λ m. m.points ≢ []) matrices k r below is c.loop-k.invariant
    (λ e. some (r.points.ok.0 ∙ sym (length-map r.points.items point_claim) ∙ ap length e))

pub returns : goal.returns
returns g c =
    let size = λ (domain : Coset g.row.F.Denot g.row.F-Prepared.Denot g.F.TwoAdicField g.F.Field g.F.PartialEq g.F.Add g.F.Sub g.F.Mul g.F.Neg). domain.log_size in
    let matrices = c.args.matrices.now in
    let k = c.loop-k.k in
    let f = matrix_claim size in
    let ms = map f matrices in
    holds_of_all f (λ m. m.points ≢ []) matrices k (omega arith) c.loop-k.invariant
