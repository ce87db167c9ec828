use Rattle.std.proofs.Common.{◌≡◌, ◌<◌, ◌+◌, ◌∙◌, length, map, sym, ap, arith, eqb, true, false}
use Rattle.std.proofs.lemmas.List.{length-map}
use Rattle.std.proofs.lemmas.List.Folds.{list_any_at, list_any_none}
use Rattle.p3_field_core.specs.declared.coset.TwoAdicMultiplicativeCoset.{TwoAdicMultiplicativeCoset as Coset}
use Rattle.p3_fri_relation.specs.Setting.{MatrixClaim}
use Rattle.p3_fri_relation.specs.Heights.{log_height}
use Rattle.p3_fri_relation.specs.Views.{matrix_claim}
use Rattle.p3_fri_inputs.proofs.Places.{holds_next, holds_of_all}
use Rattle.algebra.proofs.Lists.{entry_of_map}
use Rattle.p3_fri_inputs.proofs.heights.some_has_height.Goals as goal

pub returns-then-is_log_height : goal.returns-then-is_log_height
returns-then-is_log_height g c =
    let size = λ (domain : Coset g.row.F.Denot g.row.F-Prepared.Denot g.F.TwoAdicField g.F.Field g.F.PartialEq g.F.Add g.F.Sub g.F.Mul g.F.Neg). domain.log_size in
    let matrices = c.args.matrices.now in
    let k = c.loop-k.k in
    let f = matrix_claim size in
    let ms = map f matrices in
    let r = c.index-matrices-k.result in
    let is = c.index-matrices-k.is in
    let below : k < length matrices = c.loop-k-test.true in
    let here : k < length ms = omega (arith, below, length-map matrices f) in
    let m = f r in
    let is_m = entry_of_map f matrices k r below is in
    let p = λ (m : MatrixClaim g.row.EF.Denot). eqb (log_height c.args.log_blowup m) c.args.height in
    let t : p m ≡ true =
    ap (λ x. eqb (x.domain.log_size + c.args.log_blowup) c.args.height) is
    ∙ sym c.is_log_height.ensures ∙ c.if-is_log_height.true in
    sym (list_any_at p ms k m here (ap p (sym is_m) ∙ t))

pub loop-k-preserved : goal.loop-k-preserved
loop-k-preserved g c =
    let size = λ (domain : Coset g.row.F.Denot g.row.F-Prepared.Denot g.F.TwoAdicField g.F.Field g.F.PartialEq g.F.Add g.F.Sub g.F.Mul g.F.Neg). domain.log_size in
    let matrices = c.args.matrices.now in
    let k = c.loop-k.k in
    let f = matrix_claim size in
    let ms = map f matrices in
    let r = c.index-matrices-k.result in
    let is = c.index-matrices-k.is in
    let below : k < length matrices = c.loop-k-test.true in
    let here : k < length ms = omega (arith, below, length-map matrices f) in
    let m = f r in
    let is_m = entry_of_map f matrices k r below is in
    let p = λ (m : MatrixClaim g.row.EF.Denot). eqb (log_height c.args.log_blowup m) c.args.height in
    let t : p m ≡ false =
    ap (λ x. eqb (x.domain.log_size + c.args.log_blowup) c.args.height) is
    ∙ sym c.is_log_height.ensures ∙ c.if-is_log_height.false in
    holds_next f (λ m. p m ≡ false) matrices k r below is c.loop-k.invariant t

pub returns : goal.returns
returns g c =
    let size = λ (domain : Coset g.row.F.Denot g.row.F-Prepared.Denot g.F.TwoAdicField g.F.Field g.F.PartialEq g.F.Add g.F.Sub g.F.Mul g.F.Neg). domain.log_size in
    let matrices = c.args.matrices.now in
    let k = c.loop-k.k in
    let f = matrix_claim size in
    let ms = map f matrices in
    let p = λ (m : MatrixClaim g.row.EF.Denot). eqb (log_height c.args.log_blowup m) c.args.height in
    sym (list_any_none p ms
    (holds_of_all f (λ m. p m ≡ false) matrices k (omega arith) c.loop-k.invariant))
