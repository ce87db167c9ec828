use Rattle.std.proofs.Common.{◌<◌, ◌≤◌, ◌∙◌, length, map, sym, ap, refl, arith}
use Rattle.std.proofs.lemmas.List.{length-map}
use Rattle.std.proofs.lemmas.Bool.{true≢false, false≢true}
use Rattle.p3_field_core.specs.declared.coset.TwoAdicMultiplicativeCoset.{TwoAdicMultiplicativeCoset as Coset}
use Rattle.p3_fri_relation.specs.Setting.{MatrixClaim}
use Rattle.p3_fri_relation.specs.Heights.{log_height}
use Rattle.p3_fri_relation.specs.Views.{matrix_claim}
use Rattle.p3_fri_inputs.proofs.Places.{holds_next, holds_of_all, all_mapped_at}
use Rattle.algebra.proofs.Lists.{entry_of_map}
use Rattle.p3_fri_inputs.proofs.heights.are_within.Goals as goal

pub returns-then-not-is_within : goal.returns-then-not-is_within
returns-then-not-is_within g c =
    let size = λ (domain : Coset g.row.F.Denot g.row.F-Prepared.Denot g.F.TwoAdicField g.F.Field g.F.PartialEq g.F.Add g.F.Sub g.F.Mul g.F.Neg). domain.log_size in
    let matrices = c.args.matrices.now in
    let k = c.loop-k.k in
    let f = matrix_claim size in
    let ms = map f matrices in
    let r = c.index-matrices-k.result in
    let is = c.index-matrices-k.is in
    let below : k < length matrices = c.loop-k-test.true in
    let here : k < length ms = omega (arith, below, length-map matrices f) in
    let m = f r in
    let is_m = entry_of_map f matrices k r below is in
    let b = c.args.log_blowup in
    let fits = λ (m : MatrixClaim g.row.EF.Denot). log_height b m ≤ c.args.bound in (
      λ ok. absurd (false≢true ok),
      λ all. let at = all_mapped_at f fits matrices all k r below is in
          absurd (true≢false (sym (c.is_within.ensures.1
          (omega (arith, at, ap (λ x. x.domain.log_size) is))) ∙ c.if-not-is_within.true)),
    )

pub loop-k-preserved : goal.loop-k-preserved
loop-k-preserved g c =
    let size = λ (domain : Coset g.row.F.Denot g.row.F-Prepared.Denot g.F.TwoAdicField g.F.Field g.F.PartialEq g.F.Add g.F.Sub g.F.Mul g.F.Neg). domain.log_size in
    let matrices = c.args.matrices.now in
    let k = c.loop-k.k in
    let f = matrix_claim size in
    let ms = map f matrices in
    let r = c.index-matrices-k.result in
    let is = c.index-matrices-k.is in
    let below : k < length matrices = c.loop-k-test.true in
    let here : k < length ms = omega (arith, below, length-map matrices f) in
    let m = f r in
    let is_m = entry_of_map f matrices k r below is in
    let b = c.args.log_blowup in
    let fits = λ (m : MatrixClaim g.row.EF.Denot). log_height b m ≤ c.args.bound in
    let at = c.is_within.ensures.0 c.if-not-is_within.false in
    holds_next f fits matrices k r below is c.loop-k.invariant
    (omega (arith, at, ap (λ x. x.domain.log_size) is))

pub returns : goal.returns
returns g c =
    let size = λ (domain : Coset g.row.F.Denot g.row.F-Prepared.Denot g.F.TwoAdicField g.F.Field g.F.PartialEq g.F.Add g.F.Sub g.F.Mul g.F.Neg). domain.log_size in
    let matrices = c.args.matrices.now in
    let k = c.loop-k.k in
    let f = matrix_claim size in
    let ms = map f matrices in
    let b = c.args.log_blowup in
    let fits = λ (m : MatrixClaim g.row.EF.Denot). log_height b m ≤ c.args.bound in
    (λ ok. holds_of_all f fits matrices k (omega arith) c.loop-k.invariant, λ all. refl)
