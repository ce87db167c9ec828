use Rattle.std.proofs.Common.{◌<◌, [], length, map, arith}
use Rattle.std.proofs.lemmas.List.{length-map}
use Rattle.algebra.specs.Polynomial.{val}
use Rattle.p3_field_core.specs.declared.coset.TwoAdicMultiplicativeCoset.{TwoAdicMultiplicativeCoset as Coset}
use Rattle.p3_fri_relation.specs.Setting.{MatrixClaim}
use Rattle.p3_fri_relation.specs.Views.{matrix_claim}
use Rattle.p3_fri_inputs.specs.Claims.{IsWithin}
use Rattle.p3_fri_inputs.proofs.Places.{all_mapped_at}
use Rattle.algebra.proofs.Growing.{joined_pushed, joined_end}
use Rattle.algebra.proofs.Lists.{entry_of_map}
use Rattle.p3_fri_inputs.proofs.claims.combine_claim.Goals as goal

pub push_combined-requires : goal.push_combined-requires
push_combined-requires g c =
    let size = λ (domain : Coset g.row.F.Denot g.row.F-Prepared.Denot g.F.TwoAdicField g.F.Field g.F.PartialEq g.F.Add g.F.Sub g.F.Mul g.F.Neg). domain.log_size in
    let items = c.args.matrices.now in
    let f = matrix_claim size in
    let ms = map f items in
    let k = c.loop-k.k in
    let r = c.index-matrices-k.result in
    let below : k < length items = c.loop-k-test.true in
    record {
      within = all_mapped_at f (IsWithin c.args.ladder.now.powers.len) items c.requires.within k r
          below c.index-matrices-k.is;
    }

pub loop-k-preserved : goal.loop-k-preserved
loop-k-preserved g c =
    let size = λ (domain : Coset g.row.F.Denot g.row.F-Prepared.Denot g.F.TwoAdicField g.F.Field g.F.PartialEq g.F.Add g.F.Sub g.F.Mul g.F.Neg). domain.log_size in
    let items = c.args.matrices.now in
    let f = matrix_claim size in
    let ms = map f items in
    let k = c.loop-k.k in
    let r = c.index-matrices-k.result in
    let below : k < length items = c.loop-k-test.true in
    let values = λ (m : MatrixClaim g.row.EF.Denot).
    map (λ z. val g.EF.Field.ops z.values c.args.ladder.now.alpha) m.points in
    joined_pushed values ms k (f r) [] c.loop-k.combined.items c.push_combined.new.combined.items
    (omega (arith, below, length-map items f)) (entry_of_map f items k r below c.index-matrices-k.is)
    c.loop-k.invariant c.in_ok-push_combined.ensures

pub returns : goal.returns
returns g c =
    let size = λ (domain : Coset g.row.F.Denot g.row.F-Prepared.Denot g.F.TwoAdicField g.F.Field g.F.PartialEq g.F.Add g.F.Sub g.F.Mul g.F.Neg). domain.log_size in
    let items = c.args.matrices.now in
    let f = matrix_claim size in
    let values = λ (m : MatrixClaim g.row.EF.Denot).
    map (λ z. val g.EF.Field.ops z.values c.args.ladder.now.alpha) m.points in
    joined_end values (map f items) c.loop-k.k [] c.loop-k.combined.items
    (omega (arith, c.loop-k-test.false, length-map items f)) c.loop-k.invariant
