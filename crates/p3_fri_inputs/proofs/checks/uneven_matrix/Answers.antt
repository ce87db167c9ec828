use Rattle.std.proofs.Common.{◌≡◌, ◌<◌, ◌∙◌, length, map, get_or, sym, ap, arith}
use Rattle.std.proofs.lemmas.List.{length-map, get_or-map, get_or_default}
use Rattle.p3_field_core.specs.declared.coset.TwoAdicMultiplicativeCoset.{TwoAdicMultiplicativeCoset as Coset}
use Rattle.p3_fri_relation.specs.Heights.{width}
use Rattle.p3_fri_pow.specs.Counts.{IsWrongCount}
use Rattle.p3_fri_relation.specs.Faults.{At}
use Rattle.p3_pcs.specs.Claims.{point_claim}
use Rattle.p3_fri_relation.specs.Views.{matrix_claim}
use Rattle.p3_fri_inputs.specs.Claims.{IsEven}
use Rattle.p3_fri_inputs.proofs.Places.{at_mapped, holds_next, holds_of_all, element_at}
use Rattle.algebra.proofs.Lists.{entry_of_map}
use Rattle.p3_fri_inputs.proofs.checks.uneven_matrix.Goals as goal

pub returns-in-Some : goal.returns-in-Some
returns-in-Some g c =
    let size = λ (domain : Coset g.row.F.Denot g.row.F-Prepared.Denot g.F.TwoAdicField g.F.Field g.F.PartialEq g.F.Add g.F.Sub g.F.Mul g.F.Neg). domain.log_size in
    let matrices = c.args.matrices.now in
    let k = c.loop-k.k in
    let f = matrix_claim size in
    let ms = map f matrices in
    let r = c.index-matrices-k.result in
    let is = c.index-matrices-k.is in
    let below : k < length matrices = c.loop-k-test.true in
    let here : k < length ms = omega (arith, below, length-map matrices f) in
    let m = f r in
    let is_m = entry_of_map f matrices k r below is in
    let again = c.index-matrices-k-in-loop-k.result in
    let points : c.deref.result.now ≡ r.points.items =
    c.deref.ensures.value
    ∙ ap (λ x. x.points.items)
    (get_or_default matrices k again r below ∙ sym is) in
    let wide : c.claimed_width-expected.result ≡ width m = c.claimed_width-expected.ensures in
    let found = c.in-Some.ensures in
    let j = c.in-Some.point in
    let inside : j < length r.points.items = omega (arith, found.0, ap length points) in
    let z = element_at r.points.items j inside in
    at_mapped f (λ m. At j (λ z. IsWrongCount (width m) (length z.values) c.claimed_width-expected.result
    c.in-Some.got) m.points) matrices k r below is
    (at_mapped point_claim (λ z. IsWrongCount (width m) (length z.values)
    c.claimed_width-expected.result c.in-Some.got) r.points.items j z.0 inside z.1
    (record {
      expected_is = wide;
      got_is = found.2 z.0 ∙ ap (λ xs. length (get_or xs j z.0).values.items) points
          ∙ ap (λ y. length y.values.items) (sym z.1);
      differ = λ e. found.1 (sym e);
    }))

pub loop-k-preserved : goal.loop-k-preserved
loop-k-preserved g c =
    let size = λ (domain : Coset g.row.F.Denot g.row.F-Prepared.Denot g.F.TwoAdicField g.F.Field g.F.PartialEq g.F.Add g.F.Sub g.F.Mul g.F.Neg). domain.log_size in
    let matrices = c.args.matrices.now in
    let k = c.loop-k.k in
    let f = matrix_claim size in
    let ms = map f matrices in
    let r = c.index-matrices-k.result in
    let is = c.index-matrices-k.is in
    let below : k < length matrices = c.loop-k-test.true in
    let here : k < length ms = omega (arith, below, length-map matrices f) in
    let m = f r in
    let is_m = entry_of_map f matrices k r below is in
    let again = c.index-matrices-k-in-loop-k.result in
    let points : c.deref.result.now ≡ r.points.items =
    c.deref.ensures.value
    ∙ ap (λ x. x.points.items)
    (get_or_default matrices k again r below ∙ sym is) in
    let wide : c.claimed_width-expected.result ≡ width m = c.claimed_width-expected.ensures in
    holds_next f IsEven matrices k r below is c.loop-k.invariant
    (λ j y l. let inside : j < length r.points.items =
    omega (arith, l, length-map r.points.items point_claim) in
    let z = element_at r.points.items j inside in
    ap (λ w. length w.values) (get_or-map point_claim r.points.items j z.0 y inside)
    ∙ ap (λ xs. length (get_or xs j z.0).values.items) (sym points)
    ∙ c.in_default.ensures j z.0 (omega (arith, inside, ap length points)) ∙ wide)

pub returns : goal.returns
returns g c =
    let size = λ (domain : Coset g.row.F.Denot g.row.F-Prepared.Denot g.F.TwoAdicField g.F.Field g.F.PartialEq g.F.Add g.F.Sub g.F.Mul g.F.Neg). domain.log_size in
    let matrices = c.args.matrices.now in
    let k = c.loop-k.k in
    let f = matrix_claim size in
    let ms = map f matrices in
    holds_of_all f IsEven matrices k (omega arith) c.loop-k.invariant
