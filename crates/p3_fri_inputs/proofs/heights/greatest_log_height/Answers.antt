use Rattle.std.proofs.Common.{◌≡◌, ◌<◌, ◌+◌, ◌∙◌, length, map, get_or, sym, ap, arith, max}
use Rattle.std.proofs.lemmas.List.{length-map, take_all}
use Rattle.std.proofs.lemmas.List.Sums.{fold_more}
use Rattle.p3_field_core.specs.declared.coset.TwoAdicMultiplicativeCoset.{TwoAdicMultiplicativeCoset as Coset}
use Rattle.p3_fri_relation.specs.Heights.{log_height, greatest_height}
use Rattle.p3_fri_relation.specs.Views.{matrix_claim}
use Rattle.p3_fri_inputs.proofs.Places.{all_mapped_at}
use Rattle.algebra.proofs.Lists.{entry_of_map}
use Rattle.p3_fri_inputs.proofs.heights.greatest_log_height.Goals as goal

pub overflow_add-matrices : goal.overflow_add-matrices
overflow_add-matrices g c =
    let size = λ (domain : Coset g.row.F.Denot g.row.F-Prepared.Denot g.F.TwoAdicField g.F.Field g.F.PartialEq g.F.Add g.F.Sub g.F.Mul g.F.Neg). domain.log_size in
    let matrices = c.args.matrices.now in
    let k = c.loop-k.k in
    let f = matrix_claim size in
    let ms = map f matrices in
    let r = c.index-matrices-k.result in
    let is = c.index-matrices-k.is in
    let below : k < length matrices = c.loop-k-test.true in
    let here : k < length ms = omega (arith, below, length-map matrices f) in
    let m = f r in
    let is_m = entry_of_map f matrices k r below is in
    let at = all_mapped_at f (λ m. log_height c.args.log_blowup m < 64) matrices c.requires k r below is in
    omega (arith, at, ap (λ x. x.domain.log_size) is)

pub loop-k-preserved : goal.loop-k-preserved
loop-k-preserved g c =
    let size = λ (domain : Coset g.row.F.Denot g.row.F-Prepared.Denot g.F.TwoAdicField g.F.Field g.F.PartialEq g.F.Add g.F.Sub g.F.Mul g.F.Neg). domain.log_size in
    let matrices = c.args.matrices.now in
    let k = c.loop-k.k in
    let f = matrix_claim size in
    let ms = map f matrices in
    let r = c.index-matrices-k.result in
    let is = c.index-matrices-k.is in
    let below : k < length matrices = c.loop-k-test.true in
    let here : k < length ms = omega (arith, below, length-map matrices f) in
    let m = f r in
    let is_m = entry_of_map f matrices k r below is in
    let b = c.args.log_blowup in
    let its : (get_or matrices k r).domain.log_size + b ≡ log_height b (get_or ms k m) =
    ap (λ x. x.domain.log_size + b) (sym is) ∙ ap (λ n. log_height b n) is_m in
    c.max-greatest.ensures ∙ ap (λ n. max c.loop-k.greatest n) its
    ∙ ap (λ n. max n (log_height b (get_or ms k m))) c.loop-k.invariant
    ∙ sym (fold_more (λ h m. max h (log_height b m)) 0 ms k m here)

pub returns : goal.returns
returns g c =
    let size = λ (domain : Coset g.row.F.Denot g.row.F-Prepared.Denot g.F.TwoAdicField g.F.Field g.F.PartialEq g.F.Add g.F.Sub g.F.Mul g.F.Neg). domain.log_size in
    let ms = map (matrix_claim size) c.args.matrices.now in
    c.loop-k.invariant ∙ ap (λ xs. greatest_height c.args.log_blowup xs)
    (take_all c.loop-k.k ms (omega (arith, length-map c.args.matrices.now (matrix_claim size))))
