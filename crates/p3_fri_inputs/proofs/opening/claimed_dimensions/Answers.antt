use Rattle.std.proofs.Common.{◌≡◌, ◌++◌, ◌∷◌, ◌<◌, ◌+◌, ◌*◌, ◌^◌, ◌∙◌, ℕ, [], length, map, get_or}
use Rattle.std.proofs.Common.{sym, ap, ap₂, arith, ◌%◌}
use Rattle.std.proofs.lemmas.List.{length-map, get_or_default}
use Rattle.std.proofs.lemmas.Nat.{one_shl}
use Rattle.algebra.proofs.Growing.{mapped_more, mapped_end}
use Rattle.algebra.proofs.Lists.{entry_of_map}
use Rattle.p3_matrix.specs.declared.Dimensions.{Dimensions}
use Rattle.p3_fri_relation.specs.Heights.{log_height, width, dimensions}
use Rattle.p3_fri_relation.specs.Views.{matrix_claim}
use Rattle.p3_fri_inputs.proofs.Places.{all_mapped_at}
use Rattle.p3_fri_inputs.proofs.opening.claimed_dimensions.Given.{Over}
use Rattle.p3_fri_inputs.proofs.opening.claimed_dimensions.Goals.{After-index-matrices-k-in-loop-k}
use Rattle.std.proofs.lemmas.Result.{IfOk-from_err}
use Rattle.p3_fri_inputs.proofs.opening.claimed_dimensions.Goals as goal

is_small : (g : Over) (c : After-index-matrices-k-in-loop-k g)
    → log_height c.args.log_blowup
    (matrix_claim (λ domain. domain.log_size) c.index-matrices-k-in-loop-k.result) < 64
is_small g c =
    all_mapped_at (matrix_claim (λ domain. domain.log_size))
    (λ m. log_height c.args.log_blowup m < 64) c.args.matrices.now c.requires.heights c.loop-k.k
    c.index-matrices-k-in-loop-k.result (omega arith) c.index-matrices-k-in-loop-k.is

pub overflow_add-height : goal.overflow_add-height
overflow_add-height g c =
    let small = is_small g (goal.at.overflow_add-height g c).After-index-matrices-k-in-loop-k in
    omega (arith, small, ap (λ m. m.domain.log_size) c.index-matrices-k-in-loop-k.is)

pub overflow_shl-height : goal.overflow_shl-height
overflow_shl-height g c =
    let small = is_small g (goal.at.overflow_shl-height g c).After-index-matrices-k-in-loop-k in
    omega (arith, small, ap (λ m. m.domain.log_size) c.index-matrices-k-in-loop-k.is)

pub loop-k-preserved : goal.loop-k-preserved
loop-k-preserved g c =
    let small = is_small g (goal.at.loop-k-preserved g c).After-index-matrices-k-in-loop-k in
    let matrices = c.args.matrices.now in
    let k = c.loop-k.k in
    let b = c.args.log_blowup in
    let matrix = c.index-matrices-k-in-loop-k.result in
    let is = c.index-matrices-k-in-loop-k.is in
    let below : k < length matrices = c.loop-k-test.true in
    let m = matrix_claim (λ domain. domain.log_size) matrix in
    let old = c.loop-k.dims.items in
    let made = λ (w : ℕ) (h : ℕ). (let d : Dimensions = record { width = w; height = h } in d) in
    let wide = c.claimed_width-width.ensures
    ∙ ap (λ x. width (matrix_claim (λ domain. domain.log_size) x)) (c.index-matrices-k.is
    ∙ get_or_default matrices k c.index-matrices-k.result matrix below ∙ sym is) in
    let exponent : (get_or matrices k matrix).domain.log_size + b ≡ log_height b m =
    ap (λ x. x.domain.log_size + b) (sym is) in
    let high : 1 * 2 ^ ((get_or matrices k matrix).domain.log_size + b) % 2 ^ 64
    ≡ 2 ^ log_height b m =
    one_shl ((get_or matrices k matrix).domain.log_size + b) 64 (omega (arith, exponent, small))
    ∙ ap (λ n. 2 ^ n) exponent in
    mapped_more (dimensions b) (map (matrix_claim (λ domain. domain.log_size)) matrices) k m old
    c.push.new.self.items
    (omega (arith, below, length-map matrices (matrix_claim (λ domain. domain.log_size))))
    (entry_of_map (matrix_claim (λ domain. domain.log_size)) matrices k matrix below is)
    c.loop-k.invariant
    (c.in_ok-push.ensures.items ∙ ap (λ d. old ++ d ∷ []) (ap₂ made wide high))

pub returns : goal.returns
returns g c =
    let matrices = c.args.matrices.now in
    mapped_end (dimensions c.args.log_blowup)
    (map (matrix_claim (λ domain. domain.log_size)) matrices) c.loop-k.k [] c.loop-k.dims.items
    (omega (arith, length-map matrices (matrix_claim (λ domain. domain.log_size))))
    c.loop-k.invariant

-- where nothing is answered nothing is said of the answer
pub returns-in_err-push : goal.returns-in_err-push
returns-in_err-push g c =
    IfOk-from_err c.from_residual-in_err-push.result _ c.from_residual-in_err-push.ensures.0
