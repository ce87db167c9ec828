use Rattle.std.proofs.Common.{◌≡◌, ◌-◌, ◌++◌, ◌∷◌, [], ℕ, length, map, get_or, ap, ap₂, sym, subst, ◌∙◌, arith}
use Rattle.std.proofs.Math.Nat.{le_antisymm}
use Rattle.std.proofs.lemmas.List.{get_or_read, length-map}
use Rattle.algebra.specs.Cosets.{vanishing}
use Rattle.algebra.specs.Polynomial.{tabulate}
use Rattle.algebra.specs.RecombinedQuotients.{ChunksApart, product_but, chunk_weight}
use Rattle.algebra.proofs.Lists.{tabulate-next, length-tabulate}
use Rattle.p3_fri_masks.proofs.Weights.{no_product_zero, weight_at, product_at, factors_are}
use Rattle.std.proofs.lemmas.Result.{IfOk-from_err}
use Rattle.p3_fri_masks.proofs.factors.mask_factors.Goals as goal

pub loop-index-preserved : goal.loop-index-preserved
loop-index-preserved g c =
    let F = g.F.Field.ops in
    let chunks = c.args.chunks.now in
    let n = length chunks in
    let k = get_or (map (λ e. e.0.log_size) chunks) 0 0 in
    let s = λ (j : ℕ). get_or (map (λ e. e.0.shift) chunks) j F.zero in
    c.in_ok-push.ensures.items
    ∙ ap₂ (λ xs x. xs ++ x ∷ []) c.loop-index.invariant
    (c.product_over_others.ensures k c.requires.disjoint.one_size)
    ∙ sym (tabulate-next c.loop-index.index
    (λ i. product_but F n i (λ j. vanishing F (s j) k (s i))))

pub batch_multiplicative_inverse-requires : goal.batch_multiplicative_inverse-requires
batch_multiplicative_inverse-requires g c =
    let F = g.F.Field.ops in
    let chunks = c.args.chunks.now in
    let n = length chunks in
    let k = get_or (map (λ e. e.0.log_size) chunks) 0 0 in
    let s = λ (j : ℕ). get_or (map (λ e. e.0.shift) chunks) j F.zero in
    let end : c.loop-index.index ≡ n =
    le_antisymm c.loop-index.auto.index-end c.loop-index-test.false in
    let apart : ChunksApart F n k s = subst (λ m. ChunksApart F m k s) (length-map chunks (λ e. e.0.log_size)) c.requires.disjoint.apart in
    record {
      nonzero = no_product_zero F g.met.F.Field.laws n k s apart c.deref.result.now
          (c.deref.ensures.value ∙ c.loop-index.invariant
          ∙ ap (λ m. tabulate m (λ i. product_but F n i (λ j. vanishing F (s j) k (s i)))) end);
    }

pub index-requires : goal.index-requires
index-requires g c =
    let F = g.F.Field.ops in
    let chunks = c.args.chunks.now in
    let n = length chunks in
    let k = get_or (map (λ e. e.0.log_size) chunks) 0 0 in
    let s = λ (j : ℕ). get_or (map (λ e. e.0.shift) chunks) j F.zero in
    omega (
      arith,
      c.in_ok-weights.weights.ok.0,
      ap length c.in_ok-weights.ensures,
      length-map c.deref.result.now F.inv,
      ap length c.deref.ensures.value,
      ap length c.loop-index.invariant,
      length-tabulate c.loop-index.index (λ i. product_but F n i (λ j. vanishing F (s j) k (s i))),
    )

pub index-requires-in-loop-chunk : goal.index-requires-in-loop-chunk
index-requires-in-loop-chunk g c =
    let F = g.F.Field.ops in
    let chunks = c.args.chunks.now in
    let n = length chunks in
    let k = get_or (map (λ e. e.0.log_size) chunks) 0 0 in
    let s = λ (j : ℕ). get_or (map (λ e. e.0.shift) chunks) j F.zero in
    omega (
      arith,
      c.loop-index.products.ok.0,
      ap length c.loop-index.invariant,
      length-tabulate c.loop-index.index (λ i. product_but F n i (λ j. vanishing F (s j) k (s i))),
    )

pub loop-chunk-preserved : goal.loop-chunk-preserved
loop-chunk-preserved g c =
    let F = g.F.Field.ops in
    let field = g.met.F.Field in
    let chunks = c.args.chunks.now in
    let n = length chunks in
    let k = get_or (map (λ e. e.0.log_size) chunks) 0 0 in
    let s = λ (j : ℕ). get_or (map (λ e. e.0.shift) chunks) j F.zero in
    let end : c.loop-index.index ≡ n =
    le_antisymm c.loop-index.auto.index-end c.loop-index-test.false in
    let apart : ChunksApart F n k s = subst (λ m. ChunksApart F m k s) (length-map chunks (λ e. e.0.log_size)) c.requires.disjoint.apart in
    let i = c.loop-chunk.chunk in
    let products = c.loop-index.products.items in
    let weights = c.in_ok-weights.weights.items in
    let are : products ≡ tabulate n (λ i. product_but F n i (λ j. vanishing F (s j) k (s i))) =
    c.loop-index.invariant ∙ ap (λ m. tabulate m (λ i. product_but F n i (λ j. vanishing F (s j) k (s i)))) end in
    let inverted : weights ≡ map F.inv products = c.in_ok-weights.ensures ∙ ap (λ xs. map F.inv xs) c.deref.ensures.value in
    let many : length products ≡ n = ap length are ∙ length-tabulate n (λ i. product_but F n i (λ j. vanishing F (s j) k (s i))) in
    let as_many : length weights ≡ n = ap length inverted ∙ length-map products F.inv ∙ many in
    c.in_ok-push-2.ensures.items
    ∙ ap₂ (λ xs x. xs ++ x ∷ []) c.loop-chunk.invariant
    (field.mul_law c.index.result.now c.index-in-loop-chunk.result.now c.mul.result c.mul.ensures
    ∙ ap₂ (λ a b. F.mul a b)
    (get_or_read weights i c.index.result.now (omega (arith, as_many)) c.index.ensures F.zero
    ∙ weight_at F field.laws n k s apart products weights i F.zero are inverted (omega arith))
    (get_or_read products (n - 1) c.index-in-loop-chunk.result.now (omega (arith, many, c.requires.some)) c.index-in-loop-chunk.ensures F.zero
    ∙ product_at F field.laws n k s apart products (n - 1) F.zero are (omega (arith, c.requires.some))))
    ∙ sym (tabulate-next i (λ i. F.mul (chunk_weight F n k s i)
    (product_but F n (n - 1) (λ j. vanishing F (s j) k (s (n - 1))))))

pub returns : goal.returns
returns g c =
    let F = g.F.Field.ops in
    let chunks = c.args.chunks.now in
    let n = length chunks in
    let k = get_or (map (λ e. e.0.log_size) chunks) 0 0 in
    let s = λ (j : ℕ). get_or (map (λ e. e.0.shift) chunks) j F.zero in
    let apart : ChunksApart F n k s = subst (λ m. ChunksApart F m k s) (length-map chunks (λ e. e.0.log_size)) c.requires.disjoint.apart in
    let end : c.loop-chunk.chunk ≡ n - 1 = omega arith in
    c.loop-chunk.invariant
    ∙ ap (λ m. tabulate m (λ i. F.mul (chunk_weight F n k s i)
    (product_but F n (n - 1) (λ j. vanishing F (s j) k (s (n - 1)))))) end
    ∙ factors_are F g.met.F.Field.laws n k s apart (n - 1) (omega (arith, c.requires.some))

-- where nothing is answered nothing is said of the answer
pub returns-in_err-factors : goal.returns-in_err-factors
returns-in_err-factors g c =
    IfOk-from_err c.from_residual-in_err-factors.result _ c.from_residual-in_err-factors.ensures.0

pub returns-in_err-push : goal.returns-in_err-push
returns-in_err-push g c =
    IfOk-from_err c.from_residual-in_err-push.result _ c.from_residual-in_err-push.ensures.0

pub returns-in_err-push-2 : goal.returns-in_err-push-2
returns-in_err-push-2 g c =
    IfOk-from_err c.from_residual-in_err-push-2.result _ c.from_residual-in_err-push-2.ensures.0
