use Rattle.std.proofs.Common.{◌≡◌, length, map, get_or}
use Rattle.algebra.specs.Cosets.{vanishing}
use Rattle.algebra.specs.Polynomial.{tabulate}
use Rattle.algebra.specs.RecombinedQuotients.{product_but, chunk_weight}
use Rattle.p3_fri_masks.proofs.factors.mask_factors.Given as goal

-- the products over the other chunks so far
abbrev pub invariant-loop-index : goal.invariant-loop-index
invariant-loop-index g l =
    let F = g.F.Field.ops in
    l.products.items ≡ tabulate l.index (λ i. product_but F (length l.chunks) i
    (λ j. vanishing F (get_or (map (λ e. e.0.shift) l.chunks) j F.zero)
    (get_or (map (λ e. e.0.log_size) l.chunks) 0 0)
    (get_or (map (λ e. e.0.shift) l.chunks) i F.zero)))

-- the factors so far
abbrev pub invariant-loop-chunk : goal.invariant-loop-chunk
invariant-loop-chunk g l =
    let F = g.F.Field.ops in
    l.factors.items ≡ tabulate l.chunk (λ i. F.mul (chunk_weight F (length l.chunks)
    (get_or (map (λ e. e.0.log_size) l.chunks) 0 0)
    (λ j. get_or (map (λ e. e.0.shift) l.chunks) j F.zero) i)
    (product_but F (length l.chunks) l.last
    (λ j. vanishing F (get_or (map (λ e. e.0.shift) l.chunks) j F.zero)
    (get_or (map (λ e. e.0.log_size) l.chunks) 0 0)
    (get_or (map (λ e. e.0.shift) l.chunks) l.last F.zero))))
