use Rattle.std.proofs.Common.{◌≡◌, length, map, slice_index_or}
use Rattle.algebra.specs.Polynomial.{tabulate}
use Rattle.p3_uni_stark_identity.proofs.Recombination.{chunk_factor_at}
use Rattle.p3_uni_stark_identity.proofs.chunks.recombine_quotient.Given as goal

-- the factors of the chunks so far
abbrev pub invariant-loop-index : goal.invariant-loop-index
invariant-loop-index g l =
    l.factors.items ≡ tabulate l.index (chunk_factor_at g.EF.Field.ops
    (slice_index_or (map (λ d. d.log_size) l.domains) 0 0)
    (map g.EF.ExtensionField.lift (map (λ d. d.shift) l.domains)) l.fn.point (length l.domains))
