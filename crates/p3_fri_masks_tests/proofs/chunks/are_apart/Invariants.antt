use Rattle.std.proofs.Common.{◌≡◌, map, take}
use Rattle.p3_fri_masks_tests.proofs.chunks.are_apart.Given as goal

abbrev pub invariant-loop-chunk : goal.invariant-loop-chunk
invariant-loop-chunk g l = l.domains.items ≡ map (λ e. e.0) (take l.chunk-index l.chunks)
