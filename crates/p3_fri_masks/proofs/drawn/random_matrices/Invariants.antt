use Rattle.std.proofs.Common.{◌≡◌, ◌^◌}
use Rattle.p3_matrix.specs.Words.{past}
use Rattle.p3_fri_masks.specs.Draws.{AreRandom, random_words}
use Rattle.p3_fri_masks.proofs.Batches.{IsLeft}
use Rattle.p3_fri_masks.proofs.drawn.random_matrices.Given as goal

abbrev pub invariant-loop-domain : goal.invariant-loop-domain
invariant-loop-domain g l =
    let from_word = g.F.SampleField.from_word in
    let start = g.R.Rng.stream l.fn.rng in
    record {
      drawn : AreRandom from_word (λ d. 2 ^ d.log_size) l.width l.yielded start l.matrices.items;
      stream : g.R.Rng.stream l.rng
          ≡ past (random_words from_word (λ d. 2 ^ d.log_size) l.width l.yielded) start;
      left : IsLeft l.yielded l.domain-iterator.rest.items l.fn.domains.items l.domain-iterator.rest.len;
    }
