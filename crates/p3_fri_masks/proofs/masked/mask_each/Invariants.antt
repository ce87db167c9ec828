use Rattle.std.proofs.Common.{◌≡◌}
use Rattle.p3_matrix.specs.Words.{past}
use Rattle.p3_fri_masks.specs.Masked.{AreMasked, mask_words_of_all}
use Rattle.p3_fri_masks.proofs.Batches.{IsLeft}
use Rattle.p3_fri_masks.proofs.masked.mask_each.Given as goal

abbrev pub invariant-loop-domain : goal.invariant-loop-domain
invariant-loop-domain g l =
    let from_word = g.F.SampleField.from_word in
    let start = g.R.Rng.stream l.fn.rng in
    record {
      masked_so_far : AreMasked from_word l.num_random_codewords l.yielded start l.masked.items;
      drawn : g.R.Rng.stream l.rng ≡ past (mask_words_of_all from_word l.num_random_codewords l.yielded) start;
      left : IsLeft l.yielded l.domain-iterator.rest.items l.fn.evaluations.items l.domain-iterator.rest.len;
    }
