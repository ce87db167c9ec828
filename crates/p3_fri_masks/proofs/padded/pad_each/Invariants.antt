use Rattle.std.proofs.Common.{◌≡◌}
use Rattle.std.specs.List.{AllZip}
use Rattle.p3_fri_masks.specs.Padded.{IsPadded}
use Rattle.p3_fri_masks.proofs.Batches.{IsLeft}
use Rattle.p3_fri_masks.proofs.padded.pad_each.Given as goal

abbrev pub invariant-loop-domain : goal.invariant-loop-domain
invariant-loop-domain g l = record {
  padded_so_far : AllZip (λ p e. (p.0 ≡ e.0) × IsPadded g.F.Field.ops.zero e.1 p.1) l.padded.items l.yielded;
  left : IsLeft l.yielded l.domain-iterator.rest.items l.fn.evaluations.items l.domain-iterator.rest.len;
}
