use Rattle.std.proofs.Common.{◌≡◌, ◌++◌, length}
use Rattle.std.specs.List.{AllZip}
use Rattle.p3_fri_extensions.specs.Extension.{IsLowDegreeExtension}
use Rattle.p3_fri_extensions.proofs.extension.extend_each.Given as goal

abbrev pub invariant-loop-domain : goal.invariant-loop-domain
invariant-loop-domain g l = record {
  words_so_far : AllZip (λ matrix e. IsLowDegreeExtension g.F.Field.ops g.F.TwoAdicField.root
      g.F.Field.GENERATOR l.log_blowup e.0.shift e.0.log_size e.1 matrix) l.words.items l.yielded;
  whole : l.yielded ++ l.domain-iterator.rest.items ≡ l.fn.evaluations.items;
  count : l.domain-iterator.rest.len ≡ length l.domain-iterator.rest.items;
}
