use Rattle.std.proofs.Common.{refl, ◌∙◌}
use Rattle.std.proofs.lemmas.List.{get_or_read}
use Rattle.p3_fri_inputs.proofs.sums.add_block.Goals as goal

pub returns-clause-sum : goal.returns-clause-sum
returns-clause-sum g c = (
  c.add_matrix.result,
  refl,
  λ x m later are from. c.add_matrix.ensures x m later are
      (get_or_read c.args.sums.now _ c.index-sums-h.result c.requires.height c.index-sums-h.is
      c.add_matrix.result ∙ from),
)
