use Rattle.std.proofs.Common.{◌^◌, sym, ap, ◌∙◌, length}
use Rattle.algebra.specs.Polynomial.{tabulate}
use Rattle.algebra.proofs.Lists.{length-tabulate}
use Rattle.p3_uni_stark_quotient.specs.Chunked.{chunk_rows}
use Rattle.p3_uni_stark_phases.proofs.Pairs.{many_mapped, are_pairs, rows_paired}
use Rattle.p3_uni_stark_phases.proofs.quotient.chunks_on_coset.Goals as goal

pub quotient_chunks-requires-clause-count : goal.quotient_chunks-requires-clause-count
quotient_chunks-requires-clause-count g c =
    ap length (c.as_slice.ensures.value ∙ c.in_ok-values.ensures)
    ∙ length-tabulate (2 ^ c.args.coset.log_size) _ ∙ ap (λ n. 2 ^ n) c.requires.size

pub on_domains-requires : goal.on_domains-requires
on_domains-requires g c = record {
  count = ap length c.as_slice-2.ensures.value
      ∙ many_mapped c.in_ok-domains.domains.items _ (2 ^ c.args.log_num_chunks) _
      c.in_ok-domains.ensures.shifts
      ∙ sym (many_mapped c.in_ok-chunks.chunks.items _ (2 ^ c.args.log_num_chunks) _
      c.in_ok-chunks.ensures.rows);
}

pub returns-clause-domains : goal.returns-clause-domains
returns-clause-domains g c =
    are_pairs g.F.Field.ops g.F.TwoAdicField.root g.F.Field.GENERATOR
    g.EF.ExtensionField.DIMENSION (λ d. d.shift) (λ d. d.log_size) c.args.log_size
    c.args.log_num_chunks c.in_ok-pairs.pairs.items c.in_ok-domains.domains.items
    c.in_ok-chunks.chunks.items
    (c.in_ok-pairs.ensures.domains ∙ c.as_slice-2.ensures.value) c.in_ok-pairs.ensures.matrices
    c.in_ok-domains.ensures.shifts c.in_ok-domains.ensures.sizes
    g.EF.ExtensionField.coefficients g.EF.Field.ops.zero c.as_slice.result.now
    g.met.EF.ExtensionField.dimension_law c.in_ok-chunks.ensures.rows

pub returns-clause-rows : goal.returns-clause-rows
returns-clause-rows g c =
    rows_paired g.F.Field.ops g.F.TwoAdicField.root g.F.Field.GENERATOR
    g.EF.ExtensionField.DIMENSION (λ d. d.shift) (λ d. d.log_size) c.args.log_size
    c.args.log_num_chunks c.in_ok-pairs.pairs.items c.in_ok-domains.domains.items
    c.in_ok-chunks.chunks.items
    (c.in_ok-pairs.ensures.domains ∙ c.as_slice-2.ensures.value) c.in_ok-pairs.ensures.matrices
    c.in_ok-domains.ensures.shifts c.in_ok-domains.ensures.sizes
    g.EF.ExtensionField.coefficients g.EF.Field.ops.zero c.as_slice.result.now
    g.met.EF.ExtensionField.dimension_law c.in_ok-chunks.ensures.rows
    ∙ ap (λ values. tabulate (2 ^ c.args.log_num_chunks) (chunk_rows
    g.EF.ExtensionField.coefficients g.EF.Field.ops.zero c.args.log_size c.args.log_num_chunks
    values)) (c.as_slice.ensures.value ∙ c.in_ok-values.ensures)
