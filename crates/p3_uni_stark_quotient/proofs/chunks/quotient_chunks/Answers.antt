use Rattle.std.proofs.Common.{◌≡◌, ◌^◌, ap, ◌∙◌, arith}
use Rattle.algebra.specs.Polynomial.{tabulate}
use Rattle.p3_matrix.specs.Matrix.{rows}
use Rattle.p3_uni_stark_quotient.specs.Chunked.{chunk_rows}
use Rattle.p3_uni_stark_quotient.proofs.Entries.{shifted_one}
use Rattle.p3_uni_stark_quotient.proofs.Chunking.{mapped_next}
use Rattle.p3_uni_stark_quotient.proofs.chunks.quotient_chunks.Goals as goal

pub quotient_chunk-requires-clause-sizes : goal.quotient_chunk-requires-clause-sizes
quotient_chunk-requires-clause-sizes g c = c.requires.sizes

pub quotient_chunk-requires-clause-count : goal.quotient_chunk-requires-clause-count
quotient_chunk-requires-clause-count g c = c.requires.count

pub quotient_chunk-requires-clause-chunk : goal.quotient_chunk-requires-clause-chunk
quotient_chunk-requires-clause-chunk g c =
    let sizes = c.requires.sizes in
    let step = shifted_one c.args.log_num_chunks 63 (omega (arith, sizes)) (omega arith) in
    let test = c.loop-chunk-test.true in
    omega (arith, test, step)

pub loop-chunk-preserved : goal.loop-chunk-preserved
loop-chunk-preserved g c = mapped_next (λ m. rows m) c.loop-chunk.chunks.items
    c.push.new.self.items c.in_ok-matrix.matrix c.loop-chunk.chunk
    (chunk_rows g.EF.ExtensionField.coefficients g.EF.Field.ops.zero c.args.log_size
    c.args.log_num_chunks c.args.values.now) c.in_ok-push.ensures.items c.loop-chunk.invariant
    c.in_ok-matrix.ensures.rows

pub returns : goal.returns
returns g c =
    let sizes = c.requires.sizes in
    let step = shifted_one c.args.log_num_chunks 63 (omega (arith, sizes)) (omega arith) in
    let test = c.loop-chunk-test.false in
    let auto = c.loop-chunk.auto in
    let end : c.loop-chunk.chunk ≡ 2 ^ c.args.log_num_chunks = omega (arith, test, auto, step) in
    record {
      rows = c.loop-chunk.invariant
          ∙ ap (λ n. tabulate n (chunk_rows g.EF.ExtensionField.coefficients g.EF.Field.ops.zero
          c.args.log_size c.args.log_num_chunks c.args.values.now)) end;
    }
