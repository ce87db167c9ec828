use Rattle.std.proofs.Common.{◌≡◌, ◌/◌, ◌<◌, length, map, ap, sym, subst, ◌∙◌, arith}
use Rattle.std.specs.Prelude.{All}
use Rattle.std.proofs.lemmas.List.{map_push}
use Rattle.std.proofs.lemmas.List.Elements.{All-push}
use Rattle.algebra.specs.Polynomial.{tabulate}
use Rattle.p3_matrix.specs.Matrix.{rows, matrix_width}
use Rattle.p3_uni_stark_quotient.proofs.Chunking.{mapped_next}
use Rattle.p3_domain.specs.Domains.{strided_rows}
use Rattle.p3_domain.proofs.strided.split_rows.Goals as goal

pub loop-chunk-preserved : goal.loop-chunk-preserved
loop-chunk-preserved g c =
    let all = rows c.args.matrix.now in
    let n = c.args.num_chunks in
    let before = c.loop-chunk.chunks.items in
    let chosen = c.in_ok-rows.rows in
    let grown = c.in_ok-push.ensures.items in (
      mapped_next (λ m. rows m) before c.push.new.self.items chosen c.loop-chunk.chunk
          (strided_rows n (length all / n) all) grown c.loop-chunk.invariant.0
          c.in_ok-rows.ensures.rows,
      subst (λ widths. All (λ w. w ≡ matrix_width c.args.matrix.now) widths)
          (sym (ap (λ ms. map (λ m. matrix_width m) ms) grown
          ∙ map_push (λ m. matrix_width m) before chosen))
          (All-push (λ w. w ≡ matrix_width c.args.matrix.now) (map (λ m. matrix_width m) before)
          (matrix_width chosen) c.loop-chunk.invariant.1 c.in_ok-rows.ensures.width),
    )

pub returns : goal.returns
returns g c =
    let all = rows c.args.matrix.now in
    let n = c.args.num_chunks in
    let test = c.loop-chunk-test.false in
    let auto = c.loop-chunk.auto in
    let end : c.loop-chunk.chunk ≡ n = omega (arith, test, auto) in
    record {
      rows = c.loop-chunk.invariant.0
          ∙ ap (λ k. tabulate k (strided_rows n (length all / n) all)) end;
      widths = c.loop-chunk.invariant.1;
    }
