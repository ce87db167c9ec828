use Rattle.std.proofs.Common.{◌≡◌, ◌*◌, ◌/◌, ◌^◌, length, map, ap, ◌∙◌}
use Rattle.std.proofs.lemmas.Result.{IfOk-weaker}
use Rattle.algebra.specs.Polynomial.{tabulate}
use Rattle.p3_matrix.specs.Matrix.{rows}
use Rattle.p3_domain.specs.Domains.{strided_rows}
use Rattle.p3_domain.proofs.Sizes.{power_some, power_divides}
use Rattle.p3_domain.proofs.two_adic.TwoAdicMultiplicativeCosetPolynomialSpace.split_evals.Goals as goal

pub split_rows-requires : goal.split_rows-requires
split_rows-requires g c = record {
  some = power_some c.args.num_chunks c.requires.power_of_two;
  divides = power_divides c.args.num_chunks (length (rows c.args.evals.now)) c.args.self.now.log_size
      c.requires.power_of_two c.requires.within c.requires.height;
}

pub returns-clause-rows : goal.returns-clause-rows
returns-clause-rows g c =
    let n = c.args.num_chunks in
    let all = rows c.args.evals.now in
    IfOk-weaker c.split_rows.result
    (λ chunks. map (λ m. rows m) chunks.items
    ≡ tabulate n (strided_rows n (length all / n) all))
    (λ chunks. map (λ m. rows m) chunks.items
    ≡ tabulate n (strided_rows n (2 ^ c.args.self.now.log_size / n) all))
    (λ chunks h. h ∙ ap (λ m. tabulate n (strided_rows n (m / n) all)) c.requires.height)
    c.split_rows.ensures.rows
