use Rattle.std.proofs.Common.{◌≡◌, ◌≤◌, ◌-◌, ◌+◌, ◌*◌, ◌^◌, ◌++◌, take, replicate, ℕ, length}
use Rattle.std.proofs.Common.{get_or, arith, ap, sym, ◌∙◌}
use Rattle.algebra.specs.Polynomial.{val}
use Rattle.p3_dft.specs.Strided.{strided}
use Rattle.p3_dft.proofs.Extensions.{extended_size, size_of_product, get_or-filled, padded_column}
use Rattle.p3_fri_extensions.proofs.fitting.padded.Goals as goal

pub returns-clause-values : goal.returns-clause-values
returns-clause-values g c j x l =
    let F = g.F.Field.ops in
    let w = c.args.width in
    let k = c.args.log_height in
    let n = c.args.log_size in
    let size = c.in-Some.size in
    let cs = c.args.values.items in
    let ps = c.resize.new.self.items in
    let grown : k + (n - k) ≡ n = omega (arith, c.requires.larger) in
    let product : size ≡ 2 ^ n * w =
    size_of_product n w size c.requires.log_size c.in-Some.ensures.1 in
    let count : length cs ≡ 2 ^ k * w = sym c.args.values.ok.0 ∙ c.requires.rows in
    let room : length cs ≤ size =
    omega (arith, count, product, extended_size k (n - k) w, ap (λ e. 2 ^ e * w) grown) in
    let same : (m : ℕ) → get_or ps m F.zero ≡ get_or cs m F.zero = λ m.
    ap (λ xs. get_or xs m F.zero) c.in_ok-resize.ensures.items
    ∙ ap (λ z. get_or (take size cs ++ replicate (size - c.args.values.len) z) m F.zero)
    (c.ZERO.ensures ∙ g.met.F.Field.zero_law)
    ∙ get_or-filled cs size (size - c.args.values.len) m F.zero room in
    ap (λ e. val F (strided F w (2 ^ e) ps j) x) (sym grown)
    ∙ padded_column F g.met.F.Field.laws.ring k (n - k) w cs ps count same j x
