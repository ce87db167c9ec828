use Rattle.std.proofs.Common.{◌≡◌, ◌+◌, ◌*◌, ◌%◌, ◌^◌, get_or, take, arith, ap, ap₂}
use Rattle.std.proofs.Common.{sym, ◌∙◌}
use Rattle.std.proofs.lemmas.Nat.{one_shl}
use Rattle.std.proofs.lemmas.List.{with_items_is}
use Rattle.algebra.specs.Polynomial.{val}
use Rattle.p3_dft.specs.Strided.{strided}
use Rattle.p3_fri_extensions.proofs.Halving.{both_halves, halved_column}
use Rattle.p3_fri_extensions.proofs.fitting.halved.Goals as goal

pub overflow_mul-half : goal.overflow_mul-half
overflow_mul-half g c =
    let k = c.args.log_size in
    let w = c.args.width in
    let half : 1 * 2 ^ k % 2 ^ 64 * w ≡ 2 ^ k * w =
    ap (λ n. n * w) (one_shl k 64 (omega (arith, c.requires.log_size))) in
    omega (arith, half, both_halves k w, c.requires.rows, c.args.values.ok.1, c.args.values.small)

pub add_second_half-requires : goal.add_second_half-requires
add_second_half-requires g c =
    let k = c.args.log_size in
    let w = c.args.width in
    record {
      halves = c.deref_mut.ensures.len ∙ c.requires.rows ∙ both_halves k w
          ∙ ap (λ n. n * w + n * w) (sym (one_shl k 64 (omega (arith, c.requires.log_size))));
    }

pub returns-clause-len : goal.returns-clause-len
returns-clause-len g c =
    let k = c.args.log_size in
    let w = c.args.width in
    let half : 1 * 2 ^ k % 2 ^ 64 * w ≡ 2 ^ k * w =
    ap (λ n. n * w) (one_shl k 64 (omega (arith, c.requires.log_size))) in
    omega (arith, c.truncate.ensures.len, half, both_halves k w, c.requires.rows)

pub returns-clause-values : goal.returns-clause-values
returns-clause-values g c j x l power =
    let F = g.F.Field.ops in
    let k = c.args.log_size in
    let w = c.args.width in
    let ys = c.add_second_half.new.values in
    let half : 1 * 2 ^ k % 2 ^ 64 * w ≡ 2 ^ k * w =
    ap (λ n. n * w) (one_shl k 64 (omega (arith, c.requires.log_size))) in
    let written =
    with_items_is c.args.values ys (c.add_second_half.auto.values ∙ c.deref_mut.ensures.len) in
    ap (λ zs. val F (strided F w (2 ^ k) zs j) x)
    (c.truncate.ensures.items ∙ ap₂ (λ n zs. take n zs) half written)
    ∙ halved_column F g.met.F.Field.laws.ring w k c.args.values.items ys c.args.factor
    (λ n b. c.add_second_half.ensures n F.zero (omega (arith, b, half))
    ∙ ap₂ (λ zs m. F.add (get_or zs n F.zero) (F.mul (get_or zs (n + m) F.zero) c.args.factor))
    c.deref_mut.ensures.value half)
    j x l power
