use Rattle.std.proofs.Common.{◌≡◌, ◌*◌, ◌%◌, ◌^◌, length, take, arith, ap, ◌∙◌}
use Rattle.std.proofs.lemmas.Nat.{one_shl}
use Rattle.std.proofs.lemmas.List.{length-take-le}
use Rattle.p3_field_core.specs.Index.{bit_reversed}
use Rattle.p3_matrix.specs.Matrix.{rows}
use Rattle.p3_fri_extensions.proofs.evaluations.first_values.Goals as goal

pub split_rows-requires : goal.split_rows-requires
split_rows-requires g c =
    let k = c.args.log_size in
    let all : 1 * 2 ^ k % 2 ^ 64 ≡ 2 ^ k = one_shl k 64 c.requires.log_size in
    record { within = omega (arith, all, c.requires.within) }

pub bit_reverse_rows-requires : goal.bit_reverse_rows-requires
bit_reverse_rows-requires g c =
    let k = c.args.log_size in
    let words = rows c.args.words.now in
    let first : rows c.in_ok-to_row_major_matrix.field-0 ≡ take (2 ^ k) words =
    c.in_ok-to_row_major_matrix.ensures.rows ∙ c.split_rows.ensures.first
    ∙ ap (λ n. take n words) (one_shl k 64 c.requires.log_size) in
    record { power_of_two = (k, ap length first ∙ length-take-le (2 ^ k) words c.requires.within) }

pub returns : goal.returns
returns g c =
    let k = c.args.log_size in
    let words = rows c.args.words.now in
    let first : rows c.in_ok-to_row_major_matrix.field-0 ≡ take (2 ^ k) words =
    c.in_ok-to_row_major_matrix.ensures.rows ∙ c.split_rows.ensures.first
    ∙ ap (λ n. take n words) (one_shl k 64 c.requires.log_size) in
    record {
      width = c.bit_reverse_rows.ensures.width ∙ c.in_ok-to_row_major_matrix.ensures.width
          ∙ c.split_rows.ensures.first_width;
      entries = c.bit_reverse_rows.ensures.rows k
          (ap length first ∙ length-take-le (2 ^ k) words c.requires.within)
          ∙ ap (λ rs. bit_reversed k rs) first;
    }
