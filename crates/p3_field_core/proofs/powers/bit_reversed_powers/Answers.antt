use Rattle.std.proofs.Common.{◌≡◌, ℕ, ◌*◌, ◌%◌, ◌^◌, ◌++◌, length, take, drop, ap, ◌∙◌, arith}
use Rattle.std.proofs.Math.Seq.{take-append_seam}
use Rattle.std.proofs.lemmas.Nat.{one_shl}
use Rattle.algebra.specs.Digits.{rev}
use Rattle.algebra.specs.Field.{pow}
use Rattle.algebra.specs.Polynomial.{tabulate}
use Rattle.algebra.proofs.Lists.{length-tabulate}
use Rattle.p3_field_core.specs.Index.{bit_reversed}
use Rattle.p3_field_core.proofs.IndexReversal.{bit_reversed-tabulate}
use Rattle.p3_field_core.proofs.powers.bit_reversed_powers.Goals as goal

pub reverse_slice_index_bits-requires : goal.reverse_slice_index_bits-requires
reverse_slice_index_bits-requires g c =
    let k = c.args.log_count in
    let count : 1 * 2 ^ k % 2 ^ 64 ≡ 2 ^ k = one_shl k 64 c.requires.count_fits in
    let f = λ (i : ℕ). g.F.Field.ops.mul c.args.first (pow g.F.Field.ops c.args.base i) in
    record {
      power_of_two = (
        k,
        ap length (c.deref_mut.ensures.value ∙ c.in_ok-powers.ensures)
            ∙ length-tabulate (1 * 2 ^ k % 2 ^ 64) f ∙ count,
      );
    }

pub returns : goal.returns
returns g c =
    let k = c.args.log_count in
    let count : 1 * 2 ^ k % 2 ^ 64 ≡ 2 ^ k = one_shl k 64 c.requires.count_fits in
    let f = λ (i : ℕ). g.F.Field.ops.mul c.args.first (pow g.F.Field.ops c.args.base i) in
    let now = c.reverse_slice_index_bits.new.vals in
    let before = c.in_ok-powers.powers.items in
    let listed : c.deref_mut.result.now ≡ tabulate (2 ^ k) f =
    c.deref_mut.ensures.value ∙ c.in_ok-powers.ensures ∙ ap (λ n. tabulate n f) count in
    let turned : now ≡ tabulate (2 ^ k) (λ i. f (rev k i)) =
    c.reverse_slice_index_bits.ensures k (ap length listed ∙ length-tabulate (2 ^ k) f)
    ∙ ap (λ xs. bit_reversed k xs) listed ∙ bit_reversed-tabulate k f in
    let long : length now ≡ 2 ^ k = ap length turned ∙ length-tabulate (2 ^ k) (λ i. f (rev k i)) in
    let whole : c.in_ok-powers.powers.len ≡ length now =
    omega (arith, long, c.deref_mut.ensures.len, ap length listed, length-tabulate (2 ^ k) f) in
    ap (λ n. take n (now ++ drop (length now) before)) whole
    ∙ take-append_seam now (drop (length now) before) ∙ turned
