-- Lists in bit-reversed order.
use Rattle.std.specs.Prelude.{ℕ, ◌+◌, ◌*◌, ◌/◌, ◌^◌, List, [], ◌∷◌, slice_index_or, bit_and}
use Rattle.algebra.specs.Digits.{rev}
use Rattle.algebra.specs.Polynomial.{tabulate}

-- the `2^k` entries of `xs` in bit-reversed order: entry `i` is the one that `xs` has at `rev k i`
-- (`d`, its first, is the default of that look-up, which no index of `2^k` entries needs)
unfoldable pub bit_reversed : {A : Type 0} → ℕ → List A → List A
bit_reversed k [] = []
bit_reversed k (d ∷ xs) = tabulate (2 ^ k) (λ i. slice_index_or (d ∷ xs) (rev k i) d)

-- the digits of `x` in blocks of `2 w`, both halves of each exchanged, where `lower` has ones at
-- the lower halves
abbrev pub exchanged : ℕ → ℕ → ℕ → ℕ
exchanged w lower x = bit_and x lower * 2 ^ w + bit_and (x / 2 ^ w) lower
