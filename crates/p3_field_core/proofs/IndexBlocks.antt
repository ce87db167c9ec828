-- Digits reversed by exchanging neighbours: single digits, then pairs, then fours, up to halves.
use Rattle.std.proofs.Common.{◌≡◌, ℕ, zero, suc, ◌+◌, ◌-◌, ◌*◌, ◌/◌, ◌%◌, ◌^◌, ◌<◌, ◌≤◌, sym}
use Rattle.std.proofs.Common.{ap, ap₂, ◌∙◌, arith, bit_and}
use Rattle.std.proofs.lemmas.Nat.{and_block, and_mask, and_le_r, pow_pos, div-mul-add, mod-mul-add}
use Rattle.std.proofs.lemmas.Nat.{pow-add}
use Rattle.std.proofs.Math.Nat.{div-div-eq-div-mul, mod-lt, div-add-mod, mul-le-mul_right}
use Rattle.algebra.specs.Digits.{rev}
use Rattle.p3_field_core.specs.Index.{exchanged}
use Rattle.algebra.proofs.Digits.{rev-zero, rev-suc, rev-lt, rev-split}
use Rattle.algebra.proofs.Powers.{double}

-- `n` blocks of `w` digits, the digits of each reversed
blocks : ℕ → ℕ → ℕ → ℕ
blocks w zero x = 0
blocks w (suc n) x = blocks w n (x / 2 ^ w) * 2 ^ w + rev w x

-- ones at the lower `w` digits of each of `n` blocks of `2 w`
lower : ℕ → ℕ → ℕ
lower w zero = 0
lower w (suc n) = lower w n * 2 ^ (w + w) + (2 ^ w - 1)

-- by the half blocks: `h` is the number of the blocks above, the last block has the halves `b`
-- above `a`
module _ (w : ℕ) where
  twice : 2 ^ (w + w) ≡ 2 ^ w * 2 ^ w
  twice = pow-add 2 w w

  block_lt : (a b : ℕ) → a < 2 ^ w → b < 2 ^ w → b * 2 ^ w + a < 2 ^ (w + w)
  block_lt a b l m =
      rw twice (let o : suc b * 2 ^ w ≤ 2 ^ w * 2 ^ w = mul-le-mul_right (2 ^ w) m in
      omega (arith, l, o))

  -- the digits of a block above its lower half, and those of the next lower half above them
  halves_down : (h a b : ℕ) → a < 2 ^ w
      → (h * 2 ^ (w + w) + (b * 2 ^ w + a)) / 2 ^ w ≡ h * 2 ^ w + b
  halves_down h a b l =
      ap (λ n. n / 2 ^ w) (ap (λ t. h * t + (b * 2 ^ w + a)) twice ∙
      (let o : h * (2 ^ w * 2 ^ w) + (b * 2 ^ w + a)
      ≡ (h * 2 ^ w + b) * 2 ^ w + a = omega arith in o))
      ∙ div-mul-add (h * 2 ^ w + b) (2 ^ w) a l

  regrouped : (h b : ℕ) → h * 2 ^ w + b ≡ h / 2 ^ w * 2 ^ (w + w) + (h % 2 ^ w * 2 ^ w + b)
  regrouped h b =
      let d : 2 ^ w * (h / 2 ^ w) + h % 2 ^ w ≡ h = div-add-mod h (2 ^ w) in
      ap (λ n. n * 2 ^ w + b) (sym d)
      ∙ (let o : (2 ^ w * (h / 2 ^ w) + h % 2 ^ w) * 2 ^ w + b
      ≡ h / 2 ^ w * (2 ^ w * 2 ^ w) + (h % 2 ^ w * 2 ^ w + b) = omega arith in o)
      ∙ ap (λ t. h / 2 ^ w * t + (h % 2 ^ w * 2 ^ w + b)) (sym twice)

  low_of_block : (a b : ℕ) → a < 2 ^ w → bit_and (b * 2 ^ w + a) (2 ^ w - 1) ≡ a
  low_of_block a b l = and_mask (b * 2 ^ w + a) w ∙ mod-mul-add b (2 ^ w) a l

  ones_lt : 2 ^ w - 1 < 2 ^ (w + w)
  ones_lt =
      rw twice (let o : 1 * 2 ^ w ≤ 2 ^ w * 2 ^ w = mul-le-mul_right (2 ^ w) (pow_pos w) in
      omega (arith, o, pow_pos w))

  exchanged_block : (low h a b : ℕ) → a < 2 ^ w → b < 2 ^ w
      → exchanged w (low * 2 ^ (w + w) + (2 ^ w - 1)) (h * 2 ^ (w + w) + (b * 2 ^ w + a))
      ≡ exchanged w low h * 2 ^ (w + w) + (a * 2 ^ w + b)
  exchanged_block low h a b l m =
      ap₂ (λ s t. s * 2 ^ w + t)
      (and_block (w + w) h low (b * 2 ^ w + a) (2 ^ w - 1) (block_lt a b l m) ones_lt
      ∙ ap (λ t. bit_and h low * 2 ^ (w + w) + t) (low_of_block a b l))
      (ap (λ t. bit_and t (low * 2 ^ (w + w) + (2 ^ w - 1))) (halves_down h a b l ∙ regrouped h b)
      ∙ and_block (w + w) (h / 2 ^ w) low (h % 2 ^ w * 2 ^ w + b) (2 ^ w - 1)
      (block_lt b (h % 2 ^ w) m (mod-lt h (pow_pos w))) ones_lt
      ∙ ap (λ t. bit_and (h / 2 ^ w) low * 2 ^ (w + w) + t) (low_of_block b (h % 2 ^ w) m))
      ∙ sorted (bit_and h low) (bit_and (h / 2 ^ w) low) (2 ^ (w + w)) (2 ^ w)
    where
      sorted : (s t q p : ℕ) → (s * q + a) * p + (t * q + b) ≡ (s * p + t) * q + (a * p + b)
      sorted s t q p = omega arith

  -- two blocks are the halves of one
  two_blocks : (n x : ℕ) → blocks w (suc n + suc n) x
      ≡ blocks w (n + n) (x / 2 ^ (w + w)) * 2 ^ (w + w) + (rev w (x / 2 ^ w) * 2 ^ w + rev w x)
  unfolding blocks
  two_blocks n x =
      ap (λ m. blocks w m x) (let o : suc n + suc n ≡ suc (suc (n + n)) = omega arith in o)
      ∙ (let o : (blocks w (n + n) (x / 2 ^ w / 2 ^ w) * 2 ^ w + rev w (x / 2 ^ w)) * 2 ^ w + rev w
      x
      ≡ blocks w (n + n) (x / 2 ^ w / 2 ^ w) * (2 ^ w * 2 ^ w) +
      (rev w (x / 2 ^ w) * 2 ^ w + rev w x) = omega arith in o)
      ∙ ap₂ (λ y t. blocks w (n + n) y * t + (rev w (x / 2 ^ w) * 2 ^ w + rev w x))
      (div-div-eq-div-mul x (2 ^ w) (2 ^ w) ∙ ap (λ t. x / t) (sym twice)) (sym twice)

  -- the exchange of the halves of each block reverses it, where its halves are reversed
  exchanged_blocks : (n x : ℕ) → exchanged w (lower w n) (blocks w (n + n) x) ≡ blocks (w + w) n x
  unfolding blocks lower
  exchanged_blocks zero x = none
    where
      none : exchanged w 0 0 ≡ 0
      none = omega (arith, and_le_r 0 0, and_le_r (0 / 2 ^ w) 0)
  exchanged_blocks (suc n) x =
      ap (λ t. exchanged w (lower w n * 2 ^ (w + w) + (2 ^ w - 1)) t) (two_blocks n x)
      ∙ exchanged_block (lower w n) (blocks w (n + n) (x / 2 ^ (w + w))) (rev w x)
      (rev w (x / 2 ^ w)) (rev-lt w x) (rev-lt w (x / 2 ^ w))
      ∙ ap₂ (λ s t. s * 2 ^ (w + w) + t) (exchanged_blocks n (x / 2 ^ (w + w)))
      (sym (rev-split w w x))

single_digits : (n x : ℕ) → x < 2 ^ n → blocks 1 n x ≡ x
unfolding blocks
single_digits zero x l = omega (arith, l)
single_digits (suc n) x l =
    ap₂ (λ s t. s * 2 + t) (single_digits n (x / 2) (omega (arith, l, double n)))
    (rev-suc 0 x ∙ ap (λ t. x % 2 * 1 + t) (rev-zero (x / 2)))
    ∙ omega arith

one_block : (w x : ℕ) → blocks w 1 x ≡ rev w x
unfolding blocks
one_block w x = (let o : 0 * 2 ^ w + rev w x ≡ rev w x = omega arith in o)

pub by_exchanges : (x pairs fours bytes words halves whole : ℕ) → x < 2 ^ 64
    → pairs ≡ exchanged 1 6148914691236517205 x
    → fours ≡ exchanged 2 3689348814741910323 pairs
    → bytes ≡ exchanged 4 1085102592571150095 fours
    → words ≡ exchanged 8 71777214294589695 bytes
    → halves ≡ exchanged 16 281470681808895 words
    → whole ≡ exchanged 32 4294967295 halves
    → whole ≡ rev 64 x
unfolding lower
by_exchanges x pairs fours bytes words halves whole less p f b w h e =
    e ∙ ap (λ t. exchanged 32 4294967295 t) h5 ∙ exchanged_blocks 32 1 x ∙ one_block 64 x
  where
    h1 : pairs ≡ blocks 2 32 x
    h1 = p ∙ ap (λ t. exchanged 1 6148914691236517205 t) (sym (single_digits 64 x less))
        ∙ exchanged_blocks 1 32 x

    h2 : fours ≡ blocks 4 16 x
    h2 = f ∙ ap (λ t. exchanged 2 3689348814741910323 t) h1 ∙ exchanged_blocks 2 16 x

    h3 : bytes ≡ blocks 8 8 x
    h3 = b ∙ ap (λ t. exchanged 4 1085102592571150095 t) h2 ∙ exchanged_blocks 4 8 x

    h4 : words ≡ blocks 16 4 x
    h4 = w ∙ ap (λ t. exchanged 8 71777214294589695 t) h3 ∙ exchanged_blocks 8 4 x

    h5 : halves ≡ blocks 32 2 x
    h5 = h ∙ ap (λ t. exchanged 16 281470681808895 t) h4 ∙ exchanged_blocks 16 2 x

-- the highest `k` of 64 digits
pub rev-highest : (k i : ℕ) → k ≤ 64 → rev 64 i / 2 ^ (64 - k) ≡ rev k i
rev-highest k i b =
    ap (λ t. t / 2 ^ (64 - k))
    (ap (λ t. rev t i) (let e : 64 ≡ k + (64 - k) = omega (arith, b) in e)
    ∙ rev-split k (64 - k) i)
    ∙ div-mul-add (rev k i) (2 ^ (64 - k)) (rev (64 - k) (i / 2 ^ k)) (rev-lt (64 - k) (i / 2 ^ k))
