-- Rotations under exclusive or, by shifts of which each goes inside the next.
use Rattle.std.proofs.Common.{◌≡◌, ℕ, ◌+◌, ◌-◌, ◌*◌, ◌/◌, ◌%◌, ◌^◌, ◌<◌, ◌≤◌, bit_or, bit_xor, w32, sym, subst, ap, ap₂, ◌∙◌}
use Rattle.std.proofs.Common.{add-zero, mul_assoc, pow_pos, arith}
use Rattle.std.proofs.lemmas.Nat.{mod-pow-add, mul-mod_first, pow-add, shl-shr, shr-shr, shr_below}
use Rattle.std.proofs.lemmas.Nat.{xor_block, xor_comm, xor_mod, xor_shr}
use Rattle.std.proofs.lemmas.Nat.Bits.{bit_at_xor, same_from_bits}
use Rattle.std.proofs.Math.Nat.{mul-mod_left}
use Rattle.std.specs.Int.{rotate_right}
use Rattle.std.specs.Int.Bits.{or_shifted_r, xor_zero_l, xor_zero_r}
use Rattle.sha256_lanes.specs.Words.{left}
use Rattle.sha2.specs.Sha256.{big_sigma0, big_sigma1, small_sigma0, small_sigma1}

doubled_xor : (x y k : ℕ) → bit_xor (x * 2 ^ k) (y * 2 ^ k) ≡ bit_xor x y * 2 ^ k
doubled_xor x y k =
    ap₂ bit_xor (sym (add-zero (x * 2 ^ k))) (sym (add-zero (y * 2 ^ k)))
    ∙ xor_block k x y 0 0 (pow_pos k) (pow_pos k) ∙ ap (λ n. bit_xor x y * 2 ^ k + n) (xor_zero_l 0) ∙ add-zero _

left_xor : (x y k : ℕ) → left (bit_xor x y) k ≡ bit_xor (left x k) (left y k)
left_xor x y k = ap (λ n. n % 2 ^ 32) (sym (doubled_xor x y k)) ∙ xor_mod (x * 2 ^ k) (y * 2 ^ k) 32

left_left : (x j k : ℕ) → left (left x j) k ≡ left x (j + k)
left_left x j k =
    mul-mod_first (x * 2 ^ j) (2 ^ k) (2 ^ 32)
    ∙ ap (λ n. n % 2 ^ 32) (mul_assoc x (2 ^ j) (2 ^ k) ∙ ap (λ n. x * n) (sym (pow-add 2 j k)))

-- two shifts to the left, and three
pub left_two : (x a b : ℕ) → left (bit_xor x (left x a)) b ≡ bit_xor (left x b) (left x (a + b))
left_two x a b = left_xor x (left x a) b ∙ ap (bit_xor (left x b)) (left_left x a b)

pub left_three : (x a b c : ℕ) → left (bit_xor x (left (bit_xor x (left x a)) b)) c
    ≡ bit_xor (left x c) (bit_xor (left x (b + c)) (left x (a + (b + c))))
left_three x a b c =
    left_xor x (left (bit_xor x (left x a)) b) c
    ∙ ap (bit_xor (left x c)) (left_left (bit_xor x (left x a)) b c ∙ left_two x a (b + c))

-- three shifts to the right
pub right_three : (x a b c : ℕ) → bit_xor x (bit_xor x (x / 2 ^ a) / 2 ^ b) / 2 ^ c
    ≡ bit_xor (x / 2 ^ c) (bit_xor (x / 2 ^ (b + c)) (x / 2 ^ (a + (b + c))))
right_three x a b c =
    xor_shr x (bit_xor x (x / 2 ^ a) / 2 ^ b) c
    ∙ ap (bit_xor (x / 2 ^ c)) (shr-shr (bit_xor x (x / 2 ^ a)) b c
    ∙ xor_shr x (x / 2 ^ a) (b + c) ∙ ap (bit_xor (x / 2 ^ (b + c))) (shr-shr x a (b + c)))

-- the two shifts of a rotation
pub turned : (x s t : ℕ) → x < 4294967296 → 1 ≤ s → s + t ≡ 32 → 1 ≤ t → bit_xor (x / 2 ^ s) (left x t) ≡ rotate_right w32 x s
turned x s t lt low sum high =
    let small : x / 2 ^ s < 2 ^ t = shr_below x t s (subst (λ n. x < 2 ^ n) (let e : 32 ≡ t + s = omega arith in e) lt) in
    let top : left x t ≡ x % 2 ^ s * 2 ^ t =
    ap (λ n. x * 2 ^ t % 2 ^ n) (sym sum) ∙ mod-pow-add (x * 2 ^ t) s t
    ∙ ap₂ (λ m n. m % 2 ^ s * 2 ^ t + n) (shl-shr x t) (mul-mod_left x (2 ^ t)) ∙ add-zero _ in
    let apart : bit_xor (x / 2 ^ s) (x % 2 ^ s * 2 ^ t) ≡ x % 2 ^ s * 2 ^ t + x / 2 ^ s =
    xor_comm (x / 2 ^ s) (x % 2 ^ s * 2 ^ t)
    ∙ ap₂ bit_xor (sym (add-zero (x % 2 ^ s * 2 ^ t))) (let e : x / 2 ^ s ≡ 0 * 2 ^ t + x / 2 ^ s = omega arith in e)
    ∙ xor_block t (x % 2 ^ s) 0 0 (x / 2 ^ s) (pow_pos t) small
    ∙ ap₂ (λ m n. m * 2 ^ t + n) (xor_zero_r (x % 2 ^ s)) (xor_zero_l (x / 2 ^ s)) in
    let by : s % 32 ≡ s = omega arith in
    let back : (32 - s) % 32 ≡ t = omega arith in
    ap (bit_xor (x / 2 ^ s)) top ∙ apart ∙ sym (or_shifted_r (x % 2 ^ s) t (x / 2 ^ s) small)
    ∙ ap (bit_or (x / 2 ^ s)) (sym top)
    ∙ ap₂ (λ m n. bit_or (x / 2 ^ m) (left x n)) (sym by) (sym back ∙ ap (λ n. (32 - n) % 32) (sym by))

-- the shifts of three rotations, each beside its own
three_pairs : (a b c p q r : ℕ) → bit_xor (bit_xor a (bit_xor b c)) (bit_xor r (bit_xor q p))
    ≡ bit_xor (bit_xor (bit_xor a p) (bit_xor b q)) (bit_xor c r)
three_pairs a b c p q r = same_from_bits _ _ (λ i. simp bit_at_xor (six _ _ _ _ _ _))
  where
    six : (a b c p q r : ℕ) → ((a + (b + c) % 2) % 2 + (r + (q + p) % 2) % 2) % 2
        ≡ (((a + p) % 2 + (b + q) % 2) % 2 + (c + r) % 2) % 2
    six a b c p q r = omega arith

-- the shifts of two rotations, and one more
two_pairs : (a b c p q : ℕ) → bit_xor (bit_xor c (bit_xor a b)) (bit_xor q p)
    ≡ bit_xor (bit_xor (bit_xor a p) (bit_xor b q)) c
two_pairs a b c p q = same_from_bits _ _ (λ i. simp bit_at_xor (five _ _ _ _ _))
  where
    five : (a b c p q : ℕ) → ((c + (a + b) % 2) % 2 + (q + p) % 2) % 2 ≡ (((a + p) % 2 + (b + q) % 2) % 2 + c) % 2
    five a b c p q = omega arith

module _ (x : ℕ) (lt : x < 4294967296) where
  rotation : (s t : ℕ) → 1 ≤ s → s + t ≡ 32 → 1 ≤ t → bit_xor (x / 2 ^ s) (left x t) ≡ rotate_right w32 x s
  rotation s t = turned x s t lt

  pub upper0_is : bit_xor (bit_xor (x / 2 ^ 2) (bit_xor (x / 2 ^ 13) (x / 2 ^ 22)))
      (bit_xor (left x 10) (bit_xor (left x 19) (left x 30))) ≡ big_sigma0 x
  upper0_is =
      three_pairs (x / 2 ^ 2) (x / 2 ^ 13) (x / 2 ^ 22) (left x 30) (left x 19) (left x 10)
      ∙ ap₂ bit_xor (ap₂ bit_xor (rotation 2 30 (omega arith) (omega arith) (omega arith)) (rotation 13 19 (omega arith) (omega arith) (omega arith)))
      (rotation 22 10 (omega arith) (omega arith) (omega arith))

  pub upper1_is : bit_xor (bit_xor (x / 2 ^ 6) (bit_xor (x / 2 ^ 11) (x / 2 ^ 25)))
      (bit_xor (left x 7) (bit_xor (left x 21) (left x 26))) ≡ big_sigma1 x
  upper1_is =
      three_pairs (x / 2 ^ 6) (x / 2 ^ 11) (x / 2 ^ 25) (left x 26) (left x 21) (left x 7)
      ∙ ap₂ bit_xor (ap₂ bit_xor (rotation 6 26 (omega arith) (omega arith) (omega arith)) (rotation 11 21 (omega arith) (omega arith) (omega arith)))
      (rotation 25 7 (omega arith) (omega arith) (omega arith))

  pub lower0_is : bit_xor (bit_xor (x / 2 ^ 3) (bit_xor (x / 2 ^ 7) (x / 2 ^ 18))) (bit_xor (left x 14) (left x 25)) ≡ small_sigma0 x
  lower0_is =
      two_pairs (x / 2 ^ 7) (x / 2 ^ 18) (x / 2 ^ 3) (left x 25) (left x 14)
      ∙ ap (λ y. bit_xor y (x / 2 ^ 3))
      (ap₂ bit_xor (rotation 7 25 (omega arith) (omega arith) (omega arith)) (rotation 18 14 (omega arith) (omega arith) (omega arith)))

  pub lower1_is : bit_xor (bit_xor (x / 2 ^ 10) (bit_xor (x / 2 ^ 17) (x / 2 ^ 19))) (bit_xor (left x 13) (left x 15)) ≡ small_sigma1 x
  lower1_is =
      two_pairs (x / 2 ^ 17) (x / 2 ^ 19) (x / 2 ^ 10) (left x 15) (left x 13)
      ∙ ap (λ y. bit_xor y (x / 2 ^ 10))
      (ap₂ bit_xor (rotation 17 15 (omega arith) (omega arith) (omega arith)) (rotation 19 13 (omega arith) (omega arith) (omega arith)))
