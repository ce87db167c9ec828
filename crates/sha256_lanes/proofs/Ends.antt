-- The end of a padded message.
use Rattle.std.proofs.Common.{◌≡◌, ◌≢◌, ℕ, zero, suc, ◌+◌, ◌-◌, ◌*◌, ◌/◌, ◌%◌, ◌^◌, ◌<◌, ◌≤◌, List, ◌∷◌, ◌++◌, length, take}
use Rattle.std.proofs.Common.{get_or, set, replicate, w64, refl, sym, ap, inl, inr, ◌∙◌, add-zero, arith}
use Rattle.std.proofs.Common.{length-append, length-take-le, length-set, get_or-take}
use Rattle.std.proofs.lemmas.List.{get_or_append_left, get_or-append-add, get_or-set_same, get_or-set_other, length-replicate}
use Rattle.std.proofs.lemmas.Simd.{get_or-replicate}
use Rattle.std.proofs.lemmas.Bool.{cases_lt}
use Rattle.std.specs.Int.{to_be_bytes}
use Rattle.sha2.specs.Sha256.{padded_message, padding}
use Rattle.sha256_lanes.specs.Blocks.{blocks_of, IsEndOf}
use borrow.Rule.Slice.PartMut.{put_mid, post_of}

pub length-padding : (len : ℕ) → length (padding len) ≡ 9 + (119 - len % 64) % 64
length-padding len =
    let bits = to_be_bytes w64 (len * 8 % 2 ^ 64) in
    let eight : length bits ≡ 8 = refl in
    omega (arith, eight, length-append (replicate ((119 - len % 64) % 64) 0) bits, length-replicate {A = ℕ} ((119 - len % 64) % 64) 0)

-- a padded message is whole blocks
pub padded_blocks : (m : List ℕ) (len : ℕ) → length m ≡ len → length (padded_message m) / 64 ≡ blocks_of len
padded_blocks m len e =
    let whole = length-append m (padding (length m)) in
    let rest : length (padding (length m)) ≡ 9 + (119 - len % 64) % 64 = length-padding (length m) ∙ ap (λ n. 9 + (119 - n % 64) % 64) e in
    omega (arith, whole, rest, e)

-- zeros with a byte among them
one_in_zeros : (n i k b : ℕ) → i < n → k ≢ i → k < n → get_or (set (replicate n 0) i b) k 0 ≡ 0
one_in_zeros n i k b lt ne le = get_or-set_other (replicate n 0) i k b 0 ne ∙ get_or-replicate n k 0 0 le

padding_zero : (z k : ℕ) (bits : List ℕ) → 1 ≤ k → k ≤ z → get_or (0x80 ∷ replicate z 0 ++ bits) k 0 ≡ 0
padding_zero z zero bits low high = absurd (omega (arith, low))
padding_zero z (suc k) bits low high =
    get_or_append_left (replicate z 0) bits 0 k (omega (arith, high, length-replicate {A = ℕ} z 0)) ∙ get_or-replicate z k 0 0 (omega (arith, high))

padding_length : (z j k : ℕ) (bits : List ℕ) → k ≡ 1 + z + j → get_or (0x80 ∷ replicate z 0 ++ bits) k 0 ≡ get_or bits j 0
padding_length z j zero bits e = absurd (omega (arith, e))
padding_length z j (suc k) bits e =
    ap (λ n. get_or (replicate z 0 ++ bits) n 0) (omega (arith, e, length-replicate {A = ℕ} z 0)) ∙ get_or-append-add (replicate z 0) bits j 0

-- a byte of a list with a part written over
before_part : (a k i : ℕ) (xs ys : List ℕ) → a ≤ length xs → i < a → get_or (put_mid a k xs ys) i 0 ≡ get_or xs i 0
before_part a k i xs ys le lt =
    get_or_append_left (take a xs) (ys ++ post_of a k xs) 0 i (omega (arith, length-take-le a xs le, lt)) ∙ get_or-take a xs i 0 lt

in_part : (a k j : ℕ) (xs ys : List ℕ) → a ≤ length xs → j < length ys → get_or (put_mid a k xs ys) (a + j) 0 ≡ get_or ys j 0
in_part a k j xs ys le lt =
    ap (λ n. get_or (put_mid a k xs ys) (n + j) 0) (sym (length-take-le a xs le))
    ∙ get_or-append-add (take a xs) (ys ++ post_of a k xs) j 0
    ∙ get_or_append_left ys (post_of a k xs) 0 j lt

-- the bytes from `r` on of zeros with a byte at `r` and a part behind them
written : (r z n width : ℕ) (bits : List ℕ) (k : ℕ) → length bits ≡ 8 → r + 1 + z + 8 ≤ n → k < 9 + z
    → get_or (put_mid (r + 1 + z) width (set (replicate n 0) r 0x80) bits) (r + k) 0
    ≡ get_or (0x80 ∷ replicate z 0 ++ bits) k 0
written r z n width bits k eight room lt =
    let start : List ℕ = set (replicate n 0) r 0x80 in
    let long : length start ≡ n = length-set (replicate n 0) r 0x80 ∙ length-replicate {A = ℕ} n 0 in
    elim (cases_lt k (1 + z)) [
      | inl front ↦
          before_part (r + 1 + z) width (r + k) start bits (omega (arith, long, room)) (omega (arith, front))
          ∙ elim (cases_lt 0 k) [
            | inl some ↦
                one_in_zeros n r (r + k) 0x80 (omega (arith, room)) (omega (arith, some)) (omega (arith, room, front))
                ∙ sym (padding_zero z k bits (omega (arith, some)) (omega (arith, front)))
            | inr none ↦
                let first : k ≡ 0 = omega (arith, none) in
                ap (λ i. get_or start (r + i) 0) first ∙ ap (λ i. get_or start i 0) (add-zero r)
                ∙ get_or-set_same (replicate n 0) r 0x80 0 (omega (arith, room, length-replicate {A = ℕ} n 0))
                ∙ ap (λ i. get_or (0x80 ∷ replicate z 0 ++ bits) i 0) (sym first)
          ]
      | inr behind ↦
          let j = k - (1 + z) in
          let at : r + k ≡ r + 1 + z + j = omega (arith, behind) in
          ap (λ i. get_or (put_mid (r + 1 + z) width start bits) i 0) at
          ∙ in_part (r + 1 + z) width j start bits (omega (arith, long, room)) (omega (arith, eight, behind, lt))
          ∙ sym (padding_length z j k bits (omega (arith, behind)))
    ]

pub end_is : (len place width : ℕ) (bits : List ℕ) → place ≡ len % 64 + 1 + (119 - len % 64) % 64
    → bits ≡ to_be_bytes w64 (len * 8 % 2 ^ 64)
    → IsEndOf len (put_mid place width (set (replicate 128 0) (len % 64) 0x80) bits)
end_is len place width bits stands same = λ at le lt.
    let r = len % 64 in
    let z = (119 - len % 64) % 64 in
    let k = at - len in
    let back : at - 64 * (len / 64) ≡ r + k = omega (arith, le) in
    let eight : length bits ≡ 8 = ap length same in
    ap (λ p. get_or (put_mid p width (set (replicate 128 0) r 0x80) bits) (at - 64 * (len / 64)) 0) stands
    ∙ ap (λ i. get_or (put_mid (r + 1 + z) width (set (replicate 128 0) r 0x80) bits) i 0) back
    ∙ written r z 128 width bits k eight (omega arith) (omega (arith, le, lt))
    ∙ ap (λ ys. get_or (0x80 ∷ replicate z 0 ++ ys) k 0) same
