-- Words of messages that follow one another, and of their blocks.
use Rattle.std.proofs.Common.{◌≡◌, ℕ, zero, suc, ◌+◌, ◌-◌, ◌*◌, ◌/◌, ◌<◌, ◌≤◌, List, [], ◌∷◌, ◌++◌, length, take, drop}
use Rattle.std.proofs.Common.{get_or, set, w32, sym, ap, inl, inr, ◌∙◌, add-zero, arith}
use Rattle.std.proofs.lemmas.Simd.{length-chunk, get_or-chunk}
use Rattle.std.proofs.lemmas.List.{get_or_append_left, get_or-append-add, get_or-set_same, get_or-set_other, map-set, length-map}
use Rattle.std.proofs.lemmas.Bool.{cases_lt}
use Rattle.std.proofs.Math.Nat.{mul-le-mul_right}
use Rattle.std.specs.Int.{from_be_bytes}
use Rattle.sha2.specs.Sha256.{compress, digest_bytes, hash_after, initial_hash_256, padded_message, padding, word_at}
use Rattle.sha2.proofs.Absorbing256.{hash_after_next}
use Rattle.sha256_lanes.specs.declared.words.Words.{Words}
use Rattle.sha256_lanes.specs.Lanes.{message_of}
use Rattle.sha256_lanes.specs.Words.{lane_word, lane_words}
use Rattle.sha256_lanes.specs.Blocks.{block_of, blocks_of, IsEndOf}

-- four bytes that are the same make the same word
pub word_same : (b c : List ℕ) (i j : ℕ) → ((k : ℕ) → k < 4 → get_or b (i + k) 0 ≡ get_or c (j + k) 0)
    → word_at b i ≡ word_at c j
word_same b c i j h =
    let first : get_or b i 0 ≡ get_or c j 0 =
    ap (λ n. get_or b n 0) (sym (add-zero i)) ∙ h 0 (omega arith) ∙ ap (λ n. get_or c n 0) (add-zero j) in
    λ t. from_be_bytes w32 (first t ∷ h 1 (omega arith) t ∷ h 2 (omega arith) t ∷ h 3 (omega arith) t ∷ [])

-- a word of a part
pub word_of_part : (xs : List ℕ) (from n at : ℕ) → at + 4 ≤ n → word_at (take n (drop from xs)) at ≡ word_at xs (from + at)
word_of_part xs from n at le = word_same (take n (drop from xs)) xs at (from + at) (λ k lt.
    get_or-chunk from n xs (at + k) 0 (omega (arith, le, lt)) ∙ ap (λ i. get_or xs i 0) (omega arith))

-- a word of what stands in front
pub word_in_front : (m p : List ℕ) (at : ℕ) → at + 4 ≤ length m → word_at m at ≡ word_at (m ++ p) at
word_in_front m p at le = word_same m (m ++ p) at at (λ k lt. sym (get_or_append_left m p 0 (at + k) (omega (arith, le, lt))))

pub message_length : (bytes : List ℕ) (len lane : ℕ) → length bytes ≡ 8 * len → lane < 8 → length (message_of len lane bytes) ≡ len
message_length bytes len lane e lt =
    let within : (lane + 1) * len ≤ 8 * len = mul-le-mul_right len (omega (arith, lt)) in
    length-chunk (lane * len) len bytes (omega (arith, within, e))

pub message_word : (bytes : List ℕ) (len lane at from : ℕ) → at + 4 ≤ len → from ≡ lane * len + at
    → word_at bytes from ≡ word_at (message_of len lane bytes) at
message_word bytes len lane at from le e = ap (word_at bytes) e ∙ sym (word_of_part bytes (lane * len) len at le)

-- a number for each lane
pub eight_of : (f : ℕ → ℕ) (a b c d e g h i : ℕ) → a ≡ f 0 → b ≡ f 1 → c ≡ f 2 → d ≡ f 3 → e ≡ f 4 → g ≡ f 5 → h ≡ f 6
    → i ≡ f 7 → (lane : ℕ) → lane < 8 → get_or (a ∷ b ∷ c ∷ d ∷ e ∷ g ∷ h ∷ i ∷ []) lane 0 ≡ f lane
eight_of f a b c d e g h i p q r s t u v w zero lt = p
eight_of f a b c d e g h i p q r s t u v w (suc zero) lt = q
eight_of f a b c d e g h i p q r s t u v w (suc (suc zero)) lt = r
eight_of f a b c d e g h i p q r s t u v w (suc (suc (suc zero))) lt = s
eight_of f a b c d e g h i p q r s t u v w (suc (suc (suc (suc zero)))) lt = t
eight_of f a b c d e g h i p q r s t u v w (suc (suc (suc (suc (suc zero))))) lt = u
eight_of f a b c d e g h i p q r s t u v w (suc (suc (suc (suc (suc (suc zero)))))) lt = v
eight_of f a b c d e g h i p q r s t u v w (suc (suc (suc (suc (suc (suc (suc zero))))))) lt = w
eight_of f a b c d e g h i p q r s t u v w (suc (suc (suc (suc (suc (suc (suc (suc n)))))))) lt = absurd (omega (arith, lt))

-- one more row
pub rows_next : (f : ℕ → ℕ → ℕ) (rows : List Words) (i : ℕ) (words : Words) → length rows ≡ 16 → i < 16
    → ((lane k : ℕ) → lane < 8 → k < i → get_or (lane_words rows lane) k 0 ≡ f lane k)
    → ((lane : ℕ) → lane < 8 → lane_word words lane ≡ f lane i)
    → (lane k : ℕ) → lane < 8 → k < i + 1 → get_or (lane_words (set rows i words) lane) k 0 ≡ f lane k
rows_next f rows i words e below held new lane k lt le =
    let same = map-set (λ w. lane_word w lane) rows i words in
    ap (λ ws. get_or ws k 0) same ∙ elim (cases_lt k i) [
      | inl a ↦ get_or-set_other (lane_words rows lane) i k (lane_word words lane) 0 (omega arith) ∙ held lane k lt a
      | inr b ↦
          let own : i ≡ k = omega arith in
          ap (λ n. get_or (set (lane_words rows lane) i (lane_word words lane)) n 0) (sym own)
          ∙ get_or-set_same (lane_words rows lane) i (lane_word words lane) 0 (omega (arith, e, below, length-map rows (λ w. lane_word w lane)))
          ∙ new lane lt ∙ ap (f lane) own
    ]

-- a word of a block
pub block_word : (padded : List ℕ) (n k : ℕ) → k < 16 → word_at padded (64 * n + 4 * k) ≡ word_at (block_of n padded) (4 * k)
block_word padded n k lt = ap (word_at padded) (omega arith) ∙ sym (word_of_part padded (n * 64) 64 (4 * k) (omega (arith, lt)))

-- a byte of a padded message, of its own bytes or of its padding
pub own_byte : (bytes : List ℕ) (len lane at : ℕ) → length bytes ≡ 8 * len → lane < 8 → at < len
    → get_or bytes (lane * len + at) 0 ≡ get_or (padded_message (message_of len lane bytes)) at 0
own_byte bytes len lane at e lt below =
    let m = message_of len lane bytes in
    sym (get_or_append_left m (padding (length m)) 0 at (omega (arith, message_length bytes len lane e lt, below))
    ∙ get_or-chunk (lane * len) len bytes at 0 below)

pub end_byte : (m end : List ℕ) (len at : ℕ) → length m ≡ len → IsEndOf len end → len ≤ at → at < 64 * blocks_of len
    → get_or end (at - 64 * (len / 64)) 0 ≡ get_or (padded_message m) at 0
end_byte m end len at e held le lt =
    let split : at ≡ length m + (at - len) = omega (arith, e, le) in
    held at le lt
    ∙ ap (λ n. get_or (padding n) (at - len) 0) (sym e)
    ∙ sym (get_or-append-add m (padding (length m)) (at - len) 0)
    ∙ ap (λ i. get_or (padded_message m) i 0) (sym split)

pub end_word : (m end : List ℕ) (len at : ℕ) → length m ≡ len → IsEndOf len end → len ≤ at → at + 4 ≤ 64 * blocks_of len
    → word_at end (at - 64 * (len / 64)) ≡ word_at (padded_message m) at
end_word m end len at e held le lt = word_same end (padded_message m) (at - 64 * (len / 64)) at (λ k small.
    ap (λ i. get_or end i 0) (omega arith) ∙ end_byte m end len (at + k) e held (omega arith) (omega arith))

-- the bytes of a hash value of the same words
pub same_bytes : {a b c d e f g h a' b' c' d' e' f' g' h' : ℕ} → a ≡ a' → b ≡ b' → c ≡ c' → d ≡ d' → e ≡ e' → f ≡ f'
    → g ≡ g' → h ≡ h'
    → digest_bytes (a ∷ b ∷ c ∷ d ∷ e ∷ f ∷ g ∷ h ∷ []) 8 ≡ digest_bytes (a' ∷ b' ∷ c' ∷ d' ∷ e' ∷ f' ∷ g' ∷ h' ∷ []) 8
same_bytes p q r s t x y z = λ i. digest_bytes (p i ∷ q i ∷ r i ∷ s i ∷ t i ∷ x i ∷ y i ∷ z i ∷ []) 8

-- one more digest
pub digests_next : (f : ℕ → List ℕ) (digests : List (List ℕ)) (i : ℕ) (digest : List ℕ) → i < length digests
    → ((lane : ℕ) → lane < i → get_or digests lane [] ≡ f lane) → digest ≡ f i
    → (lane : ℕ) → lane < i + 1 → get_or (set digests i digest) lane [] ≡ f lane
digests_next f digests i digest below held new lane le = elim (cases_lt lane i) [
  | inl a ↦ get_or-set_other digests i lane digest [] (omega arith) ∙ held lane a
  | inr b ↦
      let own : i ≡ lane = omega arith in
      ap (λ n. get_or (set digests i digest) n []) (sym own) ∙ get_or-set_same digests i digest [] below ∙ new ∙ ap f own
]

-- the hash value after one more block
pub hashed : (padded hash next : List ℕ) (n : ℕ) → hash ≡ hash_after initial_hash_256 padded n
    → next ≡ compress hash (block_of n padded) → next ≡ hash_after initial_hash_256 padded (n + 1)
hashed padded hash next n held e =
    e ∙ ap (λ h. compress h (block_of n padded)) held ∙ sym (hash_after_next initial_hash_256 padded n)
