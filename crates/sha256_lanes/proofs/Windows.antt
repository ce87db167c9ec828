-- The words in one lane of a row, and the window of a schedule among them.
use Rattle.std.proofs.Common.{◌≡◌, ℕ, ◌+◌, ◌*◌, ◌%◌, ◌<◌, ◌≤◌, List, [], ◌∷◌, length, get_or, slice_index, set, refl, sym, ap, subst, ◌∙◌, arith}
use Rattle.std.proofs.lemmas.List.{get_or-map, map-set, length-map}
use Rattle.sha2.specs.Sha256.{add32, add_state, round, round_constants, rounds, window_word}
use Rattle.sha2.proofs.Schedule256.{IsWindow_first, rounds_first, rounds_window, window_word_place}
use Rattle.sha256_lanes.specs.declared.words.Words.{Words}
use Rattle.sha256_lanes.specs.declared.rounds.variables.Variables.{Variables}
use Rattle.sha256_lanes.specs.Words.{lane_word, lane_words, HoldsBlock}
use Rattle.sha256_lanes.specs.Hash.{lane_hash, AreRoundsAt}

pub lane_words_at : (rows : List Words) (lane i : ℕ) (d : Words) → i < length rows
    → lane_word (get_or rows i d) lane ≡ get_or (lane_words rows lane) i 0
lane_words_at rows lane i d lt = sym (get_or-map (λ words. lane_word words lane) rows i d 0 lt)

-- a window that holds a block is the one before round 16
pub begins : (block hash : List ℕ) (lane : ℕ) (window : List Words) (v : Variables) → length window ≡ 16
    → HoldsBlock window lane block → lane_hash v lane ≡ hash → AreRoundsAt block hash lane window 16 v 0
unfolding rounds
begins block hash lane window v e holds same = record {
  words = IsWindow_first block (lane_words window lane) (length-map window (λ words. lane_word words lane) ∙ e) holds;
  variables = same;
}

-- one of the first sixteen rounds
pub first_round : (block hash : List ℕ) (lane : ℕ) (window : List Words) (v w : Variables) (t x : ℕ) → t < 16
    → AreRoundsAt block hash lane window 16 v t → x ≡ slice_index (lane_words window lane) t
    → lane_hash w lane ≡ round (lane_hash v lane) (slice_index round_constants t) x
    → AreRoundsAt block hash lane window 16 w (t + 1)
first_round block hash lane window v w t x lt held e r = record {
  words = held.words;
  variables = rounds_first block hash (lane_words window lane) (lane_hash v lane) t (slice_index round_constants t) x (lane_hash w lane) lt held.words held.variables refl e r;
}

-- a round after the first sixteen, whose word takes its place in the window
pub later_round : (block hash : List ℕ) (lane : ℕ) (before after : List Words) (v w : Variables) (word : Words)
    (turn place : ℕ) → 1 ≤ turn → turn < 4 → place < 16
    → AreRoundsAt block hash lane before (16 * turn + place) v (16 * turn + place)
    → lane_word word lane ≡ window_word (lane_words before lane) place → after ≡ set before place word
    → lane_hash w lane ≡ round (lane_hash v lane) (slice_index round_constants (16 * turn + place)) (lane_word word lane)
    → AreRoundsAt block hash lane after (16 * turn + place + 1) w (16 * turn + place + 1)
later_round block hash lane before after v w word turn place low high lt held value window r =
    let t : ℕ = 16 * turn + place in
    let at : place ≡ t % 16 = omega arith in
    let moved : lane_words after lane ≡ set (lane_words before lane) (t % 16) (lane_word word lane) =
    ap (λ rows. lane_words rows lane) window ∙ map-set (λ words. lane_word words lane) before place word
    ∙ ap (λ i. set (lane_words before lane) i (lane_word word lane)) at in
    let both = rounds_window block hash (lane_words before lane) (lane_hash v lane) t (slice_index round_constants t) (lane_word word lane)
    (lane_words after lane) (lane_hash w lane) (omega arith) (omega arith) held.words held.variables
    (value ∙ window_word_place (lane_words before lane) turn place) moved refl r in
    record { words = both.0; variables = both.1 }

-- the same round, counted in another way
pub first_at : (block hash : List ℕ) (lane : ℕ) (window : List Words) (v : Variables) (t u : ℕ) → t ≡ u
    → AreRoundsAt block hash lane window 16 v t → AreRoundsAt block hash lane window 16 v u
first_at block hash lane window v t u e held = subst (λ n. AreRoundsAt block hash lane window 16 v n) e held

pub later_at : (block hash : List ℕ) (lane : ℕ) (window : List Words) (v : Variables) (t u : ℕ) → t ≡ u
    → AreRoundsAt block hash lane window t v t → AreRoundsAt block hash lane window u v u
later_at block hash lane window v t u e held = subst (λ n. AreRoundsAt block hash lane window n v n) e held

-- the sums of two hash values, word by word
pub added : {a b c d e f g h : ℕ} (u v : List ℕ)
    → a ≡ add32 (slice_index u 0) (slice_index v 0) → b ≡ add32 (slice_index u 1) (slice_index v 1)
    → c ≡ add32 (slice_index u 2) (slice_index v 2) → d ≡ add32 (slice_index u 3) (slice_index v 3)
    → e ≡ add32 (slice_index u 4) (slice_index v 4) → f ≡ add32 (slice_index u 5) (slice_index v 5)
    → g ≡ add32 (slice_index u 6) (slice_index v 6) → h ≡ add32 (slice_index u 7) (slice_index v 7)
    → (a ∷ b ∷ c ∷ d ∷ e ∷ f ∷ g ∷ h ∷ []) ≡ add_state u v
added u v p q r s t x y z = λ i. p i ∷ q i ∷ r i ∷ s i ∷ t i ∷ x i ∷ y i ∷ z i ∷ []
