-- The rounds of a schedule of falling heights: by what they lower, and what is left of the word.
use Rattle.std.proofs.Common.{◌≡◌, ◌≢◌, inl, inr, ℕ, ◌+◌, ◌-◌, ◌^◌, ◌<◌, ◌≤◌, List, []}
use Rattle.std.proofs.Common.{◌∷◌, sum, refl, ap, ◌∙◌, arith}
use Rattle.std.specs.Prelude.{All}
use Rattle.std.proofs.Math.Pow.{pow_mono}
use Rattle.std.proofs.lemmas.Bool.Decides.{leb_tells}
use Rattle.std.proofs.lemmas.List.Sums.{get_or-le-sum_by}
use Rattle.p3_fri_folding.specs.Schedule.{IsStrictlyFalling, tallest, schedule}
use Rattle.p3_fri_folding.proofs.Rounds.{schedule-nil, schedule-low}
use Rattle.p3_fri_folding.proofs.Fewest.{schedule-in_range, schedule-leads_down}
use Rattle.p3_fri_relation.specs.Setting.{Parameters, final_height}
use Rattle.p3_fri_prover.specs.Proved.{log_arities}
use Rattle.p3_fri_relation.specs.TallEnough.{IsTallEnough}
use Rattle.p3_fri_prover.specs.Played.{CanPlay}

-- they lower the tallest height by no more than it is
pub scheduled_within : (heights : List ℕ) (final cap : ℕ) → IsStrictlyFalling heights
    → sum (schedule heights final cap) ≤ tallest heights
scheduled_within [] final cap falling = rw (schedule-nil final cap) (omega arith)
scheduled_within (top ∷ further) final cap falling = elim (leb_tells top final) [
  | inl w ↦ rw (schedule-low top further final cap w.1) (omega arith)
  | inr w ↦
      let total = (schedule-leads_down (top ∷ further) final cap falling w.1).total in
      omega (arith, total)
]

-- and where it isn't below the final one, down to that
pub scheduled_total : (heights : List ℕ) (final cap : ℕ) → IsStrictlyFalling heights
    → final ≤ tallest heights → sum (schedule heights final cap) + final ≡ tallest heights
scheduled_total [] final cap falling tall = rw (schedule-nil final cap) (omega (arith, tall))
scheduled_total (top ∷ further) final cap falling tall = elim (leb_tells top final) [
  | inl w ↦ rw (schedule-low top further final cap w.1) (omega (arith, tall, w.1))
  | inr w ↦ (schedule-leads_down (top ∷ further) final cap falling w.1).total
]

-- of the parameters `p`, for words of these log heights, of which `top` is the first's
module _ (p : Parameters) (heights : List ℕ) (top : ℕ) (falling : IsStrictlyFalling heights)
    (first : tallest heights ≡ top) where
  abbrev arities : List ℕ
  arities = log_arities p heights top

  pub arities_within : sum arities ≤ top
  arities_within =
      omega (arith, first, scheduled_within heights (final_height p) p.max_log_arity falling)

  pub arities_total : final_height p ≤ top → sum arities + final_height p ≡ top
  arities_total tall =
      let e = scheduled_total heights (final_height p) p.max_log_arity falling
      (omega (arith, tall, first)) in
      omega (arith, e, first)

  pub arities_positive : 0 < p.max_log_arity → All (λ a. 0 < a) arities
  arities_positive capped k d l =
      (schedule-in_range heights (final_height p) p.max_log_arity capped k d l).0

  pub arities_below_64 : top < 64 → All (λ a. a < 64) arities
  arities_below_64 small k d l =
      omega (arith, small, arities_within, get_or-le-sum_by (λ a. a) arities k d l)

  -- where each word can be proved, the final polynomial is no taller than what is left
  module _ (some : heights ≢ []) (tall : All (IsTallEnough p) heights) where
    tallest_enough : (hs : List ℕ) → hs ≢ [] → All (IsTallEnough p) hs → IsTallEnough p (tallest hs)
    tallest_enough [] none each = absurd (none refl)
    tallest_enough (h ∷ hs) none each = each 0 0 (omega arith)

    pub final_polynomial_fits : p.log_final_poly_len ≤ top - sum arities
    final_polynomial_fits = elim (leb_tells p.log_final_poly_len 0) [
      | inl w ↦ omega (arith, w.1)
      | inr w ↦
          let above : final_height p < tallest heights = tallest_enough heights some tall w.1 in
          let total = (schedule-leads_down heights (final_height p) p.max_log_arity falling
          above).total in
          omega (arith, total, first)
    ]

    pub final_polynomial_within : (bound : ℕ) → top ≤ bound → p.log_final_poly_len ≤ bound
    final_polynomial_within bound small = omega (arith, small, final_polynomial_fits)

    -- so all can be played
    pub arities_playable : (most len : ℕ) → top ≤ most → len ≡ 2 ^ top
        → CanPlay arities p.log_final_poly_len most len
    arities_playable most len small size =
        let e : top ≡ top - sum arities + sum arities = omega (arith, arities_within) in
        record {
          height = top - sum arities;
          length_of_word = size ∙ ap (λ m. 2 ^ m) e;
          within = omega (arith, small, arities_within);
          long_enough = final_polynomial_fits;
        }

    pub last_word_long : (len : ℕ) → len ≡ 2 ^ (top - sum arities)
        → 2 ^ p.log_final_poly_len ≤ len
    last_word_long len size =
        omega (arith, size, pow_mono final_polynomial_fits)

    -- and the final height fits, where the log blowup does
    pub final_height_fits : top < 64 → p.log_blowup < 2 ^ 64 → final_height p < 2 ^ 64
    final_height_fits small blowup = elim (leb_tells p.log_final_poly_len 0) [
      | inl w ↦ omega (arith, w.1, blowup)
      | inr w ↦
          let above : final_height p < tallest heights = tallest_enough heights some tall w.1 in
          omega (arith, above, first, small)
    ]
